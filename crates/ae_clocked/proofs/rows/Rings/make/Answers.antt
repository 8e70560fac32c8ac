-- Rings that hold the words of the net, and are found again.
use Rattle.std.proofs.Common.{arith, refl, ◌∙◌}
use Rattle.std.proofs.lemmas.Bool.{eq-eqb}
use Rattle.ae_netlist.proofs.Growing.{net_later}
use Rattle.ae_clocked.specs.KeptRings.{IsRingRow}
use Rattle.ae_clocked.specs.declared.rows.RingRow.{RingRow}
use Rattle.ae_clocked.proofs.Keeping.{rings_grow, rings_kept, rings_made, rings_stay}
use Rattle.ae_clocked.proofs.rows.Rings.make.Goals as goal

pub spend-requires : goal.spend-requires
spend-requires c = omega (arith, c.requires.left, c.requires.late)

pub returns-clause-adds : goal.returns-clause-adds
returns-clause-adds c = rings_made _ _ (omega (arith, c.spend.ensures.left, c.in_ok-keep.ensures.left, c.requires.late)) c.in_ok-links.ensures.adds

pub returns-clause-rows : goal.returns-clause-rows
returns-clause-rows c =
    let row : RingRow = record { reach = c.args.reach; links = c.in_ok-links.links } in
    let grown = c.in_ok-links.ensures.adds.grows.extends in
    let made : IsRingRow c.make_row.new.nl.cells c.args.clocks.now.rst c.args.x.0 row = record {
      width = c.width_at-width.result;
      net = rw c.width_at-width.ensures (net_later grown c.requires.net);
      late = c.requires.late;
      long = c.in_ok-links.ensures.long;
      links = c.in_ok-links.ensures.links;
    } in
    rings_kept c.spend.new.self c.keep.new.self c.args.clocks.now.rst c.args.x.0 row c.make_row.new.nl.cells c.in_ok-keep.ensures.kept
    (rings_stay c.args.self.now c.spend.new.self c.args.clocks.now.rst c.make_row.new.nl.cells c.spend.ensures.rows (rings_grow grown c.requires.rows)) made

pub returns-clause-made : goal.returns-clause-made
returns-clause-made c =
    let row : RingRow = record { reach = c.args.reach; links = c.in_ok-links.links } in
    (row, c.in_ok-keep.ensures.kept c.args.x.0 ∙ rw (eq-eqb c.args.x.0 c.args.x.0 refl) refl, refl)
