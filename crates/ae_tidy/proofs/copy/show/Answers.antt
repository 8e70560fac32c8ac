-- Each turn shows one net more.
use Rattle.std.proofs.Common.{◌≡◌, ◌<◌, length, List, take, ap, ◌∙◌, arith}
use Rattle.std.proofs.Math.Seq.{take-length}
use Rattle.ae_netlist.specs.declared.cell.Outlet.{Outlet}
use Rattle.ae_netlist.specs.Circuit.{Circuit}
use Rattle.ae_tidy.specs.Copies.{wanted}
use Rattle.ae_tidy.proofs.Whole.{shown_net, shown_mapped, shown_more, shown_count}
use Rattle.ae_tidy.proofs.copy.show.Goals as goal

pub net-net-requires : goal.net-net-requires
net-net-requires c =
    shown_mapped c.args.nl.now c.args.new.now.cells c.args._keep.now c.args.table.now.at.items c.args.table.now.made.items
    (length c.args.new.now.cells) c.loop-k.k c.outlet_at-outlet.result c.formed.ensures.outlets c.requires.marked c.outlet_at-outlet.ensures
    c.requires.copied

pub add_output-requires-clause-net : goal.add_output-requires-clause-net
add_output-requires-clause-net c =
    rw c.loop-k.invariant.cells
    (shown_net c.args.nl.now c.args.new.now.cells c.args._keep.now c.args.table.now.at.items c.args.table.now.made.items (length c.args.nl.now.cells)
    (length c.args.new.now.cells) c.loop-k.k c.net-net.result.0 c.outlet_at-outlet.result c.formed.ensures.outlets c.outlet_at-outlet.ensures
    c.net-net.ensures c.requires.copied)

pub add_output-requires-clause-room : goal.add_output-requires-clause-room
add_output-requires-clause-room c =
    let l : c.loop-k.k < length c.args.nl.now.outlets = omega (arith, c.loop-k.invariant.all) in
    omega (arith, shown_count c.args.table.now.at.items c.args.nl.now.outlets c.loop-k.new.outlets c.loop-k.k c.loop-k.invariant.shown l, c.formed.ensures.few)

pub loop-k-preserved : goal.loop-k-preserved
loop-k-preserved c =
    let cells = ap (λ (v : Circuit). v.cells) c.in_ok-add_output.ensures.ok in
    let limit = ap (λ (v : Circuit). v.limit) c.in_ok-add_output.ensures.ok in
    let outlets = ap (λ (v : Circuit). v.outlets) c.in_ok-add_output.ensures.ok in
    record {
      all = c.loop-k.invariant.all;
      cells = cells ∙ c.loop-k.invariant.cells;
      limit = limit ∙ c.loop-k.invariant.limit;
      shown = rw outlets (shown_more c.args.table.now.at.items c.args.nl.now.outlets c.loop-k.new.outlets c.loop-k.k c.outlet_at-outlet.result c.net-net.result
          c.outlet_at-outlet.ensures c.net-net.ensures c.loop-k.invariant.shown);
    }

pub returns-clause-shown : goal.returns-clause-shown
returns-clause-shown c =
    let e : c.loop-k.k ≡ length c.args.nl.now.outlets = omega (arith, c.loop-k.invariant.all) in
    c.loop-k.invariant.shown ∙ ap (λ (l : List Outlet). wanted c.args.table.now.at.items l)
    (ap (λ i. take i c.args.nl.now.outlets) e ∙ take-length c.args.nl.now.outlets)
