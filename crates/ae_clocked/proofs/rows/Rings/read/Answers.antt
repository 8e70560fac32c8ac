-- The rings of the net are there.
use Rattle.std.proofs.Common.{◌≡◌, ◌≤◌, arith, sym, ◌∙◌}
use Rattle.std.proofs.lemmas.Option.{none-some, same_Some}
use Rattle.ae_netlist.proofs.Growing.{net_width}
use Rattle.ae_clocked.proofs.Keeping.{row_taps}
use Rattle.ae_clocked.proofs.rows.Rings.read.Goals as goal

pub width_at-width-requires : goal.width_at-width-requires
width_at-width-requires c =
    let own = c.requires.holds.1.each c.args.x.0 c.requires.there.0 c.requires.there.1 in
    rw (net_width own.net) own.net

pub far_tap-requires-clause-long : goal.far_tap-requires-clause-long
far_tap-requires-clause-long c =
    let there = c.requires.there in
    let own = c.requires.holds.1.each c.args.x.0 c.in-Some.row.now (sym c.in-Some.ensures) in
    let same = same_Some there.0 c.in-Some.row.now (sym there.1 ∙ sym c.in-Some.ensures) in
    let l : c.args.delay ≤ c.in-Some.row.now.reach = rw (← same) there.2 in
    rw c.deref.ensures.value (omega (arith, own.long, l))

pub far_tap-requires-clause-links : goal.far_tap-requires-clause-links
far_tap-requires-clause-links c =
    let there = c.requires.there in
    let own = c.requires.holds.1.each c.args.x.0 c.in-Some.row.now (sym c.in-Some.ensures) in
    let same = same_Some there.0 c.in-Some.row.now (sym there.1 ∙ sym c.in-Some.ensures) in
    let l : c.args.delay ≤ c.in-Some.row.now.reach = rw (← same) there.2 in
    let wide : c.width_at-width.result ≡ own.width = c.width_at-width.ensures ∙ net_width own.net in
    (c.requires.holds.0, c.args.x.0, c.in-Some.row.now.reach, rw (c.deref.ensures.value, wide) own.links, l)

pub unreachable-requires : goal.unreachable-requires
unreachable-requires c = none-some _ (c.in-None.ensures ∙ c.requires.there.1)

pub returns-clause-tap : goal.returns-clause-tap
returns-clause-tap c =
    row_taps c.far_tap.result c.args.self.now c.args.x.0 c.in-Some.row.now _ _ _ _ _
    (sym c.in-Some.ensures) c.deref.ensures.value c.width_at-width.ensures c.far_tap.ensures.tap
