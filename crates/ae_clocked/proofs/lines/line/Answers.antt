-- The netlist has grown, and each tap is a net of the chain.
use Rattle.std.proofs.Common.{ℕ, ◌≡◌, ◌+◌, ◌≤◌, List, ◌++◌, ◌∷◌, [], length, get_or, slice_get, Some, refl, arith}
use Rattle.std.proofs.lemmas.Option.{slice_get-get_or, slice_get_read}
use Rattle.ae_clocked.proofs.Belonging.{belongs_grows, keeps_same}
use Rattle.ae_clocked.proofs.Late.{late_taps, taps_more, below_greatest, taps_none}
use Rattle.std.proofs.lemmas.List.{take_all}
use Rattle.ae_clocked.proofs.lines.line.Goals as goal

pub returns-clause-belongs : goal.returns-clause-belongs
returns-clause-belongs c = belongs_grows _ _ _ c.in_ok-nets.ensures.adds.grows c.requires.belongs

pub returns-clause-keeps : goal.returns-clause-keeps
returns-clause-keeps c = keeps_same _

pub loop-tap-preserved : goal.loop-tap-preserved
loop-tap-preserved c =
    let taps : List ℕ = c.args.taps.now in
    let tap : ℕ = get_or taps c.loop-tap.tap-index 0 in
    let there : slice_get taps c.loop-tap.tap-index ≡ Some tap = slice_get-get_or taps c.loop-tap.tap-index 0 c.loop-tap-test.true in
    let small : tap ≤ c.greatest.result = rw c.greatest.ensures (below_greatest taps c.loop-tap.tap-index c.loop-tap-test.true) in
    let long : length c.in_ok-nets.nets.items ≡ c.greatest.result + 1 = c.in_ok-nets.ensures.long in
    let net = c.in_ok-nets.ensures.delays.each tap c.index.result.now
    (slice_get_read c.in_ok-nets.nets.items (length c.in_ok-nets.nets.items) tap c.index.result.now refl (omega arith) c.index.ensures) in
    let kept : c.push.new.self.items ≡ c.loop-tap.tapped.items ++ c.index.result.now ∷ [] = c.in_ok-push.ensures.items in
    rw kept (taps_more _ _ _ _ _ taps _ tap _ c.loop-tap.invariant there (late_taps _ _ _ _ _ _ (rw c.width_at-width.ensures at net)))

pub index-requires : goal.index-requires
index-requires c =
    let small : get_or c.args.taps.now c.loop-tap.tap-index 0 ≤ c.greatest.result = rw c.greatest.ensures
    (below_greatest c.args.taps.now c.loop-tap.tap-index c.loop-tap-test.true) in
    let long : length c.in_ok-nets.nets.items ≡ c.greatest.result + 1 = c.in_ok-nets.ensures.long in
    first_of (omega arith, grind arith)

pub chain-requires-clause-net : goal.chain-requires-clause-net
chain-requires-clause-net c = rw c.width_at-width.ensures c.requires.net

pub loop-tap-init : goal.loop-tap-init
loop-tap-init c = rw c.new-tapped.ensures.items (taps_none _ _ _ _)

pub returns-clause-grows : goal.returns-clause-grows
returns-clause-grows c = c.in_ok-nets.ensures.adds.grows

pub returns-clause-cells : goal.returns-clause-cells
returns-clause-cells c = omega (arith, c.in_ok-nets.ensures.adds.cells, c.greatest.ensures)

pub returns-clause-muls : goal.returns-clause-muls
returns-clause-muls c = omega (arith, c.in_ok-nets.ensures.adds.muls)

pub returns-clause-memories : goal.returns-clause-memories
returns-clause-memories c = c.in_ok-nets.ensures.adds.memories

pub returns-clause-whole : goal.returns-clause-whole
returns-clause-whole c = c.in_ok-nets.ensures.adds.whole

pub returns-clause-taps : goal.returns-clause-taps
returns-clause-taps c =
    let whole = take_all c.loop-tap.tap-index c.args.taps.now c.loop-tap-test.false in
    rw whole at c.loop-tap.invariant
