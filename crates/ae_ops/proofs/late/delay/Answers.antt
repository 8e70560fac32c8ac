-- One line more, and at the end a line for each net.
use Rattle.std.proofs.Common.{length, ℕ, ◌≡◌, ◌∙◌, ◌+◌, ◌*◌, ◌++◌, ◌∷◌, [], arith, refl}
use Rattle.ae_gates.proofs.Adding.{grows_trans}
use Rattle.ae_clocked.specs.Delays.{line_cells}
use Rattle.ae_clocked.specs.Rings.{rings}
use Rattle.ae_ops.proofs.Lateness.{cells_within, late_of, line_one, nets_of, own_later, rings_one, same_width, tapped_all, tapping_more, there}
use Rattle.ae_ops.proofs.late.delay.Goals as goal
use Rattle.ae_clocked.proofs.InRow.{keeps_trans}

pub ring_line-requires-clause-net : goal.ring_line-requires-clause-net
ring_line-requires-clause-net c =
    own_later _ _ c.nets-nets.result.now _ c.loop-net.net-index c.nets-nets.ensures c.loop-net.invariant.grows.extends c.requires.nets c.loop-net-test.true

pub ring_line-requires-clause-belongs : goal.ring_line-requires-clause-belongs
ring_line-requires-clause-belongs c = c.loop-net.invariant.belongs

pub returns-clause-belongs : goal.returns-clause-belongs
returns-clause-belongs c = c.loop-net.invariant.belongs

pub returns-clause-keeps : goal.returns-clause-keeps
returns-clause-keeps c = c.loop-net.invariant.keeps

pub returns-clause-grows : goal.returns-clause-grows
returns-clause-grows c = c.loop-net.invariant.grows

pub returns-clause-muls : goal.returns-clause-muls
returns-clause-muls c = c.loop-net.invariant.muls

pub returns-clause-whole : goal.returns-clause-whole
returns-clause-whole c = c.loop-net.invariant.whole

pub returns-clause-cells : goal.returns-clause-cells
returns-clause-cells c =
    cells_within _ _ c.loop-net.net-index (8 * c.args.slack + 4) c.nets-nets.result.now c.args.bundle.now c.nets-nets.ensures c.loop-net.auto.net-index-end
    c.loop-net.invariant.cells

pub returns-clause-memories : goal.returns-clause-memories
returns-clause-memories c =
    cells_within _ _ c.loop-net.net-index (rings c.args.slack) c.nets-nets.result.now c.args.bundle.now c.nets-nets.ensures
    c.loop-net.auto.net-index-end c.loop-net.invariant.memories

pub loop-net-preserved : goal.loop-net-preserved
loop-net-preserved c =
    let was = c.loop-net.invariant in
    let more = c.in_ok-tapped.ensures in
    let k : ℕ = c.loop-net.net-index in
    let kept : c.push.new.self.items ≡ c.loop-net.late.items ++ c.tap.result ∷ [] = c.in_ok-push.ensures.items in
    let tap = rw was.keeps.rst at (more.taps.each 0 c.args.slack _ refl c.tap.ensures) in
    record {
      belongs = more.belongs;
      keeps = keeps_trans was.keeps more.keeps;
      grows = grows_trans was.grows more.grows;
      cells = omega (arith, was.cells, more.cells, line_one c.args.slack);
      muls = more.muls ∙ was.muls;
      memories = omega (arith, was.memories, more.memories, rings_one c.args.slack);
      whole = λ h. more.whole (was.whole h);
      taps = rw kept
          (tapping_more _ _ _ _ _ _ _ _ _ _ c.tap.result more.grows.extends was.taps (there c.nets-nets.result.now k c.loop-net-test.true)
          (same_width _ _ c.nets-nets.result.now _ k c.nets-nets.ensures was.grows.extends c.requires.nets c.loop-net-test.true) tap);
    }

pub returns-clause-nets : goal.returns-clause-nets
returns-clause-nets c =
    nets_of _ _ _ _ _ _ (tapped_all _ _ _ _ _ _ _ _ _ c.nets-nets.ensures c.new.ensures (omega arith) c.loop-net.invariant.taps)

pub returns-clause-late : goal.returns-clause-late
returns-clause-late c =
    late_of _ _ _ _ _ _ (tapped_all _ _ _ _ _ _ _ _ _ c.nets-nets.ensures c.new.ensures (omega arith) c.loop-net.invariant.taps)

pub ring_line-requires-clause-room : goal.ring_line-requires-clause-room
ring_line-requires-clause-room c =
    let was = c.loop-net.invariant in
    let part = cells_within (length c.args.nl.now.cells) (length c.loop-net.nl.cells + line_cells (c.args.slack ∷ [])) (c.loop-net.net-index + 1)
    (8 * c.args.slack + 4)
    c.nets-nets.result.now c.args.bundle.now c.nets-nets.ensures (omega (arith, c.loop-net-test.true)) (omega (arith, was.cells, line_one c.args.slack)) in
    omega (arith, c.requires.room, was.grows.limit, part)
