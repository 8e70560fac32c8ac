-- One net more, and at the end each net of the bundle.
use Rattle.std.proofs.Common.{ℕ, ◌≡◌, ◌+◌, ◌*◌, ◌≤◌, ◌++◌, ◌∷◌, [], length, arith, ap}
use Rattle.std.proofs.Math.Nat.{mul-le-mul_left}
use Rattle.ae_netlist.specs.Circuit.{Circuit}
use Rattle.ae_clocked.specs.KeptRings.{AddsRings}
use Rattle.ae_clocked.proofs.Keeping.{no_rings_added, rings_most, rings_trans}
use Rattle.ae_ops.proofs.Lateness.{late_of, nets_of, own_later, same_width, tapped_all, tapping_more, tapping_none, there}
use Rattle.ae_lower.specs.Growth.{GrowsBy}
use Rattle.ae_lower.proofs.Growing.{keeps_none, rings_by, rings_spend}
use Rattle.ae_lower.proofs.items.waited.Goals as goal
use Rattle.ae_clocked.proofs.InRow.{keeps_trans}

abbrev next_tap : {a b d : Circuit} {u v w : ℕ} (slack k : ℕ) → AddsRings a b (16 * (slack * k)) u v → AddsRings b d (16 * slack) v w
    → AddsRings a d (16 * (slack * (k + 1))) u w
next_tap slack k p q = rings_most (16 * (slack * (k + 1))) (omega arith) (rings_trans p q)

within : {a b : Circuit} {u v : ℕ} (slack k n : ℕ) → k ≤ n → AddsRings a b (16 * (slack * k)) u v → GrowsBy a b (slack * n)
within slack k n l h = let up : slack * k ≤ slack * n = mul-le-mul_left slack l in rings_by (slack * n) (omega (arith, up)) h

pub tap-requires-clause-rows : goal.tap-requires-clause-rows
tap-requires-clause-rows c = rw c.loop-net.invariant.keeps.rst c.loop-net.invariant.rings

pub tap-requires-clause-net : goal.tap-requires-clause-net
tap-requires-clause-net c =
    own_later _ _ c.nets-nets.result.now _ c.loop-net.net-index c.nets-nets.ensures c.loop-net.invariant.adds.grows.extends c.requires.nets c.loop-net-test.true

pub tap-requires-clause-belongs : goal.tap-requires-clause-belongs
tap-requires-clause-belongs c = c.loop-net.invariant.belongs

pub returns-clause-belongs : goal.returns-clause-belongs
returns-clause-belongs c = c.loop-net.invariant.belongs

pub returns-clause-keeps : goal.returns-clause-keeps
returns-clause-keeps c = c.loop-net.invariant.keeps

pub returns-clause-rings : goal.returns-clause-rings
returns-clause-rings c = c.loop-net.invariant.rings

pub loop-net-init : goal.loop-net-init
loop-net-init c = record {
  belongs = c.requires.belongs;
  keeps = keeps_none c.args.clocks.now;
  rings = c.requires.rings;
  adds = no_rings_added _ _ _;
  taps = rw c.new-late.ensures.items (tapping_none _ _ _ _);
}

pub loop-net-preserved : goal.loop-net-preserved
loop-net-preserved c =
    let was = c.loop-net.invariant in
    let more = c.in_ok-tap.ensures in
    let k : ℕ = c.loop-net.net-index in
    let kept : c.push.new.self.items ≡ c.loop-net.late.items ++ c.in_ok-tap.tap ∷ [] = c.in_ok-push.ensures.items in
    record {
      belongs = more.belongs;
      keeps = keeps_trans was.keeps more.keeps;
      rings = rw was.keeps.rst at more.rows;
      adds = next_tap c.args.slack k was.adds more.adds;
      taps = rw kept
          (tapping_more _ _ _ _ _ _ _ _ _ _ c.in_ok-tap.tap more.adds.grows.extends was.taps (there c.nets-nets.result.now k c.loop-net-test.true)
          (same_width _ _ c.nets-nets.result.now _ k c.nets-nets.ensures was.adds.grows.extends c.requires.nets c.loop-net-test.true)
          (rw was.keeps.rst at more.tap));
    }

pub returns-clause-grows : goal.returns-clause-grows
returns-clause-grows c =
    within c.args.slack c.loop-net.net-index (length c.args.bundle.now) (omega (arith, ap length c.nets-nets.ensures)) c.loop-net.invariant.adds

pub returns-clause-spends : goal.returns-clause-spends
returns-clause-spends c = rings_spend c.loop-net.invariant.adds

pub returns-clause-nets : goal.returns-clause-nets
returns-clause-nets c =
    nets_of _ _ _ _ _ _ (tapped_all _ _ _ _ _ _ _ _ _ c.nets-nets.ensures c.new.ensures (omega arith) c.loop-net.invariant.taps)

pub returns-clause-late : goal.returns-clause-late
returns-clause-late c =
    late_of _ _ _ _ _ _ (tapped_all _ _ _ _ _ _ _ _ _ c.nets-nets.ensures c.new.ensures (omega arith) c.loop-net.invariant.taps)

pub tap-requires-clause-room : goal.tap-requires-clause-room
tap-requires-clause-room c =
    let k : ℕ = c.loop-net.net-index in
    let up : c.args.slack * (k + 1) ≤ c.args.slack * length c.args.bundle.now = mul-le-mul_left c.args.slack
    (omega (arith, c.loop-net-test.true, ap length c.nets-nets.ensures)) in
    omega (arith, c.requires.room, c.loop-net.invariant.adds.cells, c.loop-net.invariant.adds.grows.limit, up)
