-- A counter of as many places as are wanted.
use Rattle.std.proofs.Common.{◌^◌, arith, zero, suc, ℕ, ◌≤◌}
use Rattle.ae_clocked.proofs.Belonging.{phase_keeps}
use Rattle.ae_clocked.proofs.Making.{counter_net, counter_counts}
use Rattle.ae_fold.proofs.marks.place.Goals as goal

some_bits : (reach bits : ℕ) → 8 ≤ reach → reach ≤ 2 ^ bits → 1 ≤ bits
some_bits reach zero l h = absurd (omega (arith, l, h))
some_bits reach (suc b) l h = omega arith

pub returns-clause-place : goal.returns-clause-place
returns-clause-place c =
    let some = some_bits c.args.reach c.levels-bits.result (omega arith) c.levels-bits.ensures.deep in
    record {
      some = some;
      few = c.levels-bits.ensures.small;
      reaches = c.levels-bits.ensures.deep;
      net = counter_net _ _ _ c.levels-bits.result _ c.ring_depth.ensures.holds some c.in_ok-net.ensures.counts;
    }

pub returns-clause-turns : goal.returns-clause-turns
returns-clause-turns c = counter_counts _ _ _ c.levels-bits.result _ c.ring_depth.ensures.holds c.in_ok-net.ensures.counts

pub returns-clause-keeps : goal.returns-clause-keeps
returns-clause-keeps c =
    phase_keeps _ _ _ c.in_ok-net.net c.in_ok-net.ensures.rst c.in_ok-net.ensures.keeps (λ n found. (c.in_ok-net.ensures.again n found).2)
