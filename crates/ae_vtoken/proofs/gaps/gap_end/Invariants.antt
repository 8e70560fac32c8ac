use Rattle.std.proofs.Common.{length, ◌-◌, ◌≡◌, ◌≤◌, drop}
use Rattle.ae_vtoken.specs.Tokens.{after_gap, Between}
use Rattle.ae_vtoken.proofs.gaps.gap_end.Given as goal

-- the gap goes on at i
abbrev pub invariant-gap : goal.invariant-gap
invariant-gap l = (l.from ≤ l.i) × (l.i ≤ length l.text) × (after_gap Between (drop l.from l.text) ≡ after_gap Between (drop l.i l.text))

abbrev pub decreases-gap : goal.decreases-gap
decreases-gap l = length l.text - l.i
