use Rattle.std.proofs.Common.{length, ◌-◌, ◌≡◌, ◌≤◌, drop}
use Rattle.ae_vtoken.specs.Tokens.{after_gap, InLine}
use Rattle.ae_vtoken.proofs.gaps.line_end.Given as goal

-- the line goes on at i
abbrev pub invariant-line : goal.invariant-line
invariant-line l = (l.from ≤ l.i) × (l.i ≤ length l.text) × (after_gap InLine (drop l.from l.text) ≡ after_gap InLine (drop l.i l.text))

abbrev pub decreases-line : goal.decreases-line
decreases-line l = length l.text - l.i
