use Rattle.std.proofs.Common.{true, length, ◌-◌, ◌≡◌, ◌≤◌, take, drop}
use Rattle.ae_fields.specs.Cut.{free, lines}
use Rattle.ae_fields.specs.Cut.{put_all}
use Rattle.ae_fields.proofs.lines.next_line.Given as goal

abbrev pub invariant-loop-end : goal.invariant-loop-end
invariant-loop-end l = (l.end ≤ length l.text) × (lines l.text ≡ put_all (take l.end l.text) (lines (drop l.end l.text))) × (free 10 (take l.end l.text) ≡ true)

abbrev pub decreases-loop-end : goal.decreases-loop-end
decreases-loop-end l = length l.text - l.end
