use Rattle.std.proofs.Common.{length, ◌-◌, ◌≡◌, ◌≤◌, take, true}
use Rattle.ae_vcd.proofs.FirstWord.{no_blank}
use Rattle.ae_vcd.proofs.words.next_word.Given as goal

abbrev pub invariant-loop-end : goal.invariant-loop-end
invariant-loop-end l = (l.end ≤ length l.begun) × (no_blank (take l.end l.begun) ≡ true)

abbrev pub decreases-loop-end : goal.decreases-loop-end
decreases-loop-end l = length l.begun - l.end
