use Rattle.std.proofs.Common.{length, ◌≡◌, ◌≤◌}
use Rattle.ae_vcd.specs.TextWords.{text_words}
use Rattle.ae_vcd.proofs.words.after_blanks.Given as goal

abbrev pub invariant-loop-rest : goal.invariant-loop-rest
invariant-loop-rest l = (text_words l.rest ≡ text_words l.fn.text) × (length l.rest ≤ length l.fn.text)

abbrev pub decreases-loop-rest : goal.decreases-loop-rest
decreases-loop-rest l = length l.rest
