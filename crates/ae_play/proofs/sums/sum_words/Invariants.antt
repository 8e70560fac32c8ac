use Rattle.std.proofs.Common.{◌≡◌, ◌+◌, ◌*◌, ◌≤◌, drop}
use Rattle.std.specs.List.{sum}
use Rattle.ae_play.proofs.sums.sum_words.Given as goal

abbrev pub invariant-loop-word : goal.invariant-loop-word
invariant-loop-word l = (l.all + sum (drop l.word-index l.words) ≡ sum l.words) × (l.all ≤ l.word-index * 18446744073709551615)
