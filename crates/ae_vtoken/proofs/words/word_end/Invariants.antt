use Rattle.std.proofs.Common.{length, ◌-◌, ◌≡◌, ◌≤◌, drop, take, true}
use Rattle.std.specs.List.{list_all}
use Rattle.ae_vtoken.specs.Tokens.{is_word_byte}
use Rattle.ae_vtoken.proofs.words.word_end.Given as goal

abbrev pub invariant-word : goal.invariant-word
invariant-word l = (l.from ≤ l.i) × (l.i ≤ length l.text) × (list_all is_word_byte (take (l.i - l.from) (drop l.from l.text)) ≡ true)

abbrev pub decreases-word : goal.decreases-word
decreases-word l = length l.text - l.i
