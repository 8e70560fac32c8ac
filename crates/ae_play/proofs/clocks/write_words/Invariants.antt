use Rattle.std.proofs.Common.{◌≡◌, ◌++◌, drop}
use Rattle.std.specs.Prelude.{string_bytes}
use Rattle.ae_play.specs.Lines.{spaced}
use Rattle.ae_play.proofs.clocks.write_words.Given as goal

abbrev pub invariant-loop-word : goal.invariant-loop-word
invariant-loop-word l = string_bytes l.out ++ spaced (drop l.word-index l.words) ≡ string_bytes l.fn.out ++ spaced l.fn.words
