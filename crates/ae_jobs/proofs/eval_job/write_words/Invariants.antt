use Rattle.std.proofs.Common.{◌≡◌, ◌++◌, take}
use Rattle.std.specs.Prelude.{string_bytes}
use Rattle.ae_play.specs.Lines.{spaced}
use Rattle.ae_jobs.proofs.eval_job.write_words.Given as goal

abbrev pub invariant-loop-word : goal.invariant-loop-word
invariant-loop-word l = string_bytes l.out ≡ string_bytes l.fn.out ++ spaced (take l.word-index l.words)
