use Rattle.std.proofs.Common.{◌≡◌, map}
use Rattle.std.specs.List.{range_with_len}
use Rattle.ae_jobs.specs.DemoTexts.{demo_word}
use Rattle.ae_jobs.proofs.demo_job.input_words.Given as goal

abbrev pub invariant-loop-k : goal.invariant-loop-k
invariant-loop-k l = l.words.items ≡ map (demo_word l.fn.size) (range_with_len 0 l.k)
