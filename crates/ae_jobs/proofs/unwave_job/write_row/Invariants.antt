use Rattle.std.proofs.Common.{◌≡◌, ◌++◌, map}
use Rattle.std.specs.Prelude.{string_bytes}
use Rattle.std.specs.List.{range_with_len}
use Rattle.ae_play.specs.Lines.{spaced}
use Rattle.ae_vcd.specs.Waves.{wave_tree, wave_word}
use Rattle.ae_jobs.proofs.unwave_job.write_row.Given as goal

abbrev pub invariant-loop-k : goal.invariant-loop-k
invariant-loop-k l = string_bytes l.out ≡ string_bytes l.fn.out ++ spaced (map (wave_word (wave_tree l.w) l.i) (range_with_len 0 l.k))
