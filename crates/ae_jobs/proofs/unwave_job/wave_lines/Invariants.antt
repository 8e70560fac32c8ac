use Rattle.std.proofs.Common.{◌≡◌}
use Rattle.std.specs.Prelude.{string_bytes}
use Rattle.ae_vcd.specs.Waves.{wave_tree}
use Rattle.ae_jobs.specs.UnwaveTexts.{wave_lines}
use Rattle.ae_jobs.proofs.unwave_job.wave_lines.Given as goal

abbrev pub invariant-loop-i : goal.invariant-loop-i
invariant-loop-i l = string_bytes l.out ≡ wave_lines (wave_tree l.w) l.i
