use Rattle.std.proofs.Common.{◌≡◌, ◌≤◌, List, ℕ, sym, ap, ◌∙◌, subst}
use Rattle.ae_vcd.specs.TextWords.{text_words}
use Rattle.ae_vcd.specs.Waves.{WaveTree, size_limit}
use Rattle.ae_vcd.specs.Forms.{variables}
use Rattle.ae_vcd.specs.Readings.{IsVcd, wave_of}
use Rattle.ae_vcd.specs.Reads.{size_of_wave}
use Rattle.ae_vcd.proofs.Viable.{dump_good, one_dump}
use Rattle.ae_vcd.proofs.laws.dumps_are_read.Goals as goal

same_wave : (text : List ℕ) (v w : WaveTree) → IsVcd text v → IsVcd text w → v ≡ w
same_wave text v w a b = (let e = one_dump (text_words text) a.dump b.dump in a.wave ∙ ((λ i. wave_of (variables (e.0 i)) (e.1 i)) ∙ sym b.wave))

pub returns : goal.returns
returns c text w h small = (
  λ at b. dump_good (text_words text) at h.dump b,
  λ v k. (let e : v ≡ w = same_wave text v w k h in (e, subst (λ n. n ≤ size_limit) (ap size_of_wave (sym e)) small)),
)
