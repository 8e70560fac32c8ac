-- What `unwave` answers and writes: the words of the wave that a value change dump holds.
use Rattle.std.specs.Prelude.{◌≡◌, ℕ, zero, suc, ◌<◌, ◌≤◌, List, [], ◌++◌, length, map, slice_get, unwrap_or}
use Rattle.std.specs.List.{range_with_len}
use Rattle.ae_vcd.specs.Waves.{WaveTree, wave_word}
use Rattle.ae_vcd.specs.TextWords.{text_words}
use Rattle.ae_vcd.specs.Readings.{IsBadWord, IsVcd}
use Rattle.ae_vcd.specs.Reads.{size_of_wave}
use Rattle.ae_jobs.specs.declared.status.Status.{Status}
use Rattle.ae_jobs.specs.declared.status.Status.TheVariants.{Ok, BadWave, LongRun}
use Rattle.ae_jobs.specs.Refusals.{refusal_line}
use Rattle.ae_jobs.specs.SimTexts.{words_of_clock}
use Rattle.ae_jobs.specs.RunTexts.{run_limit}

-- the words of all variables at the time numbered i
abbrev pub words_at : WaveTree → (i : ℕ) → List ℕ
words_at w i = map (wave_word w i) (range_with_len 0 (length w.names))

-- the lines of the first times: each time, and its words
abbrev pub wave_lines : WaveTree → (count : ℕ) → List ℕ
wave_lines w zero = []
wave_lines w (suc i) = wave_lines w i ++ words_of_clock (unwrap_or (slice_get w.times i) 0) (words_at w i)

-- the text is a dump of this wave and of no other
pub record IsDumpOf (part : List ℕ) (w : WaveTree) : Type 0 where
  pub dump : IsVcd part w
  pub only : (v : WaveTree) → IsVcd part v → v ≡ w

-- the text is no dump, and this is its first bad word
pub record IsNoDump (part : List ℕ) (at : ℕ) : Type 0 where
  pub bad : IsBadWord (text_words part) at
  pub first : (k : ℕ) → IsBadWord (text_words part) k → k ≡ at
  pub none : (w : WaveTree) → IsVcd part w → ⊥

-- what `unwave` answers and writes
abbrev pub IsUnwaved : (part : List ℕ) → Status → (text : List ℕ) → Type 0
IsUnwaved part Ok text =
    (w : WaveTree) × IsDumpOf part w × (size_of_wave w ≤ run_limit) × (text ≡ wave_lines w (length w.times))
IsUnwaved part (BadWave at) text = IsNoDump part at × (text ≡ refusal_line (BadWave at))
IsUnwaved part (LongRun size) text =
    (w : WaveTree) × IsDumpOf part w × (run_limit < size) × (size ≡ size_of_wave w)
    × (text ≡ refusal_line (LongRun size))
IsUnwaved part _ text = ⊥

-- the job has a result: the text is a dump whose wave is within the limit
abbrev pub IsReadable : (part : List ℕ) → Type 0
IsReadable part = (w : WaveTree) × IsVcd part w × (size_of_wave w ≤ run_limit)
