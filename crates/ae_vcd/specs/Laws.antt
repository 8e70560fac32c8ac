-- What is so of dumps and their waves.
use Rattle.std.specs.Prelude.{◌≡◌, ℕ, ◌⊎◌, List, [], ◌∷◌, ◌++◌, ◌≤◌, length, true}
use Rattle.std.specs.List.{list_all}
use Rattle.ae_vcd.specs.Waves.{IsFormedWave, WaveTree, size_limit, wave_size}
use Rattle.ae_vcd.specs.TextWords.{text_words}
use Rattle.ae_vcd.specs.Reads.{size_of_wave}
use Rattle.ae_vcd.specs.WaveText.{commented, is_no_dollar, wave_text}
use Rattle.ae_vcd.specs.Forms.{AreDump}
use Rattle.ae_vcd.specs.Readings.{IsBadWord, IsVcd}

-- the text of a wave is a dump of it
abbrev pub TextsAreDumps : Type 0
TextsAreDumps = (w : WaveTree) → IsFormedWave w → IsVcd (wave_text w) w

-- a text has one wave at most
abbrev pub WavesAreOne : Type 0
WavesAreOne = (text : List ℕ) (v w : WaveTree) → IsVcd text v → IsVcd text w → v ≡ w

-- some words are a dump or have a first bad word, one and not both
pub record HaveOneBadWord (ws : List (List ℕ)) : Type 0 where
  pub either : AreDump ws ⊎ ((k : ℕ) × IsBadWord ws k)
  pub not_both : (k : ℕ) → AreDump ws → IsBadWord ws k → ⊥
  pub one : (j k : ℕ) → IsBadWord ws j → IsBadWord ws k → j ≡ k

abbrev pub WordsAreJudged : Type 0
WordsAreJudged = (ws : List (List ℕ)) → HaveOneBadWord ws

-- a dump whose wave is within the limit has no bad word and no other wave, so a reading of it ends in this wave
abbrev pub DumpsAreRead : Type 0
DumpsAreRead =
    (text : List ℕ) (w : WaveTree) → IsVcd text w → size_of_wave w ≤ size_limit
    → ((at : ℕ) → IsBadWord (text_words text) at → ⊥)
    × ((v : WaveTree) → IsVcd text v → (v ≡ w) × (size_of_wave v ≤ size_limit))

-- a comment of whole lines without a `$` may stand before a dump
abbrev pub CommentsArePassed : Type 0
CommentsArePassed =
    (lines text : List ℕ) (w : WaveTree) → list_all is_no_dollar lines ≡ true → IsVcd text w
    → IsVcd (commented (lines ++ 10 ∷ []) text) w

-- the wave of a dump is formed, where it is within the limit
abbrev pub WavesAreFormed : Type 0
WavesAreFormed =
    (text : List ℕ) (w : WaveTree) → IsVcd text w → wave_size (length w.times) (length w.names) ≤ size_limit
    → IsFormedWave w
