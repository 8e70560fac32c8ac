-- What a reading of a text ends in.
use Rattle.std.specs.Prelude.{◌≡◌, ℕ, ◌<◌, ◌≤◌, List, length, Result, Ok, Err}
use Rattle.ae_vcd.specs.declared.read.VcdFault.{VcdFault}
use Rattle.ae_vcd.specs.declared.read.VcdFault.TheVariants.{BadWord, Large, Memory}
use Rattle.ae_vcd.specs.declared.wave.Wave.{Wave}
use Rattle.ae_vcd.specs.Waves.{WaveTree, size_limit, wave_size, wave_tree}
use Rattle.ae_vcd.specs.TextWords.{text_words}
use Rattle.ae_vcd.specs.Readings.{IsBadWord, IsVcd}

abbrev pub size_of_wave : WaveTree → ℕ
size_of_wave w = wave_size (length w.times) (length w.names)

-- the wave of the text, its first bad word, or the size of a wave past the limit
abbrev pub EndsIn : List ℕ → Result Wave VcdFault → Type 0
EndsIn text (Ok w) = IsVcd text (wave_tree w) × (size_of_wave (wave_tree w) ≤ size_limit)
EndsIn text (Err (BadWord at)) = IsBadWord (text_words text) at
EndsIn text (Err (Large size)) = (w : WaveTree) × IsVcd text w × (size ≡ size_of_wave w) × (size_limit < size)
EndsIn text (Err Memory) = Unit {0}
