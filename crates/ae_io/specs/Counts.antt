-- Counts of faults, of refused growths and of ends.
use Rattle.std.specs.Prelude.{◌≡◌, ℕ, ◌+◌, ◌-◌, ◌^◌, ◌<◌, ◌⊎◌, min}

-- the count rose in a call: it is greater at the end, or stands at its last value
abbrev pub Rose : (old new : ℕ) → Type 0
Rose old new = (old < new) ⊎ (new ≡ 2 ^ 64 - 1)

-- the count did not rise in a call
abbrev pub Same : (old new : ℕ) → Type 0
Same old new = new ≡ old

-- one more, but never past the last value
abbrev pub raised : ℕ → ℕ
raised count = min (count + 1) (2 ^ 64 - 1)
