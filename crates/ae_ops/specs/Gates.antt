-- Words that are 0 where a condition is 1, and sums with them.
use Rattle.std.specs.Prelude.{◌≡◌, ℕ, ◌+◌, ◌%◌, ◌^◌, ◌<◌, ◌==◌, if◌then◌else◌, List, length}
use Rattle.ae_netlist.specs.declared.cell.SizedCell.{SizedCell}
use Rattle.ae_netlist.specs.Circuit.{IsNet, width_of}
use Rattle.ae_netlist.specs.Runs.{Clock, word_at, InEveryRun}

-- net n is 0 where the condition is 1, and else has the word of x
abbrev pub IsZeroOr : List Clock → (n condition x : ℕ) → Type 0
IsZeroOr run n condition x =
    (t : ℕ) → t < length run → word_at run t n ≡ (if word_at run t condition == 1 then 0 else word_at run t x)

-- the same in every run of every netlist that extends these cells, by a bit and a net of the same width
pub record IsGate (cells : List SizedCell) (n condition x : ℕ) : Type 0 where
  pub bit : IsNet cells condition 1
  pub word : IsNet cells x (width_of cells n)
  pub runs : InEveryRun cells (λ run. IsZeroOr run n condition x)

-- net y has the word of a where the condition is 1, and else the sum of a and x
abbrev pub IsGatedSum : List Clock → (y condition a x w : ℕ) → Type 0
IsGatedSum run y condition a x w =
    (t : ℕ) → t < length run → word_at run t
    y ≡ (if word_at run t condition == 1 then word_at run t a else (word_at run t a + word_at run t x) % 2 ^ w)
