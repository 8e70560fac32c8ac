-- What registers make of words, and how a register is connected.
use Rattle.std.specs.Prelude.{◌≡◌, ℕ, ◌+◌, ◌-◌, ◌<◌, ◌≤◌, ◌≢◌, ◌==◌, ◌%◌, ◌^◌, if◌then◌else◌, List, length, Some, slice_get}
use Rattle.ae_netlist.specs.declared.cell.SizedCell.{SizedCell}
use Rattle.ae_netlist.specs.Circuit.{Circuit, IsNet}
use Rattle.ae_netlist.specs.Counts.{AreWhole, count_of, is_input, is_memory, is_mul, is_register}
use Rattle.ae_netlist.specs.Runs.{Clock, word_at, InEveryRunFrom}
use Rattle.ae_gates.specs.Cells.{is_test}

-- net y has the word that x had in the clock before
abbrev pub IsNextOf : List Clock → ℕ → ℕ → Type 0
IsNextOf run y x = (t : ℕ) → t + 1 < length run → word_at run (t + 1) y ≡ word_at run t x

-- from clock d after reset on, y has the word that x had d clocks before
abbrev pub IsLater : List Clock → ℕ → ℕ → ℕ → ℕ → Type 0
IsLater run start y x d =
    (c : ℕ) → d ≤ c → start + c < length run → word_at run (start + c) y ≡ word_at run (start + (c - d)) x

-- register r now takes the words of next, and nothing else has changed
pub record Connects (old new : Circuit) (r next : ℕ) : Type 0 where
  pub others : (n : ℕ) (sized : SizedCell) → n ≢ r → slice_get old.cells n ≡ Some sized
      → slice_get new.cells n ≡ Some sized
  pub nets : (n width : ℕ) → IsNet old.cells n width → IsNet new.cells n width
  pub words : InEveryRunFrom r new.cells (λ run. IsNextOf run r next)
  pub cells : length new.cells ≡ length old.cells
  pub limit : new.limit ≡ old.limit
  pub outlets : new.outlets ≡ old.outlets
  pub inputs : count_of is_input new.cells ≡ count_of is_input old.cells
  pub muls : count_of is_mul new.cells ≡ count_of is_mul old.cells
  pub memories : count_of is_memory new.cells ≡ count_of is_memory old.cells
  pub whole : AreWhole old.cells → AreWhole new.cells
  pub registers : count_of is_register new.cells ≡ count_of is_register old.cells
  pub tests : count_of is_test new.cells ≡ count_of is_test old.cells

-- net y has the word after that of r: 0 after the last, and else one more
abbrev pub IsTurned : List Clock → ℕ → ℕ → ℕ → ℕ → Type 0
IsTurned run y r width last =
    (t : ℕ) → t < length run → word_at run t
    y ≡ (if word_at run t r == last then 0 else (word_at run t r + 1) % 2 ^ width)

-- register r takes first in a clock where rst is 1, and else goes on by one, and to 0 after last
abbrev pub Counts : List Clock → ℕ → ℕ → ℕ → ℕ → ℕ → Type 0
Counts run r rst width last first =
    (t : ℕ) → t + 1 < length run
    → word_at run (t + 1) r ≡ (if word_at run t
    rst == 1 then first else (if word_at run t r == last then 0 else (word_at run t r + 1) % 2 ^ width))

-- net y says whether r has this word
abbrev pub IsAt : List Clock → ℕ → ℕ → ℕ → Type 0
IsAt run y r word = (t : ℕ) → t < length run → word_at run t y ≡ (if word_at run t r == word then 1 else 0)

-- net y has first after a clock where rst is 1, and else the word that x had in the clock before
abbrev pub BeginsWith : List Clock → ℕ → ℕ → ℕ → ℕ → Type 0
BeginsWith run y rst first x =
    (t : ℕ) → t + 1 < length run → word_at run (t + 1) y ≡ (if word_at run t rst == 1 then first else word_at run t x)

-- net y has first after a clock where rst is 1, and else turns, once for each of two bits that is 1
abbrev pub Turns : List Clock → ℕ → ℕ → ℕ → ℕ → ℕ → Type 0
Turns run y rst first a b =
    (t : ℕ) → t + 1 < length run
    → word_at run (t + 1) y ≡ (if word_at run t
    rst == 1 then first else (if (if word_at run t y == word_at run t a then 1 else 0) == word_at run t
    b then 1 else 0))
