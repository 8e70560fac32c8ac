-- When the wires of a run hold a value.
use Rattle.std.specs.Prelude.{◌≡◌, ℕ, ◌+◌, ◌*◌, ◌<◌, List, Some, slice_get, unwrap_or}
use Rattle.ae_sttype.specs.declared.st_type.Slot.{Slot}
use Rattle.ae_sttype.specs.StTree.{StTree}
use Rattle.ae_sttype.specs.Slots.{slots}

-- a run gives a word for each clock and column: from clock k on, each slot has the words of its element, where an element has so many words;
-- a value that fits has them all, so the default is not read
abbrev pub Holds : (run : ℕ → ℕ → ℕ) (k words : ℕ) → List Slot → (value : List ℕ) → Type 0
Holds run k words places value =
    (e j : ℕ) (w : Slot) → slice_get places e ≡ Some w → j < words → run (k + w.clock) (w.lane * words + j) ≡ unwrap_or (slice_get value (e * words + j)) 0

-- no element stands in the clock on the lane
abbrev pub IsFree : StTree → (clock lane : ℕ) → Type 0
IsFree s c l = (e : ℕ) → slice_get (slots s) e ≡ Some (record { clock = c; lane = l }) → ⊥
