-- Where the elements of a space-time type stand.
use Rattle.std.specs.Prelude.{◌≡◌, ℕ, zero, suc, ◌+◌, ◌*◌, List, [], ◌∷◌, ◌++◌, map, Any, Option, Some, slice_get, ◌↔◌}
use Rattle.ae_sttype.specs.declared.st_type.Slot.{Slot}
use Rattle.ae_sttype.specs.StTree.{StTree, atom, tseq, sseq, time, lanes}

-- the slot some clocks later and some lanes further
abbrev pub moved : (clocks lanes : ℕ) → Slot → Slot
moved c l w = record { clock = c + w.clock; lane = l + w.lane }

-- n copies of the slots ws, one after another, where copy q is moved by q times c clocks and q times l lanes
abbrev pub copies : (n c l : ℕ) → List Slot → List Slot
copies zero c l ws = []
copies (suc q) c l ws = copies q c l ws ++ map (moved (q * c) (q * l)) ws

-- the slots of the elements in order
abbrev pub slots : StTree → List Slot
slots (atom k) = record { clock = 0; lane = 0 } ∷ []
slots (tseq n i t) = copies n (time t) 0 (slots t)
slots (sseq n t) = copies n 0 (lanes t) (slots t)

-- the number of the element whose slot is in this clock on this lane, or none where no element has it
abbrev pub IsElementAt : StTree → (clock lane : ℕ) → Option ℕ → Type 0
IsElementAt s c l found = (e : ℕ) → (found ≡ Some e) ↔ (slice_get (slots s) e ≡ Some (record { clock = c; lane = l }))

-- some element stands in the clock
abbrev pub IsLive : StTree → (clock : ℕ) → Type 0
IsLive s c = Any (λ (w : Slot). w.clock ≡ c) (slots s)
