-- What stands on the wires of a layout in one clock: the words of elements, and the fill elsewhere.
use Rattle.std.specs.Prelude.{ℕ, ◌+◌, ◌*◌, ◌%◌, ◌^◌, ◌&&◌, nat_eq, if◌then◌else◌, List, [], ◌∷◌, flat_map, Option, Some, None, get_or}
use Rattle.std.specs.List.{range_with_len}
use Rattle.ae_word.specs.AtomTree.{WordKind, atom_kinds}
use Rattle.ae_sttype.specs.declared.st_type.Slot.{Slot}
use Rattle.ae_sttype.specs.StTree.{StTree, lanes, element_atom, element_words}
use Rattle.ae_sttype.specs.Slots.{slots}

-- the number of the first slot in a clock on a lane, from number e on
abbrev pub found_from : (e clock lane : ℕ) → List Slot → Option ℕ
found_from e c l [] = None
found_from e c l (w ∷ ws) = if nat_eq w.clock c && nat_eq w.lane l then Some e else found_from (e + 1) c l ws

-- the element that stands in a clock on a lane
unfoldable pub element_in : StTree → (clock lane : ℕ) → Option ℕ
element_in s c l = found_from 0 c l (slots s)

-- the element that stands on a lane in a clock of a block, and none without a block
abbrev pub standing : StTree → (clock : Option ℕ) → (lane : ℕ) → Option ℕ
standing s None l = None
standing s (Some c) l = element_in s c l

-- word j of an element that stands, and else the fill
abbrev pub stood_word : (fill width words : ℕ) → (value : List ℕ) (j : ℕ) → Option ℕ → ℕ
stood_word fill width words value j None = fill % 2 ^ width
stood_word fill width words value j (Some e) = get_or value (e * words + j) 0

-- the words of a lane, from word j on, where this element stands or none
abbrev pub lane_words : (fill words : ℕ) → (value : List ℕ) → Option ℕ → (j : ℕ) → List WordKind → List ℕ
lane_words fill words value o j [] = []
lane_words fill words value o j (k ∷ ks) =
    stood_word fill k.width words value j o ∷ lane_words fill words value o (j + 1) ks

-- those of all lanes in a clock of a block, or without a block
abbrev pub layout_row : (fill : ℕ) → StTree → (value : List ℕ) → (clock : Option ℕ) → List ℕ
layout_row fill s value o =
    flat_map (λ l. lane_words fill (element_words s) value (standing s o l) 0 (atom_kinds (element_atom s)))
    (range_with_len 0 (lanes s))
