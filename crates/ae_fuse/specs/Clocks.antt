-- The clocks in which words stand: those of the elements of a layout, and those of the numbered words of the parameters.
use Rattle.std.specs.Prelude.{ℕ, zero, suc, ◌+◌, ◌-◌, ◌*◌, ◌/◌, List, [], ◌∷◌, ◌++◌, flat_map, length, map, get_or}
use Rattle.std.specs.List.{range_with_len}
use Rattle.ae_sttype.specs.declared.st_type.Slot.{Slot}
use Rattle.ae_sttype.specs.StTree.{StTree, element_words}
use Rattle.ae_sttype.specs.Slots.{slots}

-- those of the elements, in order
abbrev pub element_clocks : StTree → List ℕ
element_clocks s = map (λ (w : Slot). w.clock) (slots s)

-- n copies of clocks, each so many clocks behind the one before
abbrev pub clock_copies : (n time : ℕ) → List ℕ → List ℕ
clock_copies zero c ks = []
clock_copies (suc q) c ks = clock_copies q c ks ++ map (λ k. q * c + k) ks

-- those of the words of elements with these clocks, by element and then by word
abbrev pub spread : (words : ℕ) → List ℕ → List ℕ
spread w ks = map (λ o. get_or ks (o / w) 0) (range_with_len 0 (length ks * w))

-- those of all words of a layout
abbrev pub word_clocks : StTree → List ℕ
word_clocks s = spread (element_words s) (element_clocks s)

-- those of the words of the parameters by their numbers; the number 0 is that of a word 0
abbrev pub label_clocks : List StTree → List ℕ
label_clocks ss = 0 ∷ flat_map word_clocks ss

-- by how many clocks word o stands before the word of its number, or 0, by the clocks of the numbers and those of its elements
abbrev pub lead_of : (sources labels elements : List ℕ) (words o : ℕ) → ℕ
lead_of sources labels elements w o = get_or sources (get_or labels o 0) 0 - get_or elements (o / w) 0
