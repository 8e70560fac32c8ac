-- What is put on the inputs of a circuit, clock by clock: one clock of reset, and then the words of blocks.
use Rattle.std.specs.Prelude.{ℕ, ◌*◌, ◌/◌, ◌%◌, List, [], ◌∷◌, ◌++◌, map, take, drop, Option, Some, None, slice_get, sum_by}
use Rattle.std.specs.List.{range_with_len}
use Rattle.ae_seqtype.specs.ValueTree.{cut}
use Rattle.ae_sttype.specs.StTree.{StTree, st_atoms, element_words}
use Rattle.ae_layout.specs.Standing.{layout_row}

-- those of all layouts in a clock of a block, each with its value
abbrev pub layout_rows : (fill : ℕ) → List StTree → (values : List (List ℕ)) → (clock : ℕ) → List ℕ
layout_rows fill [] values c = []
layout_rows fill (s ∷ ss) [] c = []
layout_rows fill (s ∷ ss) (v ∷ vs) c = layout_row fill s v (Some c) ++ layout_rows fill ss vs c

-- the fill in each column
abbrev pub fill_row : (fill : ℕ) → List StTree → List ℕ
fill_row fill [] = []
fill_row fill (s ∷ ss) = layout_row fill s [] None ++ fill_row fill ss

abbrev pub block_row : (fill : ℕ) → List StTree → Option (List (List ℕ)) → (clock : ℕ) → List ℕ
block_row fill ss None c = fill_row fill ss
block_row fill ss (Some values) c = layout_rows fill ss values c

-- clock c after reset: block c / slowdown, in its clock c mod slowdown; past the last block the fill
abbrev pub clock_row : (slowdown fill : ℕ) → List StTree → (blocks : List (List (List ℕ))) → (clock : ℕ) → List ℕ
clock_row slowdown fill ss blocks c = 0 ∷ block_row fill ss (slice_get blocks (c / slowdown)) (c % slowdown)

-- one clock of reset, and so many after it
abbrev pub fed_rows : (slowdown fill : ℕ) → List StTree → (blocks : List (List (List ℕ))) → (clocks : ℕ) → List (List ℕ)
fed_rows slowdown fill ss blocks n =
    (1 ∷ fill_row fill ss) ∷ map (clock_row slowdown fill ss blocks) (range_with_len 0 n)

-- the values of a block of words that stand one after the other
abbrev pub values_of : List StTree → List ℕ → List (List ℕ)
values_of [] ws = []
values_of (s ∷ ss) ws = take (st_atoms s * element_words s) ws ∷ values_of ss (drop (st_atoms s * element_words s) ws)

-- the words of a block
abbrev pub size_of : List StTree → ℕ
size_of ss = sum_by (λ (s : StTree). st_atoms s * element_words s) ss

-- so many blocks of words that stand one after the other
abbrev pub blocks_of : List StTree → (count : ℕ) → List ℕ → List (List (List ℕ))
blocks_of ss n ws = map (values_of ss) (cut n (size_of ss) ws)
