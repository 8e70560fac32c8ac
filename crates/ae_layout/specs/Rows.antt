-- Rows of words, one for each clock.
use Rattle.std.specs.Prelude.{◌≡◌, ℕ, ◌+◌, ◌*◌, ◌%◌, ◌^◌, ◌<◌, List, map, get_or}
use Rattle.ae_word.specs.AtomTree.{AtomTree, WordKind, atom_kinds}
use Rattle.ae_sttype.specs.StTree.{StTree, time, lanes, element_atom, element_words}
use Rattle.ae_sttype.specs.Holds.{IsFree}

-- rows of so many columns as a run: a word for each clock and column
abbrev pub rows_run : (columns : ℕ) → List ℕ → ℕ → ℕ → ℕ
rows_run columns words clock column = get_or words (clock * columns + column) 0

-- the fill for each word of an atom: modulo 2 to its width
abbrev pub fill_words : AtomTree → (fill : ℕ) → List ℕ
fill_words atom fill = map (λ (k : WordKind). fill % 2 ^ k.width) (atom_kinds atom)

-- each word where no element stands is the fill
abbrev pub IsFilled : (run : ℕ → ℕ → ℕ) → StTree → (fill : ℕ) → Type 0
IsFilled run s fill =
    (c l j : ℕ) → c < time s → l < lanes s → j < element_words s → IsFree s c l
    → run c (l * element_words s + j) ≡ get_or (fill_words (element_atom s) fill) j 0
