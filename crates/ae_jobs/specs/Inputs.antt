-- What the rows behind a program say: words, by the types of its parameters.
use Rattle.std.specs.Prelude.{ℕ, List, [], ◌∷◌, ◌++◌, map, take, drop}
use Rattle.ae_word.specs.AtomTree.{WordKind}
use Rattle.ae_seqtype.specs.SeqTree.{SeqTree, kinds, words}
use Rattle.ae_seqtype.specs.ValueTree.{ValueTree, value_of}
use Rattle.ae_fields.specs.Rows.{row_words}

-- the widths of all words of some types, in order
abbrev pub type_widths : SeqTree → List ℕ
type_widths t = map (λ (k : WordKind). k.width) (kinds t)

abbrev pub widths_of : List SeqTree → List ℕ
widths_of [] = []
widths_of (t ∷ ts) = type_widths t ++ widths_of ts

-- the values of a row, one for each type, with their words one behind the other
abbrev pub values_of : List SeqTree → List ℕ → List ValueTree
values_of [] ws = []
values_of (t ∷ ts) ws = value_of t (take (words t) ws) ∷ values_of ts (drop (words t) ws)

-- the block of each row
abbrev pub blocks_of : List SeqTree → List (List (List ℕ)) → List (List ValueTree)
blocks_of ts table = map (λ r. values_of ts (row_words r)) table
