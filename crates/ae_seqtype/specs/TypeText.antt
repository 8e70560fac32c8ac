-- How a sequence type is written.
use Rattle.std.specs.Prelude.{ℕ, List, ◌∷◌, ◌++◌}
use Rattle.std.specs.Fmt.{decimal}
use Rattle.ae_word.specs.AtomText.{atom_text}
use Rattle.ae_seqtype.specs.SeqTree.{SeqTree, atom, seq}

-- `[n]` before the element's type
abbrev pub type_text : SeqTree → List ℕ
type_text (atom a) = atom_text a
type_text (seq n t) = 91 ∷ decimal n ++ 93 ∷ type_text t
