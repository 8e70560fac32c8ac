-- How a space-time type is written.
use Rattle.std.specs.Prelude.{ℕ, List, ◌++◌, codes}
use Rattle.std.specs.Fmt.{decimal}
use Rattle.ae_word.specs.AtomText.{atom_text}
use Rattle.ae_sttype.specs.StTree.{StTree, atom, tseq, sseq}

-- `TSeq n i` or `SSeq n` before the inner type, and blanks between
abbrev pub st_text : StTree → List ℕ
st_text (atom a) = atom_text a
st_text (tseq n i t) = codes "TSeq " ++ decimal n ++ codes " " ++ decimal i ++ codes " " ++ st_text t
st_text (sseq n t) = codes "SSeq " ++ decimal n ++ codes " " ++ st_text t
