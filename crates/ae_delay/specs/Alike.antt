-- Layouts whose elements stand in the same slots.
use Rattle.ae_sttype.specs.StTree.{StTree, atom, tseq, sseq}

-- a layout without the invalid slots at its end
abbrev pub trimmed : StTree → StTree
trimmed (atom a) = atom a
trimmed (tseq n i t) = tseq n 0 t
trimmed (sseq n t) = sseq n t
