-- Layouts computed, and compared with those worked out by hand.
use Rattle.std.proofs.Common.{ℕ}
use Rattle.ae_word.specs.AtomTree.{unsigned_word}
use Rattle.ae_seqtype.specs.SeqTree.{SeqTree, atom, seq}
use Rattle.ae_sttype.specs.StTree.{StTree, atom as st_atom}

-- so many words of a width
abbrev words : (count width : ℕ) → SeqTree
words n w = seq n (atom (unsigned_word w))

abbrev byte : StTree
byte = st_atom (unsigned_word 8)

-- ---- four bytes in 1, 2, 3, 4 and 8 clocks
