-- Sequence types as trees, apart from where their boxes lie, and their sizes.
use Rattle.std.specs.Prelude.{ℕ, zero, suc, ◌+◌, ◌*◌, Bool, false, ◌&&◌, ◌==◌, nat_le, if◌then◌else◌, Option, Some, None, List, [], ◌++◌}
use Rattle.ae_word.specs.AtomTree.{AtomTree, WordKind, atom_tree, atom_kinds, atom_words, atom_in_size, same_atom}
use Rattle.ae_seqtype.specs.declared.seq_type.SeqType.{SeqType}
use Rattle.ae_seqtype.specs.declared.seq_type.SeqType.TheVariants.{Atom, Seq'}

-- a type: an atom, or a sequence of so many elements of a type
pub data SeqTree : Type 0 where
  atom : AtomTree → SeqTree
  seq : (count : ℕ) → SeqTree → SeqTree

-- the tree of a type of the code
abbrev pub seq_tree : SeqType → SeqTree
seq_tree (Atom a) = atom (atom_tree a)
seq_tree (Seq' n p t) = seq n (seq_tree t)

-- so many copies of a list, one after another
abbrev pub repeated : {A : Type 0} → ℕ → List A → List A
repeated zero xs = []
repeated (suc n) xs = xs ++ repeated n xs

-- the kinds of a type's words, in row-major order
abbrev pub kinds : SeqTree → List WordKind
kinds (atom a) = atom_kinds a
kinds (seq n t) = repeated n (kinds t)

-- how many words, how many atoms a value has
abbrev pub words : SeqTree → ℕ
words (atom a) = atom_words a
words (seq n t) = n * words t

abbrev pub atoms : SeqTree → ℕ
atoms (atom a) = 1
atoms (seq n t) = n * atoms t

-- the atom of which all elements are
abbrev pub atom_of : SeqTree → AtomTree
atom_of (atom a) = a
atom_of (seq n t) = atom_of t

-- how deep sequences nest
abbrev pub depth : SeqTree → ℕ
depth (atom a) = 0
depth (seq n t) = depth t + 1

-- each length is 1 to 4,096, and the atom is in size
abbrev pub parts_in_size : SeqTree → Bool
parts_in_size (atom a) = atom_in_size a
parts_in_size (seq n t) = nat_le 1 n && nat_le n 4096 && parts_in_size t

-- the type is in size: so are its parts, sequences nest at most 6 deep, and there are at most 16,384 words
abbrev pub in_size : SeqTree → Bool
in_size t = parts_in_size t && nat_le (depth t) 6 && nat_le (words t) 16384

-- a number of words, where a type in size may have it
abbrev pub few : ℕ → Option ℕ
few n = if nat_le n 16384 then Some n else None

-- the same type
abbrev pub same_type : SeqTree → SeqTree → Bool
same_type (atom a) (atom b) = same_atom a b
same_type (seq n t) (seq m u) = n == m && same_type t u
same_type (atom a) (seq m u) = false
same_type (seq n t) (atom b) = false
