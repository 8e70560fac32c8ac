-- Space-time types as trees of numbers, apart from where their boxes lie (Durst et al., PLDI 2020).
use Rattle.std.specs.Prelude.{ℕ, ◌+◌, ◌*◌}
use Rattle.ae_word.specs.AtomTree.{AtomTree, atom_tree, atom_words}
use Rattle.ae_sttype.specs.declared.st_type.StType.{StType}
use Rattle.ae_sttype.specs.declared.st_type.StType.TheVariants.{Atom, T', S'}

-- an atom, n valid and then i invalid slots of a type in time, or n of a type side by side
pub data StTree : Type 0 where
  atom : AtomTree → StTree
  tseq : (n i : ℕ) → StTree → StTree
  sseq : (n : ℕ) → StTree → StTree

-- the tree of a type of the code
abbrev pub st_tree : StType → StTree
st_tree (Atom a) = atom (atom_tree a)
st_tree (T' n i p t) = tseq n i (st_tree t)
st_tree (S' n p t) = sseq n (st_tree t)

-- the clocks of a value
abbrev pub time : StTree → ℕ
time (atom a) = 1
time (tseq n i t) = (n + i) * time t
time (sseq n t) = time t

-- the lanes that it takes
abbrev pub lanes : StTree → ℕ
lanes (atom a) = 1
lanes (tseq n i t) = lanes t
lanes (sseq n t) = n * lanes t

-- its elements
abbrev pub st_atoms : StTree → ℕ
st_atoms (atom a) = 1
st_atoms (tseq n i t) = n * st_atoms t
st_atoms (sseq n t) = n * st_atoms t

-- the atom that each element is
abbrev pub element_atom : StTree → AtomTree
element_atom (atom a) = a
element_atom (tseq n i t) = element_atom t
element_atom (sseq n t) = element_atom t

-- the words of one element
abbrev pub element_words : StTree → ℕ
element_words t = atom_words (element_atom t)

-- how deep sequences nest
abbrev pub st_depth : StTree → ℕ
st_depth (atom a) = 0
st_depth (tseq n i t) = st_depth t + 1
st_depth (sseq n t) = st_depth t + 1
