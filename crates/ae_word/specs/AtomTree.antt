-- Atoms as trees, apart from where their boxes lie.
use Rattle.std.specs.Prelude.{ℕ, ◌+◌, max, Bool, true, false, not, ◌&&◌, ◌==◌, nat_le, List, [], ◌∷◌, ◌++◌}
use Rattle.ae_word.specs.declared.atom.Atom.{Atom}
use Rattle.ae_word.specs.declared.atom.Atom.TheVariants.{Word, Int, Pair'}
use Rattle.ae_word.specs.declared.atom.Kind.{Kind}

-- the kind of a word: whether it is signed, and its width
pub record WordKind : Type 0 where
  pub signed : Bool
  pub width : ℕ

-- an atom: a word, or a pair of atoms
pub data AtomTree : Type 0 where
  word : (kind : WordKind) → AtomTree
  pair : (first second : AtomTree) → AtomTree

abbrev pub unsigned_word : ℕ → AtomTree
unsigned_word w = word (record { signed = false; width = w })

abbrev pub signed_word : ℕ → AtomTree
signed_word w = word (record { signed = true; width = w })

-- the tree of an atom of the code
abbrev pub atom_tree : Atom → AtomTree
atom_tree (Word w) = unsigned_word w
atom_tree (Int w) = signed_word w
atom_tree (Pair' p a q b) = pair (atom_tree a) (atom_tree b)

-- the kind of a word of the code
abbrev pub kind_tree : Kind → WordKind
kind_tree k = record { signed = k.signed; width = k.width }

-- the kinds of an atom's words, in order
abbrev pub atom_kinds : AtomTree → List WordKind
atom_kinds (word k) = k ∷ []
atom_kinds (pair a b) = atom_kinds a ++ atom_kinds b

-- how many words an atom has
abbrev pub atom_words : AtomTree → ℕ
atom_words (word k) = 1
atom_words (pair a b) = atom_words a + atom_words b

-- how deep pairs nest
abbrev pub pair_depth : AtomTree → ℕ
pair_depth (word k) = 0
pair_depth (pair a b) = max (pair_depth a) (pair_depth b) + 1

-- each width is 1 to 64
abbrev pub widths_in_range : AtomTree → Bool
widths_in_range (word k) = nat_le 1 k.width && nat_le k.width 64
widths_in_range (pair a b) = widths_in_range a && widths_in_range b

-- the atom is in size: each width is 1 to 64, and pairs nest at most 6 deep
abbrev pub atom_in_size : AtomTree → Bool
atom_in_size a = widths_in_range a && nat_le (pair_depth a) 6

-- the same kind, the same atom
abbrev pub same_sign : Bool → Bool → Bool
same_sign true b = b
same_sign false b = not b

abbrev pub same_kind : WordKind → WordKind → Bool
same_kind k l = same_sign k.signed l.signed && (k.width == l.width)

abbrev pub same_atom : AtomTree → AtomTree → Bool
same_atom (word k) (word l) = same_kind k l
same_atom (pair a b) (pair c d) = same_atom a c && same_atom b d
same_atom (word k) (pair c d) = false
same_atom (pair a b) (word l) = false
