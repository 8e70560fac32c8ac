-- Which space-time types are in size.
use Rattle.std.specs.Prelude.{ℕ, ◌*◌, ◌<◌, ◌≤◌, IsTrue, nat_le, Option, Some, None, if◌then◌else◌}
use Rattle.std.specs.Coded.{×_prop, le_prop}
use Rattle.ae_word.specs.AtomTree.{atom_in_size}
use Rattle.std.proofs.Math.Bool.{Bool-set}
use Rattle.ae_sttype.specs.StTree.{StTree, atom, tseq, sseq, time, st_atoms, st_depth, element_words}

-- each sequence has an element, and the atom is in size
abbrev pub HasLengths : StTree → Type 0
HasLengths (atom a) = IsTrue (atom_in_size a)
HasLengths (tseq n i t) = (0 < n) × HasLengths t
HasLengths (sseq n t) = (0 < n) × HasLengths t

-- the type is in size: so are its parts, and time, words and nesting are within their limits
pub record IsInSize (s : StTree) : Type 0 where
  pub lengths : HasLengths s
  pub in_time : time s ≤ 4096
  pub in_words : st_atoms s * element_words s ≤ 16384
  pub in_depth : st_depth s ≤ 16

-- there is one proof of it, so that a struct may keep it
pub HasLengths-prop : (s : StTree) → IsProp (HasLengths s)
HasLengths-prop (atom a) = hlevel (Bool-set)
HasLengths-prop (tseq n i t) = ×_prop le_prop (HasLengths-prop t)
HasLengths-prop (sseq n t) = ×_prop le_prop (HasLengths-prop t)

pub IsInSize-prop : (s : StTree) → IsProp (IsInSize s)
IsInSize-prop s = hlevel (HasLengths-prop, le_prop)

-- a number, where it is within a limit
abbrev pub at_most : (limit n : ℕ) → Option ℕ
at_most limit n = if nat_le n limit then Some n else None
