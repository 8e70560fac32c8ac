-- Why a program is refused, and what an accepted one keeps.
use Rattle.std.specs.Prelude.{◌≡◌, ℕ, Bool, false, nat_lt, IsTrue, List, [], ◌∷◌, Option, Some, None, slice_get}
use Rattle.ae_seqtype.specs.SeqTree.{SeqTree}
use Rattle.ae_seq.specs.declared.checker.CheckFault.{CheckFault}
use Rattle.ae_seq.specs.declared.checker.CheckFault.TheVariants.{BadType, Large, Memory}
use Rattle.ae_seq.specs.Formed.{formed, item_count}
use Rattle.ae_seq.specs.ProgramTree.{FuncTree, ProgramTree}
use Rattle.ae_seq.specs.Signatures.{HaveTypes}
use Rattle.ae_seq.specs.Typing.{Judged, untyped, too_large, refused_line, all_in_size}

-- the refused line and its kind; want of memory says nothing
abbrev pub IsCausedBy : CheckFault → Option Judged → Type 0
IsCausedBy (BadType l) o = o ≡ Some (record { line = l; verdict = untyped })
IsCausedBy (Large l) o = o ≡ Some (record { line = l; verdict = too_large })
IsCausedBy Memory o = Unit {0}

-- each type of each function is in size
abbrev pub AllSized : List (List SeqTree) → Type 0
AllSized [] = Unit {0}
AllSized (ts ∷ tss) = IsTrue (all_in_size ts) × AllSized tss

-- no line is refused, and these are the types of the items of each function
pub record IsAccepted (p : ProgramTree) (tss : List (List SeqTree)) : Type 0 where
  pub is_formed : IsTrue (formed p)
  pub none_refused : refused_line p ≡ None
  pub types : HaveTypes [] p.funcs tss
  pub sized : AllSized tss

-- whether there is such an item
abbrev pub has_item : Option FuncTree → ℕ → Bool
has_item None i = false
has_item (Some f) i = nat_lt i (item_count f)

abbrev pub is_item : ProgramTree → (func item : ℕ) → Bool
is_item p k i = has_item (slice_get p.funcs k) i
