-- What functions need, where the types of their items are known.
use Rattle.std.specs.Prelude.{◌≡◌, ℕ, List, [], ◌∷◌, ◌++◌, map, Option, Some, slice_get}
use Rattle.ae_seqtype.specs.SeqTree.{SeqTree}
use Rattle.ae_seq.specs.ProgramTree.{FuncTree}
use Rattle.ae_seq.specs.Typing.{Signature, param_types, item_types, signature, ◌>>=◌}

abbrev pub result_in : FuncTree → List SeqTree → Option SeqTree
result_in f ts = slice_get f.results 0 >>= λ k. slice_get ts k

abbrev pub signatures_by : List FuncTree → List (List SeqTree) → List Signature
signatures_by (f ∷ fs) (ts ∷ tss) = record { params = param_types f; result = result_in f ts } ∷ signatures_by fs tss
signatures_by _ _ = []

-- each item of each function has its type
abbrev pub HaveTypes : List Signature → List FuncTree → List (List SeqTree) → Type 0
HaveTypes known [] [] = Unit {0}
HaveTypes known (f ∷ fs) (ts ∷ tss) =
    (item_types known f ≡ map Some ts) × HaveTypes (known ++ signature known f ∷ []) fs tss
HaveTypes known _ _ = ⊥

-- the type that is kept of an item of a function
abbrev pub kept_type : List (List SeqTree) → (func item : ℕ) → Option SeqTree
kept_type tss k i = slice_get tss k >>= λ ts. slice_get ts i
