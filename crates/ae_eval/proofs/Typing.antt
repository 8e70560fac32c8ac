-- The types that the code finds are the items'.
use Rattle.std.proofs.Common.{◌≡◌, ℕ, zero, suc, ◌<◌, ◌≤◌, List, [], ◌∷◌, length, take, Option, Some, None, slice_get, refl, arith, sym, ap, ◌∙◌}
use Rattle.std.specs.Borrow.{Bor}
use Rattle.ae_seqtype.specs.declared.seq_type.SeqType.{SeqType}
use Rattle.ae_seqtype.specs.SeqTree.{seq_tree}
use Rattle.ae_seq.specs.ProgramTree.{FuncTree, ProgramTree}
use Rattle.ae_seq.specs.Trees.{option_lent}
use Rattle.ae_seq.specs.Typing.{item_types, signatures, type_at, ◌>>=◌}
use Rattle.ae_seq.proofs.Judging.{result-known}
use Rattle.ae_eval.specs.Stack.{IsTyped, types_for, types_in}
use Rattle.ae_eval.proofs.Accepting.{func-types}

type-at-by : (p : ProgramTree) (k i : ℕ) (o : Option FuncTree) → IsTyped p → slice_get p.funcs k ≡ o → type_at p k i ≡ slice_get (types_in p k) i
type-at-by p k i None h e =
    ap (λ (q : Option FuncTree). q >>= λ f. slice_get (item_types (signatures (take k p.funcs)) f) i >>= λ o. o) e
    ∙ ap (λ ts. slice_get ts i) (sym (ap (types_for (signatures (take k p.funcs))) e))
type-at-by p k i (Some f) h e =
    let r = func-types p k f h e in
    ap (λ (q : Option FuncTree). q >>= λ f. slice_get (item_types (signatures (take k p.funcs)) f) i >>= λ o. o) e
    ∙ ap (λ os. slice_get os i >>= λ o. o) r.all ∙ result-known (Some i) (types_in p k)

pub type-at-is : (p : ProgramTree) (k i : ℕ) → IsTyped p → type_at p k i ≡ slice_get (types_in p k) i
type-at-is p k i h = type-at-by p k i (slice_get p.funcs k) h refl

none-there : {A : Type 0} (xs : List A) (i : ℕ) → slice_get xs i ≡ None → length xs ≤ i
none-there [] i h = omega arith
none-there (x ∷ xs) zero h = cc
none-there (x ∷ xs) (suc i) h = omega (arith, none-there xs i h)

pub never-none : (p : ProgramTree) (k i : ℕ) (r : Option (Bor SeqType)) → IsTyped p → option_lent r ≡ type_at p k i → r ≡ None → i < length (types_in p k) → ⊥
never-none p k i r h e n lt =
    let q : slice_get (types_in p k) i ≡ None = sym (type-at-is p k i h) ∙ sym e ∙ ap option_lent n in
    let over = none-there (types_in p k) i q in
    absurd (omega arith)

pub found-type : (p : ProgramTree) (k i : ℕ) (r : Option (Bor SeqType)) (t : Bor SeqType) → IsTyped p → option_lent r ≡ type_at p k i → r ≡ Some t
    → slice_get (types_in p k) i ≡ Some (seq_tree t.now)
found-type p k i r t h e s = sym (type-at-is p k i h) ∙ sym e ∙ ap option_lent s
