-- The types that are kept of the items of a program's functions.
use Rattle.std.proofs.Common.{◌≡◌, ℕ, zero, suc, ◌+◌, nat_lt, List, [], ◌∷◌, ◌++◌, length, map, take, Option, Some, None, slice_get, is_some, refl, arith, sym, ap, ◌∙◌, IsTrue, IfSome, length-append}
use Rattle.std.specs.Borrow.{Bor}
use Rattle.std.proofs.lemmas.List.{length-map}
use Rattle.std.proofs.lemmas.Bool.Decides.{nat_tests}
use Rattle.ae_seqtype.specs.SeqTree.{SeqTree, in_size, seq_tree}
use Rattle.ae_seqtype.specs.declared.seq_type.SeqType.{SeqType}
use Rattle.ae_seq.specs.Accepted.{AllSized, has_item}
use Rattle.ae_seq.specs.Formed.{item_count}
use Rattle.ae_seq.specs.ProgramTree.{FuncTree}
use Rattle.ae_seq.specs.Signatures.{HaveTypes, kept_type}
use Rattle.ae_seq.specs.Trees.{lent, option_lent}
use Rattle.ae_seq.specs.Typing.{grown, item_types, node_type, param_types, signature, Signature, ◌>>=◌}
use Rattle.ae_seq.proofs.Judging.{result-known}
use Rattle.ae_seq.proofs.Types.{item-sized}

-- the kept type is the item's
pub kept-types : (known : List Signature) (fs : List FuncTree) (tss : List (List SeqTree)) (k i : ℕ) → HaveTypes known fs tss
    → kept_type tss k i ≡ (slice_get fs k >>= λ f. slice_get (item_types (grown signature known (take k fs)) f) i >>= λ o. o)
kept-types known [] [] k i h = refl
kept-types known [] (us ∷ tss) k i h = absurd h
kept-types known (f ∷ fs) [] k i h = absurd h
kept-types known (f ∷ fs) (us ∷ tss) zero i h = rw h.0 (sym (result-known (Some i) us))
kept-types known (f ∷ fs) (us ∷ tss) (suc k) i h = kept-types (known ++ signature known f ∷ []) fs tss k i h.1

pub length-grown : {A B : Type 0} (step : List B → A → B) (known : List B) (xs : List A) → length (grown step known xs) ≡ length known + length xs
length-grown step known [] = omega arith
length-grown step known (x ∷ xs) = omega (arith, length-grown step (known ++ step known x ∷ []) xs, length-append known (step known x ∷ []))

-- a function has a type for each item
count-types : (known : List Signature) (f : FuncTree) (ts : List SeqTree) → item_types known f ≡ map Some ts → length ts ≡ item_count f
count-types known f ts h =
    let e = simp length-map at (ap length h) in
    let b = simp length-map at (length-grown (node_type known) (map Some (param_types f)) f.nodes) in
    omega (arith, e, b)

there-below : {A : Type 0} (xs : List A) (i : ℕ) → is_some (slice_get xs i) ≡ nat_lt i (length xs)
there-below [] i = grind (arith, nat_tests)
there-below (x ∷ xs) zero = grind (arith, nat_tests)
there-below (x ∷ xs) (suc i) = let e = there-below xs i in e ∙ grind (arith, nat_tests)

pub kept-there : (known : List Signature) (fs : List FuncTree) (tss : List (List SeqTree)) (k i : ℕ) → HaveTypes known fs tss
    → is_some (kept_type tss k i) ≡ has_item (slice_get fs k) i
kept-there known [] [] k i h = refl
kept-there known [] (us ∷ tss) k i h = absurd h
kept-there known (f ∷ fs) [] k i h = absurd h
kept-there known (f ∷ fs) (us ∷ tss) zero i h = there-below us i ∙ ap (nat_lt i) (count-types known f us h.0)
kept-there known (f ∷ fs) (us ∷ tss) (suc k) i h = kept-there (known ++ signature known f ∷ []) fs tss k i h.1

pub kept-sized : (tss : List (List SeqTree)) (k i : ℕ) (t : SeqTree) → AllSized tss → kept_type tss k i ≡ Some t → IsTrue (in_size t)
kept-sized [] k i t h e = cc
kept-sized (us ∷ tss) zero i t h e = item-sized us i t h.0 e
kept-sized (us ∷ tss) (suc k) i t h e = kept-sized tss k i t h.1 e

pub is_some-lent : (r : Option (Bor SeqType)) → is_some r ≡ is_some (option_lent r)
is_some-lent None = refl
is_some-lent (Some t) = refl

pub lent-sized : (r : Option (Bor SeqType)) (o : Option SeqTree) → option_lent r ≡ o → ((t : SeqTree) → o ≡ Some t → IsTrue (in_size t))
    → IfSome r (λ t. IsTrue (in_size (seq_tree t.now)))
lent-sized None o e h = tt
lent-sized (Some t) o e h = h (lent t) (sym e)
