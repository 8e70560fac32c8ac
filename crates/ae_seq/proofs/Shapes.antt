-- One or two arguments, and no other number of them.
use Rattle.std.proofs.Common.{◌≡◌, ◌<◌, ◌≤◌, ◌⊎◌, inl, inr, Bool, true, false, ◌&&◌, IsTrue, List, [], ◌∷◌, length, get_or, Option, None, Bor, refl, ap, sym, arith}
use Rattle.ae_seqtype.specs.declared.seq_type.SeqType.{SeqType}
use Rattle.ae_seqtype.specs.SeqTree.{SeqTree, in_size}
use Rattle.ae_seq.specs.Trees.{lent, lent_types}
use Rattle.ae_seq.specs.Typing.{all_in_size}

pub one-item : (xs : List (Bor SeqType)) (x : Bor SeqType) → 1 ≤ length xs → length xs < 2 → x ≡ get_or xs 0 x → lent_types xs ≡ lent x ∷ []
one-item [] x h g e = absurd (omega arith)
one-item (y ∷ []) x h g e = ap (λ z. lent z ∷ []) (sym e)
one-item (y ∷ z ∷ xs) x h g e = absurd (omega arith)

pub two-items : (xs : List (Bor SeqType)) (x y : Bor SeqType) → 2 ≤ length xs → length xs < 3 → x ≡ get_or xs 0 x → y ≡ get_or xs 1 y →
    lent_types xs ≡ lent x ∷ lent y ∷ []
two-items [] x y h g e f = absurd (omega arith)
two-items (a ∷ []) x y h g e f = absurd (omega arith)
two-items (a ∷ b ∷ []) x y h g e f = rw (e, f) refl
two-items (a ∷ b ∷ c ∷ xs) x y h g e f = absurd (omega arith)

-- a table with an entry for one argument alone, or for two alone
pub but-one : (f : List SeqTree → Option SeqTree) → f [] ≡ None → ((t u : SeqTree) (ts : List SeqTree) → f (t ∷ u ∷ ts) ≡ None) → (xs : List (Bor SeqType)) →
    (length xs < 1) ⊎ (2 ≤ length xs) → None ≡ f (lent_types xs)
but-one f none more [] h = sym none
but-one f none more (x ∷ []) h = absurd (elim h [ inl e ↦ omega arith | inr e ↦ omega arith ])
but-one f none more (x ∷ y ∷ xs) h = sym (more (lent x) (lent y) (lent_types xs))

pub but-two : (f : List SeqTree → Option SeqTree) → f [] ≡ None → ((t : SeqTree) → f (t ∷ []) ≡ None) →
    ((t u v : SeqTree) (ts : List SeqTree) → f (t ∷ u ∷ v ∷ ts) ≡ None) →
    (xs : List (Bor SeqType)) → (length xs < 2) ⊎ (3 ≤ length xs) → None ≡ f (lent_types xs)
but-two f none one more [] h = sym none
but-two f none one more (x ∷ []) h = sym (one (lent x))
but-two f none one more (x ∷ y ∷ []) h = absurd (elim h [ inl e ↦ omega arith | inr e ↦ omega arith ])
but-two f none one more (x ∷ y ∷ z ∷ xs) h = sym (more (lent x) (lent y) (lent z) (lent_types xs))

pub sized-one : (t : SeqTree) → IsTrue (all_in_size (t ∷ [])) → IsTrue (in_size t)
sized-one t h = first (in_size t) h
  where
    first : (b : Bool) → IsTrue (b && true) → IsTrue b
    first true g = refl
    first false g = g
