-- Types of arguments, and what functions need.
use Rattle.std.proofs.Common.{◌≡◌, ◌≢◌, ◌⊎◌, ℕ, zero, suc, ◌+◌, ◌<◌, ◌≤◌, List, [], ◌∷◌, ◌++◌, length, get_or, drop, map, Bool, true, false, ◌&&◌, Option, Some, None, slice_get, refl, arith, sym, ap, ◌∙◌, append_assoc, IsTrue, ⊎_elim, inl, inr}
use Rattle.std.proofs.lemmas.List.{at_drop_more}
use Rattle.std.proofs.lemmas.Option.{slice_get-map, slice_get_read}
use Rattle.std.proofs.lemmas.Bool.Decides.{nat_tests}
use Rattle.std.specs.Option.{option_map}
use Rattle.ae_seqtype.specs.SeqTree.{SeqTree, in_size, same_type}
use Rattle.ae_seq.specs.ProgramTree.{FuncTree}
use Rattle.ae_seq.specs.Signatures.{result_in, signatures_by}
use Rattle.ae_seq.specs.Typing.{all_in_size, called, param_types, same_types, types_at, where_ok, ◌>>=◌}
use Rattle.ae_seq.proofs.Judging.{true-and as both-true}

and-false : (a b : Bool) → false ≡ b → false ≡ (a && b)
and-false true b h = h
and-false false b h = refl

-- lists of different lengths are not the same types
pub same_types-lengths : (ts us : List SeqTree) → length ts ≢ length us → false ≡ same_types ts us
same_types-lengths [] [] h = absurd (h refl)
same_types-lengths [] (u ∷ us) h = refl
same_types-lengths (t ∷ ts) [] h = refl
same_types-lengths (t ∷ ts) (u ∷ us) h = and-false (same_type t u) _ (same_types-lengths ts us (λ e. h (omega (arith, e))))

-- one more argument
after-some : (o : Option (List SeqTree)) (found : List SeqTree) (t : SeqTree)
    → ((o >>= λ ts. Some (t ∷ ts)) >>= λ rest. Some (found ++ rest)) ≡ (o >>= λ rest. Some ((found ++ t ∷ []) ++ rest))
after-some None found t = refl
after-some (Some ts) found t = ap (λ xs. Some xs) (sym (append_assoc found (t ∷ []) ts))

pub types_at-more : (ts : List SeqTree) (args : List ℕ) (i : ℕ) (found : List SeqTree) (t : SeqTree) → i < length args
    → slice_get ts (get_or args i 0) ≡ Some t → (types_at (map Some ts) (drop i args) >>= λ rest. Some (found ++ rest)) ≡ (types_at (map Some ts)
    (drop (i + 1) args) >>= λ rest. Some ((found ++ t ∷ []) ++ rest))
types_at-more ts args i found t h g =
    at_drop_more (λ xs. types_at (map Some ts) xs >>= λ rest. Some (found ++ rest)) args i 0 h
    ∙ rw (slice_get-map {B = Option SeqTree} (λ x. Some x) ts (get_or args i 0), g) (after-some (types_at (map Some ts) (drop (i + 1) args)) found t)

pub types_at-none : (ts : List SeqTree) (args : List ℕ) (i : ℕ) (found : List SeqTree) → i < length args → slice_get ts (get_or args i 0) ≡ None
    → (types_at (map Some ts) (drop i args) >>= λ rest. Some (found ++ rest)) ≡ None
types_at-none ts args i found h g =
    at_drop_more (λ xs. types_at (map Some ts) xs >>= λ rest. Some (found ++ rest)) args i 0 h
    ∙ rw (slice_get-map {B = Option SeqTree} (λ x. Some x) ts (get_or args i 0), g) refl

-- items in size are arguments in size
pub item-sized : (ts : List SeqTree) (k : ℕ) (t : SeqTree) → IsTrue (all_in_size ts) → slice_get ts k ≡ Some t → IsTrue (in_size t)
item-sized [] k t h g = cc
item-sized (u ∷ ts) zero t h g = let e : u ≡ t = cc in rw (← e) (grind (arith, nat_tests))
item-sized (u ∷ ts) (suc k) t h g = item-sized ts k t (grind (arith, nat_tests)) g

pub some-item : (o : Option SeqTree) (t : SeqTree) → option_map (λ (x : SeqTree). Some x) o ≡ Some (Some t) → o ≡ Some t
some-item None t h = cc
some-item (Some u) t h = cc

-- the first argument and the others
pub record Front (o : Option (Option SeqTree)) (r : Option (List SeqTree)) (us : List SeqTree) : Type 0 where
  pub first : SeqTree
  pub rest : List SeqTree
  pub first_is : o ≡ Some (Some first)
  pub rest_is : r ≡ Some rest
  pub whole : first ∷ rest ≡ us

pub front : (o : Option (Option SeqTree)) (r : Option (List SeqTree)) (us : List SeqTree) → (o >>= λ p. p >>= λ t. r >>= λ vs. Some (t ∷ vs)) ≡ Some us
    → Front o r us
front (Some (Some t)) (Some vs) us h = record { first = t; rest = vs; first_is = refl; rest_is = refl; whole = cc }
front (Some (Some t)) None us h = cc
front (Some None) r us h = cc
front None r us h = cc

pub types_at-sized : (ts : List SeqTree) (args : List ℕ) (us : List SeqTree) → IsTrue (all_in_size ts) → types_at (map Some ts) args ≡ Some us
    → IsTrue (all_in_size us)
types_at-sized ts [] us h g = let e : [] ≡ us = cc in rw (← e) refl
types_at-sized ts (k ∷ ks) us h g =
    let f = front (slice_get (map Some ts) k) (types_at (map Some ts) ks) us g in
    let here = some-item (slice_get ts k) f.first (sym (slice_get-map {B = Option SeqTree} (λ x. Some x) ts k) ∙ f.first_is) in
    rw (← f.whole) (both-true (in_size f.first) (all_in_size f.rest) (item-sized ts k f.first h here) (types_at-sized ts ks f.rest h f.rest_is))

pub signatures_by-at : (fs : List FuncTree) (tss : List (List SeqTree)) (k : ℕ) (f : FuncTree) (ts : List SeqTree) → slice_get fs k ≡ Some f
    → slice_get tss k ≡ Some ts → slice_get (signatures_by fs tss) k ≡ Some (record { params = param_types f; result = result_in f ts })
signatures_by-at (f' ∷ fs) (ts' ∷ tss) zero f ts h g = rw (let e : f' ≡ f = cc in e, let e : ts' ≡ ts = cc in e) refl
signatures_by-at (f' ∷ fs) (ts' ∷ tss) (suc k) f ts h g = signatures_by-at fs tss k f ts h g
signatures_by-at [] tss k f ts h g = cc
signatures_by-at (f' ∷ fs) [] k f ts h g = cc

pub signatures_by-past : (fs : List FuncTree) (tss : List (List SeqTree)) (k : ℕ) → (length fs ≤ k) ⊎ (length tss ≤ k)
    → slice_get (signatures_by fs tss) k ≡ None
signatures_by-past [] tss k h = refl
signatures_by-past (f ∷ fs) [] k h = refl
signatures_by-past (f ∷ fs) (ts ∷ tss) zero h = absurd (⊎_elim (λ a. omega arith) (λ a. omega arith) h)
signatures_by-past (f ∷ fs) (ts ∷ tss) (suc k) h = signatures_by-past fs tss k (⊎_elim (λ a. inl (omega arith)) (λ a. inr (omega arith)) h)

-- the result of a function that is known, and of one that is not
pub called-at : (fs : List FuncTree) (tss : List (List SeqTree)) (k : ℕ) (f : FuncTree) (ts us : List SeqTree) → slice_get fs k ≡ Some f
    → slice_get tss k ≡ Some ts → called (signatures_by fs tss) k us ≡ where_ok (same_types (param_types f) us) (result_in f ts)
called-at fs tss k f ts us h g = rw (signatures_by-at fs tss k f ts h g) refl

pub called-past : (fs : List FuncTree) (tss : List (List SeqTree)) (k : ℕ) (us : List SeqTree) → (length fs ≤ k) ⊎ (length tss ≤ k)
    → None ≡ called (signatures_by fs tss) k us
called-past fs tss k us h = rw (signatures_by-past fs tss k h) refl

-- an element that was read, as it is seen
pub slice_get-view : {A B : Type 0} (v : A → B) (xs : List A) (k : ℕ) (x : A) → k < length xs → x ≡ get_or xs k x → slice_get (map v xs) k ≡ Some (v x)
slice_get-view v xs k x h e = slice_get-map v xs k ∙ ap (option_map v) (slice_get_read xs (length xs) k x refl h e)
