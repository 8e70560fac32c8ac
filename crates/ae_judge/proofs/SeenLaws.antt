-- Names that are marked at the places of their declarations.
use Rattle.std.proofs.Common.{ℕ, zero, suc, ◌≡◌, ◌<◌, Bool, true, false, ◌||◌, List, [], ◌∷◌, ◌++◌, length, Some, None, is_some, IfSome, slice_get, slice_set, replicate, refl, sym, ap, ◌∙◌, subst, inl, inr, arith}
use Rattle.std.specs.Prelude.{bytes_eq}
use Rattle.std.proofs.lemmas.Bool.{both_ways, cases_Bool, cond-false}
use Rattle.std.proofs.lemmas.List.{map-append}
use Rattle.ae_vmodule.specs.ModuleTree.{NetTree}
use Rattle.ae_vmodule.specs.View.{word_at}
use Rattle.ae_judge.specs.Places.{Entry, place_in, place_named, with_place}
use Rattle.ae_judge.specs.Seen.{AreMarked, entries_of}
use Rattle.ae_judge.proofs.Members.{bytes_same, other_bytes, same_bytes}
use Rattle.ae_judge.proofs.PlaceLemmas.{has_with, place_same, place_within, set_long, set_other, set_same}

replicated : (k p : ℕ) → p < k → slice_get (replicate k false) p ≡ Some false
replicated zero p l = absurd (omega arith)
replicated (suc k) zero l = refl
replicated (suc k) (suc p) l = replicated k p (omega arith)

replicate_long : (k : ℕ) → length (replicate k false) ≡ k
replicate_long zero = refl
replicate_long (suc k) = ap suc (replicate_long k)

pub none_marked : (ns : List NetTree) → AreMarked ns [] (replicate (length ns) false)
none_marked ns = record {
  long = replicate_long (length ns);
  each = λ n p e. replicated (length ns) p (subst (λ o. IfSome o (λ q. q < length ns)) e (place_within ns n));
}

-- one name more, which was not seen
pub entries_more : (ws : List (List ℕ)) (ks : List ℕ) (k : ℕ) → is_some (place_in (entries_of ws ks) (word_at ws k)) ≡ false
    → entries_of ws (ks ++ k ∷ []) ≡ with_place (entries_of ws ks) (word_at ws k) 0
entries_more ws ks k none =
    map-append (λ (i : ℕ). (word_at ws i, 0)) ks (k ∷ [])
    ∙ sym (cond-false _ (entries_of ws ks) (entries_of ws ks ++ (word_at ws k, 0) ∷ []) none)

-- whether another name was seen stays
other_seen : (es : List Entry) (m n : List ℕ) → bytes_eq n m ≡ false → is_some (place_in (with_place es m 0) n) ≡ is_some (place_in es n)
other_seen es m n h = has_with es m 0 n ∙ or_none (is_some (place_in es n)) (bytes_eq n m) h
  where
    or_none : (a b : Bool) → b ≡ false → (a || b) ≡ a
    or_none true b h = refl
    or_none false b h = h

this_seen : (es : List Entry) (m n : List ℕ) → bytes_eq n m ≡ true → is_some (place_in (with_place es m 0) n) ≡ true
this_seen es m n h = has_with es m 0 n ∙ or_some (is_some (place_in es n)) (bytes_eq n m) h
  where
    or_some : (a b : Bool) → b ≡ true → (a || b) ≡ true
    or_some true b h = refl
    or_some false b h = h

-- a declared name more is marked
pub marked_more : (ns : List NetTree) (es : List Entry) (marks : List Bool) (m : List ℕ) (q : ℕ) → AreMarked ns es marks → place_named ns m ≡ Some q
    → AreMarked ns (with_place es m 0) (slice_set marks q true)
marked_more ns es marks m q h there =
    let within : q < length marks = (let l : q < length ns = subst (λ o. IfSome o (λ p. p < length ns)) there (place_within ns m) in
    let long = h.long in omega arith) in
    record {
      long = set_long marks q true ∙ h.long;
      each = λ n p e. elim (cases_Bool (bytes_eq n m)) [
        | inl same ↦
            let s : q ≡ p = (let t : Some q ≡ Some p = sym there ∙ ap (place_named ns) (sym ((same_words n m) same)) ∙ e in cc) in
            ap (slice_get (slice_set marks q true)) (sym s) ∙ set_same marks q true within ∙ ap Some (sym (this_seen es m n same))
        | inr other ↦
            set_other marks q p true (λ s. apart n m other (place_same ns n m p e (there ∙ ap Some s)))
            ∙ h.each n p e ∙ ap Some (sym (other_seen es m n other))
      ];
    }
  where
    same_words : (n m : List ℕ) → bytes_eq n m ≡ true → n ≡ m
    same_words n m h = same_bytes n m h

    apart : (n m : List ℕ) → bytes_eq n m ≡ false → (n ≡ m → ⊥)
    apart n m h e = both_ways _ h (bytes_same n m e)

-- and where it is not declared, nothing is marked
pub marked_same : (ns : List NetTree) (es : List Entry) (marks : List Bool) (m : List ℕ) → AreMarked ns es marks → place_named ns m ≡ None
    → AreMarked ns (with_place es m 0) marks
marked_same ns es marks m h none = record {
  long = h.long;
  each = λ n p e. h.each n p e ∙ ap Some (sym (other_seen es m n (other_bytes n m (λ s. clash (sym e ∙ ap (place_named ns) s ∙ none)))));
}
  where
    clash : {p : ℕ} → Some p ≡ None → ⊥
    clash e = cc
