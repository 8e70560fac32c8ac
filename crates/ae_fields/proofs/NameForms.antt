-- Names as texts and as programs have them.
use Rattle.std.proofs.Common.{◌≡◌, ℕ, zero, suc, ◌<◌, Bool, true, false, not, ◌&&◌, ◌||◌, cond, nat_lt, nat_eq, List, [], ◌∷◌, ◌++◌, length, get_or, Some, None, refl, sym, ap, ◌∙◌, arith}
use Rattle.std.proofs.lemmas.List.Quantifiers.{position-Some}
use Rattle.std.proofs.lemmas.List.Sums.{position_or_len_is}
use Rattle.std.proofs.lemmas.Bool.{lt-ltb, eqb-true, eq-eqb}
use Rattle.std.specs.Str.{bytes_eq}
use Rattle.ae_seq.specs.Formed.{same_bytes, is_among, all_distinct, all_names, is_name, apart}
use Rattle.ae_fields.specs.Scopes.{place, is_known}
use Rattle.ae_fields.proofs.PlainOf.{bytes-same}
use Rattle.ae_seq.proofs.Judging.{left as and-first, right as and-second}
use Rattle.ae_fields.proofs.PartLemmas.{and-both}

pub same-agree : (xs ys : List ℕ) → bytes_eq xs ys ≡ same_bytes xs ys
same-agree [] [] = refl
same-agree [] (y ∷ ys) = refl
same-agree (x ∷ xs) [] = refl
same-agree (x ∷ xs) (y ∷ ys) = ap (λ b. nat_eq x y && b) (same-agree xs ys)

pub known-agree : (n : List ℕ) (ns : List (List ℕ)) → is_known n ns ≡ is_among n ns
known-agree n [] = refl
known-agree n (m ∷ ms) = λ i. same-agree n m i || known-agree n ms i

-- ---- lists of names

pub same-turned : (xs ys : List ℕ) → same_bytes xs ys ≡ same_bytes ys xs
same-turned [] [] = refl
same-turned [] (y ∷ ys) = refl
same-turned (x ∷ xs) [] = refl
same-turned (x ∷ xs) (y ∷ ys) = λ i. eq-turned x y i && same-turned xs ys i
  where
    both : (a b : Bool) → (a ≡ true → b ≡ true) → (b ≡ true → a ≡ true) → a ≡ b
    both true b f g = sym (f refl)
    both false true f g = g refl
    both false false f g = refl

    eq-turned : (a b : ℕ) → nat_eq a b ≡ nat_eq b a
    eq-turned a b = both _ _ (λ h. eq-eqb b a (sym (eqb-true a b h))) (λ h. eq-eqb a b (sym (eqb-true b a h)))

pub or-false : (a b : Bool) → (a || b) ≡ false → (a ≡ false) × (b ≡ false)
or-false true b h = absurd cc
or-false false b h = (refl, h)

among-push : (m n : List ℕ) (ns : List (List ℕ)) → is_among m ns ≡ false → same_bytes m n ≡ false → is_among m (ns ++ n ∷ []) ≡ false
among-push m n [] h s = ap (λ b. b || false) s
among-push m n (x ∷ ns) h s = let a = or-false (same_bytes m x) _ h in ap (λ b. b || is_among m (ns ++ n ∷ [])) a.0 ∙ among-push m n ns a.1 s

-- a new name behind the others
pub distinct-push : (ns : List (List ℕ)) (n : List ℕ) → all_distinct ns ≡ true → is_among n ns ≡ false → all_distinct (ns ++ n ∷ []) ≡ true
distinct-push [] n d h = refl
distinct-push (m ∷ ns) n d h =
    let a = or-false (same_bytes n m) _ h in
    let apart_m : is_among m ns ≡ false = not-so (is_among m ns) (and-first _ _ d) in
    and-both _ _ (ap not (among-push m n ns apart_m (same-turned m n ∙ a.0))) (distinct-push ns n (and-second (not (is_among m ns)) _ d) a.1)
  where
    not-so : (b : Bool) → not b ≡ true → b ≡ false
    not-so true h = absurd cc
    not-so false h = refl

pub names-push : (ns : List (List ℕ)) (n : List ℕ) → all_names ns ≡ true → is_name n ≡ true → all_names (ns ++ n ∷ []) ≡ true
names-push [] n h g = and-both _ _ g refl
names-push (m ∷ ns) n h g = and-both _ _ (and-first _ _ h) (names-push ns n (and-second (is_name m) _ h) g)

pub names-front : (ms ns : List (List ℕ)) → all_names (ms ++ ns) ≡ true → all_names ms ≡ true
names-front [] ns h = refl
names-front (m ∷ ms) ns h = and-both _ _ (and-first _ _ h) (names-front ms ns (and-second (is_name m) _ h))

pub names-back : (ms ns : List (List ℕ)) → all_names (ms ++ ns) ≡ true → all_names ns ≡ true
names-back [] ns h = h
names-back (m ∷ ms) ns h = names-back ms ns (and-second (is_name m) _ h)

among-front : (n : List ℕ) (ms ns : List (List ℕ)) → not (is_among n (ms ++ ns)) ≡ true → (not (is_among n ms) ≡ true) × (not (is_among n ns) ≡ true)
among-front n [] ns h = (refl, h)
among-front n (m ∷ ms) ns h = by (same_bytes n m) refl (among-front n ms ns)
  where
    by : (b : Bool) → same_bytes n m ≡ b → (not (is_among n (ms ++ ns)) ≡ true → (not (is_among n ms) ≡ true) × (not (is_among n ns) ≡ true))
        → (not (same_bytes n m || is_among n ms) ≡ true) × (not (is_among n ns) ≡ true)
    by true e rest = absurd (let x = ap (λ b. not (b || is_among n (ms ++ ns))) (sym e) ∙ h in cc)
    by false e rest = let r = rest (ap (λ b. not (b || is_among n (ms ++ ns))) (sym e) ∙ h) in (ap (λ b. not (b || is_among n ms)) e ∙ r.0, r.1)

pub distinct-front : (ms ns : List (List ℕ)) → all_distinct (ms ++ ns) ≡ true → all_distinct ms ≡ true
distinct-front [] ns h = refl
distinct-front (m ∷ ms) ns h = and-both _ _ ((among-front m ms ns (and-first _ _ h)).0) (distinct-front ms ns (and-second (not (is_among m (ms ++ ns))) _ h))

pub distinct-back : (ms ns : List (List ℕ)) → all_distinct (ms ++ ns) ≡ true → all_distinct ns ≡ true
distinct-back [] ns h = h
distinct-back (m ∷ ms) ns h = distinct-back ms ns (and-second (not (is_among m (ms ++ ns))) _ h)

pub distinct-apart : (ms ns : List (List ℕ)) → all_distinct (ms ++ ns) ≡ true → apart ms ns ≡ true
distinct-apart [] ns h = refl
distinct-apart (m ∷ ms) ns h = and-both _ _ ((among-front m ms ns (and-first _ _ h)).1) (distinct-apart ms ns (and-second (not (is_among m (ms ++ ns))) _ h))

-- ---- items

-- a place is one of the names'
pub place-below : (f : List ℕ) (ns : List (List ℕ)) (k : ℕ) → place f ns ≡ Some k → k < length ns
place-below f ns k e = (position-Some (bytes_eq f) ns k [] e).0

-- ---- a name is found where it stands

among-at : (n : List ℕ) (ns : List (List ℕ)) (k : ℕ) → is_among n ns ≡ false → k < length ns → same_bytes n (get_or ns k []) ≡ false
among-at n [] k h l = absurd (omega arith)
among-at n (m ∷ ns) zero h l = (or-false (same_bytes n m) _ h).0
among-at n (m ∷ ns) (suc k) h l = among-at n ns k ((or-false (same_bytes n m) _ h).1) (omega arith)

pub not-so : (b : Bool) → not b ≡ true → b ≡ false
not-so true h = absurd cc
not-so false h = refl

differ : (ns : List (List ℕ)) (j k : ℕ) → all_distinct ns ≡ true → j < k → k < length ns → same_bytes (get_or ns k []) (get_or ns j []) ≡ false
differ [] j k d h l = absurd (omega arith)
differ (n ∷ ns) j zero d h l = absurd (omega arith)
differ (n ∷ ns) zero (suc k) d h l = same-turned (get_or ns k []) n ∙ among-at n ns k (not-so (is_among n ns) (and-first _ _ d)) (omega arith)
differ (n ∷ ns) (suc j) (suc k) d h l = differ ns j k (and-second (not (is_among n ns)) _ d) (omega arith) (omega arith)

pub place-at : (ns : List (List ℕ)) (k : ℕ) → all_distinct ns ≡ true → k < length ns → place (get_or ns k []) ns ≡ Some k
place-at ns k d l =
    let x = get_or ns k [] in
    let e = position_or_len_is (bytes_eq x) ns k [] (omega arith) (λ j h. same-agree x (get_or ns j []) ∙ differ ns j k d h l) (λ h. bytes-same x x refl) in
    (λ i. cond (nat_lt (e i) (length ns)) (Some (e i)) None) ∙ ap (λ t. cond t (Some k) None) (lt-ltb k (length ns) l)

-- a name behind others is none of them
pub distinct-new : (ms : List (List ℕ)) (n : List ℕ) (ns : List (List ℕ)) → all_distinct (ms ++ n ∷ ns) ≡ true → is_among n ms ≡ false
distinct-new [] n ns d = refl
distinct-new (m ∷ ms) n ns d =
    let a = among-front m ms (n ∷ ns) (and-first _ _ d) in
    let b = or-false (same_bytes m n) (is_among m ns) (not-so _ a.1) in
    ap (λ t. t || is_among n ms) (same-turned n m ∙ b.0) ∙ distinct-new ms n ns (and-second (not (is_among m (ms ++ n ∷ ns))) _ d)
