-- One word after another of an operator on the words of two values.
use Rattle.std.proofs.Common.{◌≡◌, ℕ, zero, suc, ◌+◌, ◌-◌, ◌*◌, ◌%◌, ◌<◌, ◌≤◌, ◌^◌, List, [], ◌∷◌, ◌++◌, length, take, drop, get_or, Some, IsSome, slice_get, refl, arith, sym, ap, ◌∙◌, append_assoc, length-append, ⊎_elim}
use Rattle.std.proofs.lemmas.List.{take_all, get_or_append_left, get_or-drop}
use Rattle.std.proofs.lemmas.Bool.{cases_lt}
use Rattle.std.proofs.Math.Nat.{mod-eq-sub-mod, mod-eq_of_lt}
use Rattle.ae_word.specs.declared.op.WordOp.{WordOp}
use Rattle.ae_word.specs.AtomTree.{WordKind, atom_words, atom_kinds}
use Rattle.ae_word.proofs.Sizes.{length-atom_kinds}
use Rattle.ae_seqtype.specs.SeqTree.{SeqTree, atom, seq, words, kinds, repeated, atoms, atom_of}
use Rattle.ae_seqtype.specs.ValueTree.{FitKinds}
use Rattle.ae_seqtype.proofs.Sizes.{length-kinds, one-atom_words}
use Rattle.ae_seqtype.proofs.Stands.{length-Fit, repeated-one, repeated-mul}
use Rattle.ae_seq.specs.Meaning.{coded}
use Rattle.ae_eval.specs.Stack.{FitAt, window, combined}
use Rattle.ae_eval.proofs.Zips.{words-atoms}
use Rattle.ae_eval.proofs.Folding.{length-combined}

pub kinds-repeated : (t : SeqTree) → kinds t ≡ repeated (atoms t) (atom_kinds (atom_of t))
kinds-repeated (atom a) = sym (repeated-one (atom_kinds a))
kinds-repeated (seq n t) = ap (λ (ks : List WordKind). repeated n ks) (kinds-repeated t) ∙ sym (repeated-mul n (atoms t) (atom_kinds (atom_of t)))

get-left : {A : Type 0} (xs ys : List A) (j : ℕ) → j < length xs → slice_get (xs ++ ys) j ≡ slice_get xs j
get-left [] ys j h = absurd (omega arith)
get-left (x ∷ xs) ys zero h = refl
get-left (x ∷ xs) ys (suc j) h = get-left xs ys j (omega arith)

get-right : {A : Type 0} (xs ys : List A) (j : ℕ) → length xs ≤ j → slice_get (xs ++ ys) j ≡ slice_get ys (j - length xs)
get-right [] ys j h = let e : j ≡ j - 0 = omega arith in ap (slice_get ys) e
get-right (x ∷ xs) ys zero h = absurd (omega arith)
get-right (x ∷ xs) ys (suc j) h = let e : j - length xs ≡ suc j - length (x ∷ xs) = omega arith in get-right xs ys j (omega arith) ∙ ap (slice_get ys) e

pub repeated-at : {A : Type 0} (n : ℕ) (xs : List A) (j : ℕ) → j < n * length xs → slice_get (repeated n xs) j ≡ slice_get xs (j % length xs)
repeated-at zero xs j h = absurd (omega arith)
repeated-at (suc n) xs j h = ⊎_elim
    (λ (lt : j < length xs). get-left xs (repeated n xs) j lt ∙ ap (slice_get xs) (sym (mod-eq_of_lt lt)))
    (λ (ge : length xs ≤ j). get-right xs (repeated n xs) j ge ∙ repeated-at n xs (j - length xs) (omega arith) ∙ ap (slice_get xs) (sym (mod-eq-sub-mod ge)))
    (cases_lt j (length xs))

-- the kind of a word of a type
pub kind-place : (t : SeqTree) (j m : ℕ) → j < words t → m ≡ atom_words (atom_of t) → slice_get (atom_kinds (atom_of t)) (j % m) ≡ slice_get (kinds t) j
kind-place t j m h e =
    let ks = atom_kinds (atom_of t) in
    let size : length ks ≡ m = length-atom_kinds (atom_of t) ∙ sym e in
    let all : words t ≡ atoms t * length ks = words-atoms t ∙ ap (λ i. atoms t * i) (sym (length-atom_kinds (atom_of t))) in
    ap (λ i. slice_get ks (j % i)) (sym size) ∙ sym (repeated-at (atoms t) ks j (omega arith)) ∙
    ap (λ (zs : List WordKind). slice_get zs j) (sym (kinds-repeated t))

some-at : {A : Type 0} (xs : List A) (j : ℕ) → j < length xs → IsSome (slice_get xs j)
some-at [] j h = absurd (omega arith)
some-at (x ∷ xs) zero h = refl
some-at (x ∷ xs) (suc j) h = some-at xs j (omega arith)

pub kind-there : (t : SeqTree) (j m : ℕ) → j < words t → m ≡ atom_words (atom_of t) → IsSome (slice_get (atom_kinds (atom_of t)) (j % m))
kind-there t j m h e = rw (kind-place t j m h e) (some-at (kinds t) j (omega (arith, length-kinds t)))

fit-at : (ws : List ℕ) (ks : List WordKind) (j x : ℕ) (k : WordKind) → FitKinds ws ks → slice_get ks j ≡ Some k → x ≡ get_or ws j x → x < 2 ^ k.width
fit-at ws [] j x k h e g = cc
fit-at [] (l ∷ ks) j x k h e g = absurd h
fit-at (w ∷ ws) (l ∷ ks) zero x k h e g = let same : l ≡ k = cc in let own : x ≡ w = g in rw (own, ← same) h.0
fit-at (w ∷ ws) (l ∷ ks) (suc j) x k h e g = fit-at ws ks j x k h.1 e g

get-take : (ws : List ℕ) (n j x : ℕ) → j < n → get_or (take n ws) j x ≡ get_or ws j x
get-take ws zero j x h = absurd (omega arith)
get-take [] (suc n) j x h = refl
get-take (w ∷ ws) (suc n) zero x h = refl
get-take (w ∷ ws) (suc n) (suc j) x h = get-take ws n j x (omega arith)

pub grown-room : (t : SeqTree) (left j : ℕ) (old more now : List ℕ) → FitAt t left old → now ≡ old ++ more → j < words t → left + j < length now
grown-room t left j old more now h e lt = let r = h.room in rw e (omega (arith, length-append old more))

-- a word of a value on the stack
pub window-at : (t : SeqTree) (left j x : ℕ) (old more now : List ℕ) → FitAt t left old → now ≡ old ++ more → j < words t → x ≡ get_or now (left + j) x
    → x ≡ get_or (window t left old) j x
window-at t left j x old more now h e lt g =
    let r = h.room in
    g ∙ ap (λ ys. get_or ys (left + j) x) e ∙ get_or_append_left old more x (left + j) (omega arith) ∙ sym (get_or-drop left old j x) ∙
    sym (get-take (drop left old) (words t) j x lt)

pub word-fits : (t : SeqTree) (left j m x : ℕ) (old more now : List ℕ) (k : WordKind) → FitAt t left old → now ≡ old ++ more → j < words t
    → m ≡ atom_words (atom_of t) → x ≡ get_or now (left + j) x → slice_get (atom_kinds (atom_of t)) (j % m) ≡ Some k → x < 2 ^ k.width
word-fits t left j m x old more now k h e lt em g s =
    fit-at (window t left old) (kinds t) j x k h.fits (sym (kind-place t j m lt em) ∙ s) (window-at t left j x old more now h e lt g)

combined-more : (op : WordOp) (ks : List WordKind) (us vs : List ℕ) (j x y r : ℕ) → j < length ks → length us ≡ length ks → length vs ≡ length ks
    → x ≡ get_or us j x → y ≡ get_or vs j y → ((k : WordKind) → slice_get ks j ≡ Some k → r ≡ coded op k x y 0)
    → take (j + 1) (combined op ks us vs) ≡ take j (combined op ks us vs) ++ r ∷ []
combined-more op [] us vs j x y r h p q ex ey er = absurd (omega arith)
combined-more op (k ∷ ks) [] vs j x y r h p q ex ey er = absurd (omega arith)
combined-more op (k ∷ ks) (a ∷ us) [] j x y r h p q ex ey er = absurd (omega arith)
combined-more op (k ∷ ks) (a ∷ us) (b ∷ vs) zero x y r h p q ex ey er =
    let ea : x ≡ a = ex in
    let eb : y ≡ b = ey in
    let own = er k refl in
    let same : coded op k a b 0 ≡ r = ap (λ z. coded op k z b 0) (sym ea) ∙ ap (λ z. coded op k x z 0) (sym eb) ∙ sym own in
    ap (λ z. z ∷ []) same
combined-more op (k ∷ ks) (a ∷ us) (b ∷ vs) (suc j) x y r h p q ex ey er =
    let sum : suc j + 1 ≡ suc (j + 1) = omega arith in
    rw sum (ap (λ zs. coded op k a b 0 ∷ zs) (combined-more op ks us vs j x y r (omega arith) (omega arith) (omega arith) ex ey er))

-- one more word
pub combine-step : (op : WordOp) (t : SeqTree) (left right j m x y r : ℕ) (old now : List ℕ) → FitAt t left old → FitAt t right old → j < words t
    → m ≡ atom_words (atom_of t)
    → now ≡ old ++ take j (combined op (kinds t) (window t left old) (window t right old)) → x ≡ get_or now (left + j) x → y ≡ get_or now (right + j) y
    → ((k : WordKind) → slice_get (atom_kinds (atom_of t)) (j % m) ≡ Some k → r ≡ coded op k x y 0)
    → now ++ r ∷ [] ≡ old ++ take (j + 1) (combined op (kinds t) (window t left old) (window t right old))
combine-step op t left right j m x y r old now h g lt em e ex ey er =
    let us = window t left old in
    let vs = window t right old in
    let all = combined op (kinds t) us vs in
    let size = length-kinds t in
    let more = combined-more op (kinds t) us vs j x y r (omega arith) (length-Fit t us h.fits ∙ sym size) (length-Fit t vs g.fits ∙ sym size)
    (window-at t left j x old (take j all) now h e lt ex) (window-at t right j y old (take j all) now g e lt ey)
    (λ k s. er k (kind-place t j m lt em ∙ s)) in
    ap (λ ys. ys ++ r ∷ []) e ∙ append_assoc old (take j all) (r ∷ []) ∙ ap (λ ys. old ++ ys) (sym more)

pub combine-done : (op : WordOp) (t : SeqTree) (left right j : ℕ) (old now : List ℕ) → FitAt t left old → FitAt t right old → j ≡ words t → now ≡ old
    ++ take j (combined op (kinds t) (window t left old) (window t right old)) → now ≡ old ++ combined op (kinds t) (window t left old) (window t right old)
combine-done op t left right j old now h g ej e =
    let us = window t left old in
    let vs = window t right old in
    let all = combined op (kinds t) us vs in
    let size = length-kinds t in
    let long = length-combined op (kinds t) us vs (length-Fit t us h.fits ∙ sym size) (length-Fit t vs g.fits ∙ sym size) in
    e ∙ ap (λ ys. old ++ ys) (take_all j all (omega arith))

pub some-words : (t : SeqTree) (m : ℕ) → m ≡ atom_words (atom_of t) → 1 ≤ m
some-words t m e = omega (arith, one-atom_words (atom_of t))
