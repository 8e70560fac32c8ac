-- The kinds of a type's words repeat those of its atom.
use Rattle.std.proofs.Common.{◌≡◌, ℕ, zero, suc, ◌+◌, ◌-◌, ◌*◌, ◌%◌, ◌<◌, ◌≤◌, ◌^◌, List, [], ◌∷◌, ◌++◌, length, Some, slice_get, refl, arith, sym, ap, ◌∙◌, ⊎_elim, IsTrue, mul_assoc}
use Rattle.std.proofs.lemmas.Bool.{cases_lt}
use Rattle.std.proofs.lemmas.Bool.Decides.{nat_tests}
use Rattle.std.proofs.lemmas.Option.{none-some, same_Some}
use Rattle.std.proofs.Math.Nat.{mod-eq-sub-mod, mod-eq_of_lt}
use Rattle.ae_word.specs.AtomTree.{WordKind, atom_words, atom_kinds}
use Rattle.ae_word.proofs.Sizes.{length-atom_kinds}
use Rattle.ae_seqtype.specs.SeqTree.{SeqTree, atom, seq, words, kinds, repeated, atoms, atom_of}
use Rattle.ae_seqtype.specs.ValueTree.{fit_kinds}
use Rattle.ae_seqtype.proofs.Stands.{repeated-one, repeated-mul}

kinds-repeated : (t : SeqTree) → kinds t ≡ repeated (atoms t) (atom_kinds (atom_of t))
kinds-repeated (atom a) = sym (repeated-one (atom_kinds a))
kinds-repeated (seq n t) = ap (λ (ks : List WordKind). repeated n ks) (kinds-repeated t) ∙ sym (repeated-mul n (atoms t) (atom_kinds (atom_of t)))

get-left : {A : Type 0} (xs ys : List A) (j : ℕ) → j < length xs → slice_get (xs ++ ys) j ≡ slice_get xs j
get-left [] ys j h = absurd (omega arith)
get-left (x ∷ xs) ys zero h = refl
get-left (x ∷ xs) ys (suc j) h = get-left xs ys j (omega arith)

get-right : {A : Type 0} (xs ys : List A) (j : ℕ) → length xs ≤ j → slice_get (xs ++ ys) j ≡ slice_get ys (j - length xs)
get-right [] ys j h = let e : j ≡ j - 0 = omega arith in ap (slice_get ys) e
get-right (x ∷ xs) ys zero h = absurd (omega arith)
get-right (x ∷ xs) ys (suc j) h = let e : j - length xs ≡ suc j - length (x ∷ xs) = omega arith in get-right xs ys j (omega arith) ∙ ap (slice_get ys) e

repeated-at : {A : Type 0} (n : ℕ) (xs : List A) (j : ℕ) → j < n * length xs → slice_get (repeated n xs) j ≡ slice_get xs (j % length xs)
repeated-at zero xs j h = absurd (omega arith)
repeated-at (suc n) xs j h = ⊎_elim
    (λ (lt : j < length xs). get-left xs (repeated n xs) j lt ∙ ap (slice_get xs) (sym (mod-eq_of_lt lt)))
    (λ (ge : length xs ≤ j). get-right xs (repeated n xs) j ge ∙ repeated-at n xs (j - length xs) (omega arith) ∙ ap (slice_get xs) (sym (mod-eq-sub-mod ge)))
    (cases_lt j (length xs))

-- as many words as each atom has, for each atom
pub words-atoms : (t : SeqTree) → words t ≡ atoms t * atom_words (atom_of t)
words-atoms (atom a) = omega arith
words-atoms (seq n t) = ap (λ x. n * x) (words-atoms t) ∙ sym (mul_assoc n (atoms t) (atom_words (atom_of t)))

-- the kind of a word of a type
pub kind-place : (t : SeqTree) (j : ℕ) → j < words t → slice_get (atom_kinds (atom_of t)) (j % atom_words (atom_of t)) ≡ slice_get (kinds t) j
kind-place t j h =
    let ks = atom_kinds (atom_of t) in
    let size : length ks ≡ atom_words (atom_of t) = length-atom_kinds (atom_of t) in
    let all : words t ≡ atoms t * length ks = words-atoms t ∙ ap (λ i. atoms t * i) (sym size) in
    ap (λ i. slice_get ks (j % i)) (sym size) ∙ sym (repeated-at (atoms t) ks j (omega arith)) ∙
    ap (λ (zs : List WordKind). slice_get zs j) (sym (kinds-repeated t))

-- words that fit their kinds
pub fit-length : (ws : List ℕ) (ks : List WordKind) → IsTrue (fit_kinds ws ks) → length ws ≡ length ks
fit-length [] [] h = refl
fit-length [] (k ∷ ks) h = cc
fit-length (x ∷ ws) [] h = cc
fit-length (x ∷ ws) (k ∷ ks) h = let rest : IsTrue (fit_kinds ws ks) = grind (arith, nat_tests) in omega (arith, fit-length ws ks rest)

pub fit-at : (ws : List ℕ) (ks : List WordKind) → IsTrue (fit_kinds ws ks) → (o x : ℕ) (k : WordKind) → slice_get ws o ≡ Some x → slice_get ks o ≡ Some k
    → x < 2 ^ k.width
fit-at [] ks h o x k f g = absurd (none-some x f)
fit-at (y ∷ ws) [] h o x k f g = absurd (none-some k g)
fit-at (y ∷ ws) (l ∷ ks) h zero x k f g =
    let a : y ≡ x = same_Some y x f in
    let b : l ≡ k = same_Some l k g in
    rw (← a, ← b) (grind (arith, nat_tests))
fit-at (y ∷ ws) (l ∷ ks) h (suc o) x k f g = fit-at ws ks (grind (arith, nat_tests)) o x k f g
