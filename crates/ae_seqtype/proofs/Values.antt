-- A value and its words.
use Rattle.std.proofs.Common.{◌&&◌, ◌≡◌, ℕ, zero, suc, ◌+◌, ◌*◌, ◌^◌, ◌<◌, ◌-◌, Bool, true, false, Option, Some, None, nat_lt, if◌then◌else◌, option_and_then, List, [], ◌∷◌, ◌++◌, length, take, drop, map, refl, arith, sym, ap, ◌∙◌, length-take, length-drop}
use Rattle.std.proofs.lemmas.List.{take-append-drop, nil_from_length}
use Rattle.std.proofs.lemmas.Bool.Decides.{nat_tests}
use Rattle.std.proofs.lemmas.Bool.{false≢true}
use Rattle.std.proofs.Common.{IsTrue, ◌==◌}
use Rattle.ae_seqtype.specs.SeqTree.{SeqTree, atom, seq, words, repeated}
use Rattle.ae_word.specs.AtomTree.{AtomTree, WordKind, word, pair, atom_words}
use Rattle.ae_seqtype.specs.ValueTree.{ValueTree, listed, elements, flat, cut, atom_value, value_of, FitKinds, fit_kinds, after}

pub elements-listed : (xs : List ValueTree) → elements (listed xs) ≡ xs
elements-listed [] = refl
elements-listed (x ∷ xs) = ap (λ ys. x ∷ ys) (elements-listed xs)

pub flat-atom_value : (a : AtomTree) (ws : List ℕ) → length ws ≡ atom_words a → flat (atom_value a ws) ≡ ws
flat-atom_value (word k) (x ∷ []) h = refl
flat-atom_value (word k) (x ∷ y ∷ ws) h = absurd (omega arith)
flat-atom_value (word k) [] h = absurd (omega arith)
flat-atom_value (pair a b) ws h =
    let k = atom_words a in
    rw (flat-atom_value a (take k ws) (omega (arith, length-take k ws)), flat-atom_value b (drop k ws) (omega (arith, length-drop k ws)))
    (take-append-drop k ws)

-- where each piece's value has its words, the list of them has all
flat_pieces : (f : List ℕ → ValueTree) (k : ℕ) → ((c : List ℕ) → length c ≡ k → flat (f c) ≡ c) → (n : ℕ) (ws : List ℕ) → length ws ≡ n * k
    → flat (listed (map f (cut n k ws))) ≡ ws
flat_pieces f k h zero ws e = sym (nil_from_length ws (omega arith))
flat_pieces f k h (suc n) ws e =
    rw (h (take k ws) (omega (arith, length-take k ws)), flat_pieces f k h n (drop k ws) (omega (arith, length-drop k ws)))
    (take-append-drop k ws)

-- a value of a type has the words that it was made of
pub flat-value_of : (t : SeqTree) (ws : List ℕ) → length ws ≡ words t → flat (value_of t ws) ≡ ws
flat-value_of (atom a) ws h = flat-atom_value a ws h
flat-value_of (seq n t) ws h = flat_pieces (value_of t) (words t) (flat-value_of t) n ws h

after-if : (b : Bool) (o p : Option (List ℕ)) (f : List ℕ → Option (List ℕ)) → o ≡ option_and_then f p
    → (if b then o else None) ≡ option_and_then f (if b then p else None)
after-if true o p f h = h
after-if false o p f h = refl

-- what is left after both lists of ks
pub after-append : (us vs : List WordKind) (ws : List ℕ) → after (us ++ vs) ws ≡ option_and_then (after vs) (after us ws)
after-append [] vs ws = refl
after-append (u ∷ us) vs [] = refl
after-append (u ∷ us) vs (x ∷ ws) = after-if (nat_lt x (2 ^ u.width)) _ _ (after vs) (after-append us vs ws)

if-some : (b : Bool) (o : Option (List ℕ)) (x : List ℕ) → (if b then o else None) ≡ Some x → (b ≡ true) × (o ≡ Some x)
if-some true o x h = (refl, h)
if-some false o x h = cc

-- nothing is left exactly where the words fit
pub fit-from-after : (ks : List WordKind) (ws : List ℕ) → after ks ws ≡ Some [] → FitKinds ws ks
fit-from-after [] [] h = tt
fit-from-after [] (x ∷ ws) h = cc
fit-from-after (w ∷ ks) [] h = cc
fit-from-after (w ∷ ks) (x ∷ ws) h =
    let r = if-some (nat_lt x (2 ^ w.width)) (after ks ws) [] h in
    (grind (arith, nat_tests, r.0), fit-from-after ks ws r.1)

pub after-from-fit : (ks : List WordKind) (ws : List ℕ) → FitKinds ws ks → after ks ws ≡ Some []
after-from-fit [] [] h = refl
after-from-fit [] (x ∷ ws) h = absurd h
after-from-fit (w ∷ ks) [] h = absurd h
after-from-fit (w ∷ ks) (x ∷ ws) h =
    let below : nat_lt x (2 ^ w.width) ≡ true = grind (arith, nat_tests, h.0) in
    rw below (after-from-fit ks ws h.1)

-- nothing is left of both lists where nothing is left of the first
pub after-append-none : (us vs : List WordKind) (ws : List ℕ) → None ≡ after us ws → None ≡ after (us ++ vs) ws
after-append-none us vs ws h = rw (after-append us vs ws, ← h) refl

pub after-append-some : (us vs : List WordKind) (ws rest : List ℕ) → Some rest ≡ after us ws → after (us ++ vs) ws ≡ after vs rest
after-append-some us vs ws rest h = rw (after-append us vs ws, ← h) refl

-- one more element of a sequence
pub after-turn : (n i : ℕ) (w : List WordKind) (ws rest : List ℕ) → i < n → Some rest ≡ after w ws
    → after (repeated (n - i) w) ws ≡ after (repeated (n - (i + 1)) w) rest
after-turn n i w ws rest lt h =
    let more : n - i ≡ suc (n - (i + 1)) = omega arith in
    rw more (after-append-some w (repeated (n - (i + 1)) w) ws rest h)

pub after-turn-none : (n i : ℕ) (w : List WordKind) (ws : List ℕ) → i < n → None ≡ after w ws → None ≡ after (repeated (n - i) w) ws
after-turn-none n i w ws lt h =
    let more : n - i ≡ suc (n - (i + 1)) = omega arith in
    rw more (after-append-none w (repeated (n - (i + 1)) w) ws h)

pub fits-some : (ks : List WordKind) (ws rest : List ℕ) (b : Bool) → Some rest ≡ after ks ws → b ≡ (length rest == 0) → (IsTrue b → FitKinds ws ks)
    × (FitKinds ws ks → IsTrue b)
fits-some ks ws [] b h e = (λ t. fit-from-after ks ws (sym h), λ f. e)
fits-some ks ws (x ∷ rest) b h e =
    let no : b ≡ false = grind (arith, nat_tests) in
    (λ t. absurd (false≢true (sym no ∙ t)), λ f. let q = after-from-fit ks ws f in cc)

pub fits-none : (ks : List WordKind) (ws : List ℕ) → None ≡ after ks ws → (IsTrue false → FitKinds ws ks) × (FitKinds ws ks → IsTrue false)
fits-none ks ws h = (λ t. absurd (false≢true t), λ f. let q = after-from-fit ks ws f in cc)

-- the test says whether nothing is left
pub fit_kinds-some : (ks : List WordKind) (ws rest : List ℕ) → Some rest ≡ after ks ws → (length rest == 0) ≡ fit_kinds ws ks
fit_kinds-some [] [] rest h = let e : rest ≡ [] = cc in rw e refl
fit_kinds-some [] (x ∷ ws) rest h = let e : rest ≡ x ∷ ws = cc in rw e (grind (arith, nat_tests))
fit_kinds-some (k ∷ ks) [] rest h = cc
fit_kinds-some (k ∷ ks) (x ∷ ws) rest h =
    let r = if-some (nat_lt x (2 ^ k.width)) (after ks ws) rest (sym h) in
    rw r.0 (fit_kinds-some ks ws rest (sym r.1))

if-none : (b c : Bool) (o : Option (List ℕ)) → None ≡ (if b then o else None) → (None ≡ o → false ≡ c) → false ≡ (b && c)
if-none true c o h g = g h
if-none false c o h g = refl

pub fit_kinds-none : (ks : List WordKind) (ws : List ℕ) → None ≡ after ks ws → false ≡ fit_kinds ws ks
fit_kinds-none [] ws h = cc
fit_kinds-none (k ∷ ks) [] h = refl
fit_kinds-none (k ∷ ks) (x ∷ ws) h = if-none (nat_lt x (2 ^ k.width)) (fit_kinds ws ks) (after ks ws) h (fit_kinds-none ks ws)
