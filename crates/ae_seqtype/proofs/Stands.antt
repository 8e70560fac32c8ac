-- Which words are those of a value: sequences joined, cut, repeated and zeroed.
use Rattle.std.proofs.Common.{◌≡◌, ℕ, zero, suc, ◌+◌, ◌*◌, List, [], ◌∷◌, ◌++◌, length, take, drop, map, replicate, refl, arith, sym, ap, ◌∙◌, append_assoc}
use Rattle.std.proofs.lemmas.List.{map-append, take_all, append-nil}
use Rattle.std.proofs.Math.Nat.{suc-add, zero-add, zero-mul}
use Rattle.ae_word.specs.AtomTree.{AtomTree, WordKind, word, pair, atom_words}
use Rattle.ae_seqtype.specs.SeqTree.{SeqTree, atom, seq, kinds, words, repeated}
use Rattle.ae_seqtype.specs.ValueTree.{ValueTree, more, listed, elements, zeroed, cut, atom_value, value_of, FitKinds, Fit, Stands}
use Rattle.ae_seqtype.proofs.Sizes.{length-kinds, length-repeated}
use Rattle.ae_seqtype.proofs.Values.{elements-listed}
use Rattle.ae_seqtype.proofs.Cuts.{cut-append, take-cut, drop-cut, cut-take, cut-cut, cut-map, take-map, drop-map}

pub length-FitKinds : (ws : List ℕ) (ks : List WordKind) → FitKinds ws ks → length ws ≡ length ks
length-FitKinds [] [] h = refl
length-FitKinds (x ∷ ws) (w ∷ ks) h = omega (arith, length-FitKinds ws ks h.1)
length-FitKinds [] (w ∷ ks) h = absurd h
length-FitKinds (x ∷ ws) [] h = absurd h

pub length-Fit : (t : SeqTree) (ws : List ℕ) → Fit t ws → length ws ≡ words t
length-Fit t ws h = length-FitKinds ws (kinds t) h ∙ length-kinds t

pub FitKinds-append : (xs bs : List ℕ) (us vs : List WordKind) → FitKinds xs us → FitKinds bs vs → FitKinds (xs ++ bs) (us ++ vs)
FitKinds-append [] bs [] vs h g = g
FitKinds-append (a ∷ xs) bs (u ∷ us) vs h g = (h.0, FitKinds-append xs bs us vs h.1 g)
FitKinds-append [] bs (u ∷ us) vs h g = absurd h
FitKinds-append (a ∷ xs) bs [] vs h g = absurd h

pub FitKinds-split : (us vs : List WordKind) (ws : List ℕ) → FitKinds ws (us ++ vs) → FitKinds (take (length us) ws) us × FitKinds (drop (length us) ws) vs
FitKinds-split [] vs ws h = (tt, h)
FitKinds-split (u ∷ us) vs (w ∷ ws) h = let r = FitKinds-split us vs ws h.1 in ((h.0, r.0), r.1)
FitKinds-split (u ∷ us) vs [] h = absurd h

-- the elements of a sequence
pub elements-value_of : (n : ℕ) (t : SeqTree) (ws : List ℕ) → elements (value_of (seq n t) ws) ≡ map (value_of t) (cut n (words t) ws)
elements-value_of n t ws = elements-listed _

-- no elements
pub Stands-none : (t : SeqTree) → Stands (seq 0 t) [] (listed [])
Stands-none t = record { fits = tt; value = refl }

pub repeated-add : {A : Type 0} (n m : ℕ) (xs : List A) → repeated (n + m) xs ≡ repeated n xs ++ repeated m xs
repeated-add zero m xs = rw (zero-add m) refl
repeated-add (suc n) m xs = rw (suc-add n m, append_assoc) (ap (λ ys. xs ++ ys) (repeated-add n m xs))

pub repeated-mul : {A : Type 0} (n m : ℕ) (xs : List A) → repeated (n * m) xs ≡ repeated n (repeated m xs)
repeated-mul zero m xs = rw (zero-mul m) refl
repeated-mul (suc n) m xs =
    let sum : suc n * m ≡ m + n * m = omega arith in
    rw (sum, repeated-add m (n * m) xs, repeated-mul n m xs) refl

pub repeated-one : {A : Type 0} (xs : List A) → repeated 1 xs ≡ xs
repeated-one xs = append-nil xs

pub repeated-push : {A : Type 0} (n : ℕ) (xs : List A) → repeated (n + 1) xs ≡ repeated n xs ++ xs
repeated-push n xs = repeated-add n 1 xs ∙ ap (λ ys. repeated n xs ++ ys) (repeated-one xs)

listed-same : (xs ys : List ValueTree) → listed xs ≡ listed ys → xs ≡ ys
listed-same xs ys h = sym (elements-listed xs) ∙ ap elements h ∙ elements-listed ys

-- both sequences, one after the other
pub Stands-append : (n m : ℕ) (t : SeqTree) (us vs : List ℕ) (xs ys : List ValueTree) → Stands (seq n t) us (listed xs) → Stands (seq m t) vs (listed ys)
    → Stands (seq (n + m) t) (us ++ vs) (listed (xs ++ ys))
Stands-append n m t us vs xs ys h g = record {
  fits = rw (repeated-add n m (kinds t)) (FitKinds-append us vs _ _ h.fits g.fits);
  value =
      rw (cut-append n m (words t) us vs (length-Fit (seq n t) us h.fits), map-append (value_of t) (cut n (words t) us) (cut m (words t) vs))
      (ap listed (ap (λ z. z ++ map (value_of t) (cut m (words t) vs)) (listed-same _ xs h.value) ∙ ap (λ z. xs ++ z) (listed-same _ ys g.value)));
}

-- one element
pub Stands-one : (t : SeqTree) (r : List ℕ) (y : ValueTree) → Stands t r y → Stands (seq 1 t) r (listed (y ∷ []))
Stands-one t r y h = record {
  fits = rw (repeated-one (kinds t)) h.fits;
  value = rw (take_all (words t) r (omega (arith, length-Fit t r h.fits)), h.value) refl;
}

-- one more element
pub Stands-push : (n : ℕ) (t : SeqTree) (us r : List ℕ) (xs : List ValueTree) (y : ValueTree) → Stands (seq n t) us (listed xs) → Stands t r y
    → Stands (seq (n + 1) t) (us ++ r) (listed (xs ++ y ∷ []))
Stands-push n t us r xs y h g = Stands-append n 1 t us r xs (y ∷ []) h (Stands-one t r y g)

-- the first elements, and the others
pub Stands-take : (m n : ℕ) (t : SeqTree) (ws : List ℕ) (v : ValueTree) → Stands (seq (m + n) t) ws v
    → Stands (seq m t) (take (m * words t) ws) (listed (take m (elements v)))
Stands-take m n t ws v h =
    let k = words t in
    let long : length (repeated m (kinds t)) ≡ m * k = length-repeated m (kinds t) ∙ ap (λ j. m * j) (length-kinds t) in
    record {
      fits = rw (← long) ((FitKinds-split (repeated m (kinds t)) (repeated n (kinds t)) ws (rw (← repeated-add m n (kinds t)) h.fits)).0);
      value = rw (cut-take m k ws, ← h.value, elements-value_of (m + n) t ws, take-map (value_of t) m (cut (m + n) k ws), take-cut m n k ws) refl;
    }

pub Stands-drop : (m n : ℕ) (t : SeqTree) (ws : List ℕ) (v : ValueTree) → Stands (seq (m + n) t) ws v
    → Stands (seq n t) (drop (m * words t) ws) (listed (drop m (elements v)))
Stands-drop m n t ws v h =
    let k = words t in
    let long : length (repeated m (kinds t)) ≡ m * k = length-repeated m (kinds t) ∙ ap (λ j. m * j) (length-kinds t) in
    record {
      fits = rw (← long) ((FitKinds-split (repeated m (kinds t)) (repeated n (kinds t)) ws (rw (← repeated-add m n (kinds t)) h.fits)).1);
      value = rw (← h.value, elements-value_of (m + n) t ws, drop-map (value_of t) m (cut (m + n) k ws), drop-cut m n k ws) refl;
    }

-- zero words
abbrev pub no_word : ℕ → ℕ
no_word x = 0

abbrev pub zeros : List ℕ → List ℕ
zeros ws = map no_word ws

pub zeros-replicate : (ws : List ℕ) → zeros ws ≡ replicate (length ws) 0
zeros-replicate [] = refl
zeros-replicate (x ∷ ws) = ap (λ xs. 0 ∷ xs) (zeros-replicate ws)

pub zeroed-listed : (xs : List ValueTree) → zeroed (listed xs) ≡ listed (map zeroed xs)
zeroed-listed [] = refl
zeroed-listed (x ∷ xs) = ap (λ v. more (zeroed x) v) (zeroed-listed xs)

zeroed-atom_value : (a : AtomTree) (ws : List ℕ) → zeroed (atom_value a ws) ≡ atom_value a (zeros ws)
zeroed-atom_value (word k) [] = refl
zeroed-atom_value (word k) (x ∷ ws) = refl
zeroed-atom_value (pair a b) ws =
    let k = atom_words a in
    rw (take-map no_word k ws, drop-map no_word k ws, zeroed-atom_value a (take k ws), zeroed-atom_value b (drop k ws)) refl

zeroed-pieces : (f : List ℕ → ValueTree) → ((c : List ℕ) → zeroed (f c) ≡ f (zeros c)) → (cs : List (List ℕ)) → map zeroed (map f cs) ≡ map f (map zeros cs)
zeroed-pieces f h [] = refl
zeroed-pieces f h (c ∷ cs) = rw (h c, zeroed-pieces f h cs) refl

zeroed-value_of : (t : SeqTree) (ws : List ℕ) → zeroed (value_of t ws) ≡ value_of t (zeros ws)
zeroed-value_of (atom a) ws = zeroed-atom_value a ws
zeroed-value_of (seq n t) ws =
    rw (zeroed-listed, cut-map no_word n (words t) ws)
    (ap listed (zeroed-pieces (value_of t) (zeroed-value_of t) (cut n (words t) ws)))

FitKinds-zeros : (ws : List ℕ) (ks : List WordKind) → FitKinds ws ks → FitKinds (zeros ws) ks
FitKinds-zeros [] [] h = tt
FitKinds-zeros (x ∷ ws) (w ∷ ks) h = (omega (arith, h.0), FitKinds-zeros ws ks h.1)
FitKinds-zeros [] (w ∷ ks) h = absurd h
FitKinds-zeros (x ∷ ws) [] h = absurd h

pub Stands-zeroed : (t : SeqTree) (ws : List ℕ) (v : ValueTree) → Stands t ws v → Stands t (zeros ws) (zeroed v)
Stands-zeroed t ws v h = record {
  fits = FitKinds-zeros ws (kinds t) h.fits;
  value = sym (zeroed-value_of t ws) ∙ ap zeroed h.value;
}

-- pieces
listed-pieces : (f : List ℕ → ValueTree) (m k : ℕ) (cs : List (List ℕ)) → map listed (map (map f) (map (cut m k) cs)) ≡ map (λ c. listed (map f (cut m k c))) cs
listed-pieces f m k [] = refl
listed-pieces f m k (c ∷ cs) = ap (λ xs. listed (map f (cut m k c)) ∷ xs) (listed-pieces f m k cs)

pub Stands-cut : (n m : ℕ) (t : SeqTree) (ws : List ℕ) (v : ValueTree) → Stands (seq (n * m) t) ws v
    → Stands (seq n (seq m t)) ws (listed (map listed (cut n m (elements v))))
Stands-cut n m t ws v h =
    let k = words t in
    record {
      fits = rw (← repeated-mul n m (kinds t)) h.fits;
      value =
          rw (← h.value, elements-value_of (n * m) t ws, cut-map (value_of t) n m (cut (n * m) k ws), cut-cut n m k ws)
          (sym (ap listed (listed-pieces (value_of t) m k (cut n (m * k) ws))));
    }

-- copies
pub Stands-repeated : (n : ℕ) (t : SeqTree) (ws : List ℕ) (v : ValueTree) → Stands t ws v → Stands (seq n t) (repeated n ws) (listed (repeated n (v ∷ [])))
Stands-repeated zero t ws v h = Stands-none t
Stands-repeated (suc n) t ws v h =
    let one : suc n ≡ 1 + n = omega arith in
    rw one (Stands-append 1 n t ws (repeated n ws) (v ∷ []) (repeated n (v ∷ [])) (Stands-one t ws v h) (Stands-repeated n t ws v h))

-- a value and its words
pub stands : (t : SeqTree) (ws : List ℕ) → Fit t ws → Stands t ws (value_of t ws)
stands t ws h = record { fits = h; value = refl }
