-- Pieces of a list.
use Rattle.std.proofs.Common.{◌≡◌, ℕ, zero, suc, ◌+◌, ◌*◌, ◌≤◌, List, [], ◌∷◌, ◌++◌, length, take, drop, map, refl, arith, ap, length-drop}
use Rattle.std.proofs.lemmas.List.{nil_from_length, take-append-le, drop-append-le, take-take, drop-drop, drop-take}
use Rattle.std.proofs.Math.Nat.{suc-add, zero-add, zero-mul}
use Rattle.ae_seqtype.specs.ValueTree.{cut}

pub length-cut : {A : Type 0} (n k : ℕ) (ws : List A) → length (cut n k ws) ≡ n
length-cut zero k ws = refl
length-cut (suc n) k ws = omega (arith, length-cut n k (drop k ws))

pub take-map : {A B : Type 0} (f : A → B) (n : ℕ) (xs : List A) → take n (map f xs) ≡ map f (take n xs)
take-map f zero xs = refl
take-map f (suc n) [] = refl
take-map f (suc n) (x ∷ xs) = ap (λ ys. f x ∷ ys) (take-map f n xs)

pub drop-map : {A B : Type 0} (f : A → B) (n : ℕ) (xs : List A) → drop n (map f xs) ≡ map f (drop n xs)
drop-map f zero xs = refl
drop-map f (suc n) [] = refl
drop-map f (suc n) (x ∷ xs) = drop-map f n xs

-- the pieces of a list that is mapped
pub cut-map : {A B : Type 0} (f : A → B) (n k : ℕ) (ws : List A) → cut n k (map f ws) ≡ map (map f) (cut n k ws)
cut-map f zero k ws = refl
cut-map f (suc n) k ws = simp (take-map, drop-map, cut-map f n k (drop k ws))

-- the pieces of both lists
pub cut-append : {A : Type 0} (n m k : ℕ) (us vs : List A) → length us ≡ n * k → cut (n + m) k (us ++ vs) ≡ cut n k us ++ cut m k vs
cut-append zero m k us vs h = rw (zero-add, nil_from_length us (omega arith)) refl
cut-append (suc n) m k us vs h =
    let here : k ≤ length us = omega arith in
    rw (suc-add n m, take-append-le k us vs here, drop-append-le k us vs here)
    (ap (λ xs. take k us ∷ xs) (cut-append n m k (drop k us) vs (omega (arith, length-drop k us))))

-- the first pieces
pub take-cut : {A : Type 0} (m r k : ℕ) (ws : List A) → take m (cut (m + r) k ws) ≡ cut m k ws
take-cut zero r k ws = refl
take-cut (suc m) r k ws = rw (suc-add m r) (ap (λ xs. take k ws ∷ xs) (take-cut m r k (drop k ws)))

-- the pieces after them
pub drop-cut : {A : Type 0} (m r k : ℕ) (ws : List A) → drop m (cut (m + r) k ws) ≡ cut r k (drop (m * k) ws)
drop-cut zero r k ws = rw (zero-add r, zero-mul k) refl
drop-cut (suc m) r k ws =
    let sum : suc m * k ≡ k + m * k = omega arith in
    rw (suc-add m r, sum, ← drop-drop (m * k) k ws) (drop-cut m r k (drop k ws))

pub cut-take : {A : Type 0} (m k : ℕ) (ws : List A) → cut m k (take (m * k) ws) ≡ cut m k ws
cut-take zero k ws = refl
cut-take (suc m) k ws =
    let sum : suc m * k ≡ k + m * k = omega arith in
    rw (sum, take-take k (k + m * k) ws (omega arith), drop-take k (m * k) ws)
    (ap (λ xs. take k ws ∷ xs) (cut-take m k (drop k ws)))

-- pieces of pieces
pub cut-cut : {A : Type 0} (n m k : ℕ) (ws : List A) → cut n m (cut (n * m) k ws) ≡ map (cut m k) (cut n (m * k) ws)
cut-cut zero m k ws = refl
cut-cut (suc n) m k ws =
    let sum : suc n * m ≡ m + n * m = omega arith in
    rw (sum, take-cut m (n * m) k ws, drop-cut m (n * m) k ws, cut-take m k ws, cut-cut n m k (drop (m * k) ws)) refl
