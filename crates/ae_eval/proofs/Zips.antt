-- Pairs of elements at every level.
use Rattle.std.proofs.Common.{◌≡◌, ℕ, zero, suc, ◌+◌, ◌*◌, ◌≤◌, ◌==◌, List, [], ◌∷◌, ◌++◌, take, drop, map, Option, Some, None, IsSome, IsTrue, refl, arith, sym, ap, ◌∙◌, subst, append_assoc, append-nil}
use Rattle.std.proofs.lemmas.List.{take_all, take-take, drop-drop, drop-take}
use Rattle.std.proofs.lemmas.Bool.Decides.{nat_tests}
use Rattle.std.proofs.Math.Nat.{zero-add, zero-mul, suc-add}
use Rattle.ae_word.specs.AtomTree.{AtomTree, word, pair, atom_words, atom_in_size, pair_depth}
use Rattle.ae_seqtype.specs.SeqTree.{SeqTree, atom, seq, words, kinds, atoms, atom_of, in_size, parts_in_size}
use Rattle.ae_seqtype.specs.ValueTree.{ValueTree, both, more, listed, value_of, atom_value, cut, Fit, FitKinds, Stands}
use Rattle.ae_seqtype.proofs.Stands.{length-Fit, Stands-append, Stands-one, Stands-none, Stands-take, Stands-drop, repeated-one, stands}
use Rattle.ae_seq.specs.Typing.{zip_type, zipped_type, ◌>>=◌}
use Rattle.ae_seq.specs.Meaning.{zipped, map_two}
use Rattle.ae_eval.specs.Stack.{FitAt, Pushed, window, paired}
use Rattle.ae_eval.proofs.Windows.{pushed-on}
use Rattle.ae_eval.proofs.Moving.{where_ok-some, join_fit}
use Rattle.ae_eval.proofs.Wording.{there}

-- the atoms of a type have its words
pub words-atoms : (t : SeqTree) → words t ≡ atoms t * atom_words (atom_of t)
words-atoms (atom a) = omega arith
words-atoms (seq n t) =
    let e = words-atoms t in let k : n * (atoms t * atom_words (atom_of t)) ≡ n * atoms t * atom_words (atom_of t) = omega arith in ap (λ j. n * j) e ∙ k

pub atom-in-size : (t : SeqTree) → IsTrue (parts_in_size t) → IsTrue (atom_in_size (atom_of t))
atom-in-size (atom a) h = h
atom-in-size (seq n t) h = atom-in-size t (grind (arith, nat_tests))

pub atom-depth : (t : SeqTree) → IsTrue (in_size t) → pair_depth (atom_of t) ≤ 6
atom-depth t h =
    let p : IsTrue (parts_in_size t) = grind (arith, nat_tests) in
    let a = atom-in-size t p in
    grind (arith, nat_tests)

paired-take : (n k l : ℕ) (us vs : List ℕ) → paired n k l (take (n * k) us) (take (n * l) vs) ≡ paired n k l us vs
paired-take zero k l us vs = refl
paired-take (suc n) k l us vs =
    let a : suc n * k ≡ k + n * k = omega arith in
    let b : suc n * l ≡ l + n * l = omega arith in
    rw (a, b, take-take k (k + n * k) us (omega arith), take-take l (l + n * l) vs (omega arith), drop-take k (n * k) us, drop-take l (n * l) vs)
    (ap (λ ys. (take k us ++ take l vs) ++ ys) (paired-take n k l (drop k us) (drop l vs)))

paired-add : (n m k l : ℕ) (us vs : List ℕ) → paired (n + m) k l us vs ≡ paired n k l us vs ++ paired m k l (drop (n * k) us) (drop (n * l) vs)
paired-add zero m k l us vs = rw (zero-add m, zero-mul k, zero-mul l) refl
paired-add (suc n) m k l us vs =
    let a : suc n * k ≡ k + n * k = omega arith in
    let b : suc n * l ≡ l + n * l = omega arith in
    rw (suc-add n m, a, b, ← drop-drop (n * k) k us, ← drop-drop (n * l) l vs)
    (ap (λ ys. (take k us ++ take l vs) ++ ys) (paired-add n m k l (drop k us) (drop l vs)) ∙
    sym (append_assoc (take k us ++ take l vs) (paired n k l (drop k us) (drop l vs)) _))

zipped-atom : (a : AtomTree) (us : List ℕ) (v : ValueTree) → zipped (atom_value a us) v ≡ both (atom_value a us) v
zipped-atom (word k) us v = refl
zipped-atom (pair a b) us v = refl

zipped-listed : (f g : List ℕ → ValueTree) (n k l : ℕ) (us vs : List ℕ)
    → zipped (listed (map f (cut n k us))) (listed (map g (cut n l vs))) ≡ listed (map_two zipped (map f (cut n k us)) (map g (cut n l vs)))
zipped-listed f g zero k l us vs = refl
zipped-listed f g (suc n) k l us vs = ap (λ z. more (zipped (f (take k us)) (g (take l vs))) z) (zipped-listed f g n k l (drop k us) (drop l vs))

zip-pieces : (t u w : SeqTree) (q k l : ℕ) → words t ≡ q * k → words u ≡ q * l
    → ((us vs : List ℕ) → Fit t us → Fit u vs → Stands w (paired q k l us vs) (zipped (value_of t us) (value_of u vs)))
    → (n : ℕ) (us vs : List ℕ) → Fit (seq n t) us → Fit (seq n u) vs
    → Stands (seq n w) (paired (n * q) k l us vs) (listed (map_two zipped (map (value_of t) (cut n (words t) us)) (map (value_of u) (cut n (words u) vs))))
zip-pieces t u w q k l et eu h zero us vs f g = rw (zero-mul q) (Stands-none w)
zip-pieces t u w q k l et eu h (suc n) us vs f g =
    let one : suc n ≡ 1 + n = omega arith in
    let sum : suc n * q ≡ q + n * q = omega arith in
    let st : 1 * words t ≡ words t = omega arith in
    let su : 1 * words u ≡ words u = omega arith in
    let wt = stands (seq (1 + n) t) us (subst (λ j. Fit (seq j t) us) one f) in
    let wu = stands (seq (1 + n) u) vs (subst (λ j. Fit (seq j u) vs) one g) in
    let F : (z : SeqTree) (ys : List ℕ) → ℕ → Type 0 = λ z ys j. FitKinds (take j ys) (kinds z) in
    let G : (z : SeqTree) (ys : List ℕ) → ℕ → Type 0 = λ z ys j. Fit (seq n z) (drop j ys) in
    let ft = subst (F t us) st (subst (λ ks. FitKinds (take (1 * words t) us) ks) (repeated-one (kinds t)) (Stands-take 1 n t us _ wt).fits) in
    let fu = subst (F u vs) su (subst (λ ks. FitKinds (take (1 * words u) vs) ks) (repeated-one (kinds u)) (Stands-take 1 n u vs _ wu).fits) in
    let rt = subst (G t us) st (Stands-drop 1 n t us _ wt).fits in
    let ru = subst (G u vs) su (Stands-drop 1 n u vs _ wu).fits in
    let first = h (take (words t) us) (take (words u) vs) ft fu in
    let rest = zip-pieces t u w q k l et eu h n (drop (words t) us) (drop (words u) vs) rt ru in
    let x = zipped (value_of t (take (words t) us)) (value_of u (take (words u) vs)) in
    let xs = map_two zipped (map (value_of t) (cut n (words t) (drop (words t) us))) (map (value_of u) (cut n (words u) (drop (words u) vs))) in
    let all = Stands-append 1 n w _ _ (x ∷ []) xs (Stands-one w _ x first) rest in
    let form : paired q k l (take (words t) us) (take (words u) vs)
    ++ paired (n * q) k l (drop (words t) us) (drop (words u) vs) ≡ paired (suc n * q) k l us vs =
    ap (λ j. paired q k l (take j us) (take (words u) vs) ++ paired (n * q) k l (drop j us) (drop (words u) vs)) et
    ∙ ap (λ j. paired q k l (take (q * k) us) (take j vs) ++ paired (n * q) k l (drop (q * k) us) (drop j vs)) eu
    ∙ ap (λ ys. ys ++ paired (n * q) k l (drop (q * k) us) (drop (q * l) vs)) (paired-take q k l us vs)
    ∙ sym (paired-add q (n * q) k l us vs) ∙ ap (λ j. paired j k l us vs) (sym sum) in
    let P : List ℕ → Type 0 = λ ys. Stands (seq (1 + n) w) ys (listed (x ∷ xs)) in
    let N : ℕ → Type 0 = λ j. Stands (seq j w) (paired (suc n * q) k l us vs) (listed (x ∷ xs)) in
    subst N (sym one) (subst P form all)

bind-some : {A B : Type 0} (o : Option A) (f : A → Option B) (b : B) → (o >>= f) ≡ Some b → (x : A) × (o ≡ Some x) × (f x ≡ Some b)
bind-some None f b h = cc
bind-some (Some x) f b h = (x, refl, h)

-- as many atoms
pub atoms-same : (s z v : SeqTree) → zipped_type s z ≡ Some v → atoms s ≡ atoms z
atoms-same (atom a) (atom b) v h = refl
atoms-same (atom a) (seq m u) v h = cc
atoms-same (seq n t) (atom b) v h = cc
atoms-same (seq n t) (seq m u) v h =
    let ok = where_ok-some (n == m) (zipped_type t u >>= λ w. Some (seq n w)) v h in
    let r = bind-some (zipped_type t u) (λ w. Some (seq n w)) v ok.1 in
    let e : n ≡ m = grind (arith, nat_tests, ok.0) in
    rw (e, atoms-same t u r.0 r.1) refl

zip-stands : (s z v : SeqTree) → zipped_type s z ≡ Some v → (us vs : List ℕ) → Fit s us → Fit z vs
    → Stands v (paired (atoms s) (atom_words (atom_of s)) (atom_words (atom_of z)) us vs) (zipped (value_of s us) (value_of z vs))
zip-stands (atom a) (atom b) v h us vs f g =
    let same : atom (pair a b) ≡ v = cc in
    let ku = take_all (atom_words a) us (omega (arith, length-Fit (atom a) us f)) in
    let kv = take_all (atom_words b) vs (omega (arith, length-Fit (atom b) vs g)) in
    let form : us ++ vs ≡ (take (atom_words a) us ++ take (atom_words b) vs)
    ++ [] = sym (append-nil (take (atom_words a) us ++ take (atom_words b) vs) ∙ ap (λ ys. ys ++ take (atom_words b) vs) ku ∙ ap (λ ys. us ++ ys) kv) in
    let P : List ℕ → Type 0 = λ ys. Stands (atom (pair a b)) ys (both (atom_value a us) (atom_value b vs)) in
    rw (← same, zipped-atom a us (atom_value b vs)) (subst P form (join_fit a b us vs f g))
zip-stands (atom a) (seq m u) v h us vs f g = cc
zip-stands (seq n t) (atom b) v h us vs f g = cc
zip-stands (seq n t) (seq m u) v h us vs f g =
    let ok = where_ok-some (n == m) (zipped_type t u >>= λ w. Some (seq n w)) v h in
    let r = bind-some (zipped_type t u) (λ w. Some (seq n w)) v ok.1 in
    let w = r.0 in
    let e : m ≡ n = grind (arith, nat_tests, ok.0) in
    let same : seq n w ≡ v = (let q = r.2 in cc) in
    let q = atoms t in
    let k = atom_words (atom_of t) in
    let l = atom_words (atom_of u) in
    let et = words-atoms t in
    let eu = words-atoms u ∙ ap (λ j. j * l) (sym (atoms-same t u w r.1)) in
    let G : ℕ → Type 0 = λ j. Fit (seq j u) vs in
    let here = zip-pieces t u w q k l et eu (zip-stands t u w r.1) n us vs f (subst G e g) in
    let P : ValueTree → Type 0 = λ x. Stands (seq n w) (paired (n * q) k l us vs) x in
    let there = subst P (sym (zipped-listed (value_of t) (value_of u) n (words t) (words u) us vs)) here in
    let R : ℕ → Type 0 = λ j. Stands (seq n w) (paired (n * q) k l us vs) (zipped (value_of (seq n t) us) (value_of (seq j u) vs)) in
    let V : SeqTree → Type 0 = λ z. Stands z (paired (n * q) k l us vs) (zipped (value_of (seq n t) us) (value_of (seq m u) vs)) in
    subst V same (subst R (sym e) there)

zip-zipped : (s z v : SeqTree) → zip_type s z ≡ Some v → zipped_type s z ≡ Some v
zip-zipped (atom a) z v h = cc
zip-zipped (seq n t) (atom b) v h = cc
zip-zipped (seq n t) (seq m u) v h = h

pub zip-words : (s z : SeqTree) (q l : ℕ) → q ≡ atoms s → l ≡ atom_words (atom_of z) → IsSome (zip_type s z) → q * l ≡ words z
zip-words s z q l eq el h =
    let t = there (zip_type s z) h in
    let e = atoms-same s z t.0 (zip-zipped s z t.0 t.1) in
    ap (λ j. j * l) (eq ∙ e) ∙ ap (λ j. atoms z * j) el ∙ sym (words-atoms z)

pub zip-pushed : (s z : SeqTree) (q k l start place : ℕ) (old new : List ℕ) → q ≡ atoms s → k ≡ atom_words (atom_of s) → l ≡ atom_words (atom_of z)
    → FitAt s start old → FitAt z place old
    → new ≡ old ++ paired q k l (drop start old) (drop place old)
    → Pushed (zip_type s z) old new (zipped (value_of s (window s start old)) (value_of z (window z place old)))
zip-pushed s z q k l start place old new eq ek el h g e =
    let us = drop start old in
    let vs = drop place old in
    pushed-on _ old new _ _ e (λ v p.
    let typed = zip-zipped s z v p in
    let ws : q * k ≡ words s = ap (λ j. j * k) eq ∙ ap (λ j. atoms s * j) ek ∙ sym (words-atoms s) in
    let wz : q * l ≡ words z = ap (λ j. j * l) (eq ∙ atoms-same s z v typed) ∙ ap (λ j. atoms z * j) el ∙ sym (words-atoms z) in
    let form : paired (atoms s) (atom_words (atom_of s)) (atom_words (atom_of z)) (window s start old) (window z place old) ≡ paired q k l us vs =
    ap (λ j. paired j (atom_words (atom_of s)) (atom_words (atom_of z)) (window s start old) (window z place old)) (sym eq)
    ∙ ap (λ j. paired q j (atom_words (atom_of z)) (window s start old) (window z place old)) (sym ek)
    ∙ ap (λ j. paired q k j (window s start old) (window z place old)) (sym el)
    ∙ ap (λ j. paired q k l (take j us) (window z place old)) (sym ws)
    ∙ ap (λ j. paired q k l (take (q * k) us) (take j vs)) (sym wz)
    ∙ paired-take q k l us vs in
    let P : List ℕ → Type 0 = λ ys. Stands v ys (zipped (value_of s (window s start old)) (value_of z (window z place old))) in
    subst P form (zip-stands s z v typed (window s start old) (window z place old) h.fits g.fits))
