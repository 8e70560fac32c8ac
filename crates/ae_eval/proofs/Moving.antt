-- Operators that only move words.
use Rattle.std.proofs.Common.{◌≡◌, ℕ, zero, suc, ◌+◌, ◌-◌, ◌*◌, ◌<◌, ◌≤◌, ◌==◌, nat_le, nat_lt, Bool, true, false, List, ◌++◌, length, take, drop, map, replicate, Option, Some, IsSome, refl, arith, sym, ap, ◌∙◌, subst, append_assoc, length-take}
use Rattle.std.proofs.lemmas.List.{take_all, take-append-drop, length-map, take-take, drop-drop, drop-take}
use Rattle.std.proofs.lemmas.Bool.Decides.{nat_tests}
use Rattle.std.proofs.Math.Nat.{mul-le-mul_right}
use Rattle.std.proofs.Math.Seq.{drop-append_seam, take-append_seam}
use Rattle.ae_word.specs.AtomTree.{AtomTree, pair, atom_words, atom_kinds}
use Rattle.ae_word.proofs.Sizes.{length-atom_kinds}
use Rattle.ae_seqtype.specs.SeqTree.{SeqTree, atom, seq, words, kinds, repeated}
use Rattle.ae_seqtype.specs.ValueTree.{ValueTree, both, listed, elements, value_of, cut, Fit, Stands}
use Rattle.ae_seqtype.proofs.Cuts.{length-cut}
use Rattle.ae_seqtype.proofs.Values.{elements-listed}
use Rattle.ae_seqtype.proofs.Stands.{length-Fit, FitKinds-append, FitKinds-split, elements-value_of, Stands-append, Stands-take, Stands-drop, Stands-zeroed, Stands-cut, Stands-repeated, repeated-one, zeros, zeros-replicate, stands, zeroed-listed}
use Rattle.ae_seq.specs.Typing.{fst_type, pair_type, partition_type, select_type, shift_type, snd_type, unpartition_type, up_type, where_ok}
use Rattle.ae_seq.specs.Meaning.{first_part, joined, second_part, shifted}
use Rattle.ae_eval.specs.Stack.{FitAt, Pushed, StandsFor, window}
use Rattle.ae_eval.proofs.Windows.{pushed-on, window-append, window-inside}
use Rattle.ae_eval.proofs.Pieces.{listed-elements, piece-ends}

-- what a test lets through
pub where_ok-some : {A : Type 0} (b : Bool) (o : Option A) (x : A) → where_ok b o ≡ Some x → (b ≡ true) × (o ≡ Some x)
where_ok-some true o x h = (refl, h)
where_ok-some false o x h = cc

pub where_ok-there : {A : Type 0} (b : Bool) (o : Option A) → IsSome (where_ok b o) → b ≡ true
where_ok-there true o h = refl
where_ok-there false o h = cc

shift_core : (c m : ℕ) (t : SeqTree) (ws : List ℕ) → Fit (seq (c + m) t) ws
    → Stands (seq (c + m) t) (replicate (c * words t) 0 ++ take (length ws - c * words t) ws) (listed (shifted c (elements (value_of (seq (c + m) t) ws))))
shift_core c m t ws h =
    let k = words t in
    let v = value_of (seq (c + m) t) ws in
    let turn : c + m ≡ m + c = omega arith in
    let whole = stands (seq (c + m) t) ws h in
    let lead = Stands-zeroed (seq c t) _ _ (Stands-take c m t ws v whole) in
    let rest = Stands-take m c t ws v (rw (← turn) whole) in
    let long : length ws ≡ (c + m) * k = length-Fit (seq (c + m) t) ws h in
    let front : length (take (c * k) ws) ≡ c * k = omega (arith, length-take (c * k) ws) in
    let zero_words : zeros (take (c * k) ws) ≡ replicate (c * k) 0 = zeros-replicate _ ∙ ap (λ j. replicate j 0) front in
    let left : length ws - c * k ≡ m * k = omega arith in
    let size : length (elements v) ≡ c + m = ap length (elements-value_of (c + m) t ws) ∙ length-map _ _ ∙ length-cut (c + m) k ws in
    let remain : length (elements v) - c ≡ m = omega arith in
    rw (← zero_words, left, remain) (Stands-append c m t _ _ _ _ (rw zeroed-listed at lead) rest)

shift_fit : (c n : ℕ) (t : SeqTree) (ws : List ℕ) → Fit (seq n t) ws
    → StandsFor (shift_type c (seq n t)) (replicate (c * words t) 0 ++ take (length ws - c * words t) ws)
    (listed (shifted c (elements (value_of (seq n t) ws))))
shift_fit c n t ws h u e =
    let ok = where_ok-some (nat_le c n) (Some (seq n t)) u e in
    let within : c ≤ n = grind (arith, nat_tests, ok.0) in
    let sum : c + (n - c) ≡ n = omega arith in
    let same : seq n t ≡ u = let s = ok.1 in cc in
    let P : ℕ → Type 0 = λ j. Fit (seq j t) ws → Stands (seq j t) (replicate (c * words t) 0 ++ take (length ws - c * words t) ws)
    (listed (shifted c (elements (value_of (seq j t) ws)))) in
    rw (← same) (subst P sum (shift_core c (n - c) t ws) h)

pub shift-room : (c n k : ℕ) (s t : SeqTree) → s ≡ seq n t → k ≡ words t → IsSome (shift_type c s) → c * k ≤ words s
shift-room c n k s t es ek there =
    let within : c ≤ n = grind (arith, nat_tests, where_ok-there (nat_le c n) (Some (seq n t)) (rw es at there)) in
    rw (es, ek) (mul-le-mul_right (words t) within)

pub shift-pushed : (c n k w start : ℕ) (s t : SeqTree) (old mid new : List ℕ) → s ≡ seq n t → k ≡ words t → w ≡ words s → IsSome (shift_type c s)
    → FitAt s start old
    → mid ≡ old ++ replicate (c * k) 0 → new ≡ mid ++ take (w - c * k) (drop start mid)
    → Pushed (shift_type c s) old new (listed (shifted c (elements (value_of s (window s start old)))))
shift-pushed c n k w start s t old mid new es ek ew there h e f =
    let lead = c * k in
    let ws = window s start old in
    let small = shift-room c n k s t es ek there in
    let long : length ws ≡ words s = length-Fit s ws h.fits in
    let room = h.room in
    let rest : take (w - lead) (drop start mid) ≡ take (length ws - lead) ws =
    ap (λ ys. take (w - lead) (drop start ys)) e ∙ window-append start (w - lead) old (replicate lead 0) (omega arith)
    ∙ ap (λ j. take (j - lead) (drop start old)) (ew ∙ sym long)
    ∙ sym (take-take (length ws - lead) (words s) (drop start old) (omega arith)) in
    let all : new ≡ old ++ (replicate lead 0 ++ take (length ws - lead) ws) = f ∙ ap (λ ys. mid ++ ys) rest ∙ ap (λ ys. ys ++ take (length ws - lead) ws) e ∙
    append_assoc old (replicate lead 0) (take (length ws - lead) ws) in
    let P : SeqTree → Type 0 = λ z. Fit z ws → StandsFor (shift_type c z) (replicate (c * words t) 0 ++ take (length ws - c * words t) ws)
    (listed (shifted c (elements (value_of z ws)))) in
    let Q : ℕ → Type 0 = λ j. StandsFor (shift_type c s) (replicate (c * j) 0 ++ take (length ws - c * j) ws) (listed (shifted c (elements (value_of s ws)))) in
    pushed-on _ old new _ _ all (subst Q (sym ek) (subst P (sym es) (shift_fit c n t ws) h.fits))

up_fit : (c : ℕ) (t : SeqTree) (ws : List ℕ) → Fit (seq 1 t) ws → Stands (seq c t) (repeated c ws) (listed (repeated c (elements (value_of (seq 1 t) ws))))
up_fit c t ws h =
    let one : Fit t ws = rw (← repeated-one (kinds t)) h in
    let whole : take (words t) ws ≡ ws = take_all (words t) ws (omega (arith, length-Fit t ws one)) in
    rw whole (Stands-repeated c t ws (value_of t ws) (stands t ws one))

up_for : (c : ℕ) (s : SeqTree) (ws : List ℕ) → Fit s ws → StandsFor (up_type c s) (repeated c ws) (listed (repeated c (elements (value_of s ws))))
up_for c (atom a) ws h u e = cc
up_for c (seq m t) ws h u e =
    let ok = where_ok-some (m == 1) (Some (seq c t)) u e in
    let one : m ≡ 1 = grind (arith, nat_tests, ok.0) in
    let same : seq c t ≡ u = let s = ok.1 in cc in
    let P : ℕ → Type 0 = λ j. Fit (seq j t) ws → Stands (seq c t) (repeated c ws) (listed (repeated c (elements (value_of (seq j t) ws)))) in
    rw (← same) (subst P (sym one) (up_fit c t ws) h)

pub up-pushed : (c w start : ℕ) (s : SeqTree) (old new : List ℕ) → w ≡ words s → FitAt s start old → new ≡ old ++ repeated c (take w (drop start old))
    → Pushed (up_type c s) old new (listed (repeated c (elements (value_of s (window s start old)))))
up-pushed c w start s old new ew h e =
    pushed-on _ old new _ _ (e ∙ ap (λ j. old ++ repeated c (take j (drop start old))) ew) (up_for c s (window s start old) h.fits)

partition_for : (n m : ℕ) (s : SeqTree) (ws : List ℕ) → Fit s ws
    → StandsFor (partition_type n m s) ws (listed (map listed (cut n m (elements (value_of s ws)))))
partition_for n m (atom a) ws h u e = cc
partition_for n m (seq k t) ws h u e =
    let ok = where_ok-some (k == n * m) (Some (seq n (seq m t))) u e in
    let all : k ≡ n * m = grind (arith, nat_tests, ok.0) in
    let same : seq n (seq m t) ≡ u = let s = ok.1 in cc in
    let P : ℕ → Type 0 = λ j. Fit (seq j t) ws → Stands (seq n (seq m t)) ws (listed (map listed (cut n m (elements (value_of (seq j t) ws))))) in
    rw (← same) (subst P (sym all) (λ f. Stands-cut n m t ws _ (stands (seq (n * m) t) ws f)) h)

pub partition-pushed : (n m w start : ℕ) (s : SeqTree) (old new : List ℕ) → w ≡ words s → FitAt s start old → new ≡ old ++ take w (drop start old)
    → Pushed (partition_type n m s) old new (listed (map listed (cut n m (elements (value_of s (window s start old))))))
partition-pushed n m w start s old new ew h e =
    pushed-on _ old new _ _ (e ∙ ap (λ j. old ++ take j (drop start old)) ew) (partition_for n m s (window s start old) h.fits)

-- pieces that are joined
joined-cut : (n m : ℕ) (t : SeqTree) (ws : List ℕ) → Fit (seq n (seq m t)) ws
    → Stands (seq (n * m) t) ws (listed (joined (elements (value_of (seq n (seq m t)) ws))))
joined-cut zero m t ws h =
    let none : zero * m ≡ 0 = omega arith in
    rw none (record { fits = h; value = refl })
joined-cut (suc n) m t ws h =
    let k = words (seq m t) in
    let e = length-Fit (seq (suc n) (seq m t)) ws h in
    let sum : suc n * m ≡ m + n * m = omega arith in
    let one : 1 + n ≡ suc n = omega arith in
    let size : 1 * k ≡ k = omega arith in
    let whole : Stands (seq (1 + n) (seq m t)) ws (value_of (seq (suc n) (seq m t)) ws) = rw one (stands (seq (suc n) (seq m t)) ws h) in
    let front = rw (size, repeated-one (kinds (seq m t))) at (Stands-take 1 n (seq m t) ws _ whole).fits in
    let back = rw size at (Stands-drop 1 n (seq m t) ws _ whole).fits in
    let first : Stands (seq m t) (take k ws) (listed (elements (value_of (seq m t) (take k ws)))) = record {
      fits = front;
      value = listed-elements m t (take k ws);
    } in
    let rest = joined-cut n m t (drop k ws) back in
    let P : List ℕ → Type 0 = λ zs. Stands (seq (m + n * m) t) zs
    (listed (elements (value_of (seq m t) (take k ws)) ++ joined (elements (value_of (seq n (seq m t)) (drop k ws))))) in
    rw sum (subst P (take-append-drop k ws) (Stands-append m (n * m) t _ _ _ _ first rest))

unpartition_for : (s : SeqTree) (ws : List ℕ) → Fit s ws → StandsFor (unpartition_type s) ws (listed (joined (elements (value_of s ws))))
unpartition_for (atom a) ws h u e = cc
unpartition_for (seq n (atom a)) ws h u e = cc
unpartition_for (seq n (seq m t)) ws h u e =
    let same : seq (n * m) t ≡ u = cc in
    rw (← same) (joined-cut n m t ws h)

pub unpartition-pushed : (w start : ℕ) (s : SeqTree) (old new : List ℕ) → w ≡ words s → FitAt s start old → new ≡ old ++ take w (drop start old)
    → Pushed (unpartition_type s) old new (listed (joined (elements (value_of s (window s start old)))))
unpartition-pushed w start s old new ew h e =
    pushed-on _ old new _ _ (e ∙ ap (λ j. old ++ take j (drop start old)) ew) (unpartition_for s (window s start old) h.fits)

pub join_fit : (a b : AtomTree) (us vs : List ℕ) → Fit (atom a) us → Fit (atom b) vs
    → Stands (atom (pair a b)) (us ++ vs) (both (value_of (atom a) us) (value_of (atom b) vs))
join_fit a b us vs h g =
    let k = length-Fit (atom a) us h in
    record {
      fits = FitKinds-append us vs _ _ h g;
      value = rw (← k, take-append_seam us vs, drop-append_seam us vs) refl;
    }

join_for : (s z : SeqTree) (us vs : List ℕ) → Fit s us → Fit z vs → StandsFor (pair_type s z) (us ++ vs) (both (value_of s us) (value_of z vs))
join_for (atom a) (atom b) us vs h g u e = let same : atom (pair a b) ≡ u = cc in rw (← same) (join_fit a b us vs h g)
join_for (atom a) (seq n t) us vs h g u e = cc
join_for (seq n t) z us vs h g u e = cc

pub pair-pushed : (s z : SeqTree) (k l start place : ℕ) (old mid new : List ℕ) → k ≡ words s → l ≡ words z → FitAt s start old → FitAt z place old
    → mid ≡ old ++ take k (drop start old) → new ≡ mid ++ take l (drop place mid)
    → Pushed (pair_type s z) old new (both (value_of s (window s start old)) (value_of z (window z place old)))
pair-pushed s z k l start place old mid new ek el h g e f =
    let u = window s start old in
    let v = window z place old in
    let room = g.room in
    let m : mid ≡ old ++ u = e ∙ ap (λ j. old ++ take j (drop start old)) ek in
    let all : new ≡ old ++ (u ++ v) = f ∙ ap (λ j. mid ++ take j (drop place mid)) el ∙ ap (λ ys. ys ++ take (words z) (drop place ys)) m ∙
    ap (λ ys. (old ++ u) ++ ys) (window-append place (words z) old u room) ∙ append_assoc old u v in
    pushed-on _ old new _ _ all (join_for s z u v h.fits g.fits)

pub fst-pushed : (s : SeqTree) (a b : AtomTree) (k start : ℕ) (old new : List ℕ) → s ≡ atom (pair a b) → k ≡ atom_words a → FitAt s start old → new ≡ old
    ++ take k (drop start old)
    → Pushed (fst_type s) old new (first_part (value_of s (window s start old)))
fst-pushed s a b k start old new es ek h e =
    let ws = take (atom_words a + atom_words b) (drop start old) in
    let fits = rw es at h.fits in
    let split = FitKinds-split (atom_kinds a) (atom_kinds b) ws fits in
    let size = length-atom_kinds a in
    let r : take k (drop start old) ≡ take (atom_words a) ws = ap (λ j. take j (drop start old)) ek ∙
    sym (take-take (atom_words a) (atom_words a + atom_words b) (drop start old) (omega arith)) in
    let one : Stands (atom a) (take (atom_words a) ws) (value_of (atom a) (take (atom_words a) ws)) = record { fits = rw size at split.0; value = refl } in
    rw es (pushed-on (Some (atom a)) old new _ _ (e ∙ ap (λ ys. old ++ ys) r) (λ u q. let same : atom a ≡ u = cc in rw (← same) one))

pub snd-pushed : (s : SeqTree) (a b : AtomTree) (k l start : ℕ) (old new : List ℕ) → s ≡ atom (pair a b) → k ≡ atom_words a → l ≡ atom_words b
    → FitAt s start old → new ≡ old ++ take l (drop (start + k) old)
    → Pushed (snd_type s) old new (second_part (value_of s (window s start old)))
snd-pushed s a b k l start old new es ek el h e =
    let i = atom_words a in
    let j = atom_words b in
    let ws = take (i + j) (drop start old) in
    let fits = rw es at h.fits in
    let split = FitKinds-split (atom_kinds a) (atom_kinds b) ws fits in
    let size = length-atom_kinds a in
    let r : take l (drop (start + k) old) ≡ drop i ws = ap (λ z. take z (drop (start + k) old)) el ∙ ap (λ z. take j (drop (start + z) old)) ek ∙
    ap (take j) (sym (drop-drop i start old)) ∙ sym (drop-take i j (drop start old)) in
    let one : Stands (atom b) (drop i ws) (value_of (atom b) (drop i ws)) = record { fits = rw size at split.1; value = refl } in
    rw es (pushed-on (Some (atom b)) old new _ _ (e ∙ ap (λ ys. old ++ ys) r) (λ u q. let same : atom b ≡ u = cc in rw (← same) one))

select_core : (c m : ℕ) (t : SeqTree) (ws : List ℕ) → Fit (seq (c + (1 + m)) t) ws
    → Stands (seq 1 t) (take (words t) (drop (c * words t) ws)) (listed (take 1 (drop c (elements (value_of (seq (c + (1 + m)) t) ws)))))
select_core c m t ws h =
    let after = Stands-drop c (1 + m) t ws _ (stands (seq (c + (1 + m)) t) ws h) in
    let one = Stands-take 1 m t _ _ after in
    let size : 1 * words t ≡ words t = omega arith in
    let P : List ValueTree → Type 0 = λ zs. Stands (seq 1 t) (take (words t) (drop (c * words t) ws)) (listed (take 1 zs)) in
    subst P (elements-listed _) (rw size at one)

pub select-pushed : (c n k start : ℕ) (s t : SeqTree) (old new : List ℕ) → s ≡ seq n t → k ≡ words t → IsSome (select_type c s) → FitAt s start old → new ≡ old
    ++ take k (drop (start + c * k) old)
    → Pushed (select_type c s) old new (listed (take 1 (drop c (elements (value_of s (window s start old))))))
select-pushed c n k start s t old new es ek there h e =
    let w = words t in
    let within : c < n = grind (arith, nat_tests, where_ok-there (nat_lt c n) (Some (seq 1 t)) (rw es at there)) in
    let ws = take (n * w) (drop start old) in
    let fits = rw es at h.fits in
    let sum : c + (1 + (n - (c + 1))) ≡ n = omega arith in
    let P : ℕ → Type 0 = λ j. Fit (seq j t) ws → Stands (seq 1 t) (take w (drop (c * w) ws)) (listed (take 1 (drop c (elements (value_of (seq j t) ws))))) in
    let one = subst P sum (select_core c (n - (c + 1)) t ws) fits in
    let r : take k (drop (start + c * k) old) ≡ take w (drop (c * w) ws) = ap (λ j. take j (drop (start + c * j) old)) ek ∙
    sym (window-inside start (c * w) w (n * w) old (piece-ends n c w within)) in
    rw es (pushed-on (select_type c (seq n t)) old new _ _ (e ∙ ap (λ ys. old ++ ys) r)
    (λ u q. let ok = where_ok-some (nat_lt c n) (Some (seq 1 t)) u q in let same : seq 1 t ≡ u = let s' = ok.1 in cc in rw (← same) one))
