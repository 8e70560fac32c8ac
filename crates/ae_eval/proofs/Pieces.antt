-- Elements of a sequence, and their words.
use Rattle.std.proofs.Common.{◌≡◌, ℕ, zero, suc, ◌+◌, ◌-◌, ◌*◌, ◌<◌, ◌≤◌, List, [], ◌∷◌, ◌++◌, length, take, drop, map, get_or, refl, arith, sym, ap, ◌∙◌, subst}
use Rattle.std.proofs.lemmas.List.{map-append, take_more, drop-drop, length-map}
use Rattle.std.proofs.Math.Nat.{zero-mul, mul-le-mul_right}
use Rattle.ae_seqtype.specs.SeqTree.{SeqTree, seq, words, kinds}
use Rattle.ae_seqtype.specs.ValueTree.{ValueTree, value_of, Fit, end, cut, elements, listed, Stands}
use Rattle.ae_seqtype.proofs.Cuts.{length-cut}
use Rattle.ae_seqtype.proofs.Values.{elements-listed}
use Rattle.ae_seqtype.proofs.Stands.{repeated-one, elements-value_of, Stands-push, stands, Stands-take, Stands-drop}

-- an element of a sequence is the value of its words
element-at : (f : List ℕ → ValueTree) (n k i : ℕ) (ws : List ℕ) → i < n → get_or (map f (cut n k ws)) i end ≡ f (take k (drop (i * k) ws))
element-at f zero k i ws h = absurd (omega arith)
element-at f (suc n) k zero ws h = rw (zero-mul k) refl
element-at f (suc n) k (suc i) ws h =
    let sum : suc i * k ≡ k + i * k = omega arith in
    rw (sum, ← drop-drop (i * k) k ws) (element-at f n k i (drop k ws) (omega arith))

piece_core : (i m : ℕ) (t : SeqTree) (ws : List ℕ) → Fit (seq (i + (1 + m)) t) ws → Fit t (take (words t) (drop (i * words t) ws))
piece_core i m t ws f =
    let all = Stands-drop i (1 + m) t ws _ (stands (seq (i + (1 + m)) t) ws f) in
    let one = Stands-take 1 m t _ _ all in
    let size : 1 * words t ≡ words t = omega arith in
    rw (size, repeated-one (kinds t)) at one.fits

pub piece-fits : (n i : ℕ) (t : SeqTree) (ws : List ℕ) → i < n → Fit (seq n t) ws → Fit t (take (words t) (drop (i * words t) ws))
piece-fits n i t ws lt h =
    let sum : i + (1 + (n - (i + 1))) ≡ n = omega arith in
    let P : ℕ → Type 0 = λ j. Fit (seq j t) ws → Fit t (take (words t) (drop (i * words t) ws)) in
    subst P sum (piece_core i (n - (i + 1)) t ws) h

-- where an element ends
pub piece-ends : (n i k : ℕ) → i < n → i * k + k ≤ n * k
piece-ends n i k lt =
    let up : (i + 1) * k ≤ n * k = mul-le-mul_right k (let q : i + 1 ≤ n = omega arith in q) in
    omega arith

-- the words of an element
pub piece-stands : (n i : ℕ) (t : SeqTree) (ws : List ℕ) (xs : List ValueTree) → i < n → Stands (seq n t) ws (listed xs)
    → Stands t (take (words t) (drop (i * words t) ws)) (get_or xs i end)
piece-stands n i t ws xs lt h =
    let same : xs ≡ map (value_of t) (cut n (words t) ws) = sym (elements-listed xs) ∙ ap elements (sym h.value) ∙ elements-value_of n t ws in
    record {
      fits = piece-fits n i t ws lt h.fits;
      value = sym (element-at (value_of t) n (words t) i ws lt) ∙ ap (λ ys. get_or ys i end) (sym same);
    }

-- the elements of a value that is listed
pub listed-elements : (n : ℕ) (t : SeqTree) (ws : List ℕ) → value_of (seq n t) ws ≡ listed (elements (value_of (seq n t) ws))
listed-elements n t ws = ap listed (sym (elements-value_of n t ws))

pub count-elements : (n : ℕ) (t : SeqTree) (ws : List ℕ) → length (elements (value_of (seq n t) ws)) ≡ n
count-elements n t ws = ap length (elements-value_of n t ws) ∙ length-map _ _ ∙ length-cut n (words t) ws

-- an element of the value with these words
pub element-stands : (n i : ℕ) (t : SeqTree) (ws : List ℕ) → i < n → Fit (seq n t) ws
    → Stands t (take (words t) (drop (i * words t) ws)) (get_or (elements (value_of (seq n t) ws)) i end)
element-stands n i t ws lt h = piece-stands n i t ws _ lt (record { fits = h; value = listed-elements n t ws })

-- one more element of a map
pub map-step : (n : ℕ) (t u : SeqTree) (ws out r : List ℕ) (i : ℕ) (g : ValueTree → ValueTree) → i < n
    → Stands (seq i u) out (listed (map g (take i (elements (value_of (seq n t) ws))))) → Stands u r (g (get_or (elements (value_of (seq n t) ws)) i end))
    → Stands (seq (i + 1) u) (out ++ r) (listed (map g (take (i + 1) (elements (value_of (seq n t) ws)))))
map-step n t u ws out r i g lt h one =
    let xs = elements (value_of (seq n t) ws) in
    let long = count-elements n t ws in
    let within : i < length xs = omega arith in
    rw (take_more xs i end within, map-append g (take i xs) (get_or xs i end ∷ []))
    (Stands-push i u out r (map g (take i xs)) _ h one)
