-- Parts of a list that grows.
use Rattle.std.proofs.Common.{◌≡◌, ℕ, zero, suc, ◌+◌, ◌-◌, ◌*◌, ◌<◌, ◌≤◌, List, ◌++◌, length, take, drop, arith, sym, ap, ◌∙◌, append_assoc, length-append, length-drop, Option}
use Rattle.std.proofs.lemmas.List.{append-nil, take-append-le, drop-append-le, take-take, drop-drop, drop-take}
use Rattle.std.proofs.Math.Seq.{drop-append_seam, take-append_seam}
use Rattle.std.proofs.Math.Nat.{mul-le-mul_right, zero-mul}
use Rattle.ae_seqtype.specs.SeqTree.{SeqTree, repeated}
use Rattle.ae_seqtype.specs.ValueTree.{ValueTree}
use Rattle.ae_seqtype.proofs.Stands.{repeated-push}
use Rattle.ae_eval.specs.Stack.{Pushed, StandsFor, paired}

-- a part stays where more comes behind it
pub window-append : (s c : ℕ) (old more : List ℕ) → s + c ≤ length old → take c (drop s (old ++ more)) ≡ take c (drop s old)
window-append s c old more h =
    rw (drop-append-le s old more (omega arith))
    (take-append-le c (drop s old) more (omega (arith, length-drop s old)))

-- a part of a part
pub window-inside : (s i c n : ℕ) (ws : List ℕ) → i + c ≤ n → take c (drop i (take n (drop s ws))) ≡ take c (drop (s + i) ws)
window-inside s i c n ws h =
    let sum : i + (n - i) ≡ n = omega arith in
    let one : drop i (take n (drop s ws)) ≡ take (n - i) (drop i (drop s ws)) = ap (λ j. drop i (take j (drop s ws))) (sym sum) ∙
    drop-take i (n - i) (drop s ws) in
    ap (take c) one ∙ take-take c (n - i) (drop i (drop s ws)) (omega arith) ∙ ap (take c) (drop-drop i s ws)

pub copies-step : (old now new : List ℕ) (s c i : ℕ) → s + c ≤ length old → now ≡ old ++ repeated i (take c (drop s old)) → new ≡ now ++ take c (drop s now)
    → new ≡ old ++ repeated (i + 1) (take c (drop s old))
copies-step old now new s c i h e g =
    let w = take c (drop s old) in
    g ∙ ap (λ ys. ys ++ take c (drop s ys)) e
    ∙ ap (λ ys. (old ++ repeated i w) ++ ys) (window-append s c old (repeated i w) h)
    ∙ append_assoc old (repeated i w) w ∙ ap (λ ys. old ++ ys) (sym (repeated-push i w))

-- words that were put on top, for a value
pub pushed-on : (o : Option SeqTree) (old new r : List ℕ) (v : ValueTree) → new ≡ old ++ r → StandsFor o r v → Pushed o old new v
pushed-on o old new r v e st = rw e (record {
  kept = take-append_seam old r;
  stands = rw (drop-append_seam old r) st;
})

pub paired-more : (n k l : ℕ) (us vs : List ℕ) → paired (n + 1) k l us vs ≡ paired n k l us vs ++ (take k (drop (n * k) us) ++ take l (drop (n * l) vs))
paired-more zero k l us vs = rw (zero-mul k, zero-mul l) (append-nil (take k us ++ take l vs))
paired-more (suc n) k l us vs =
    let a : suc n * k ≡ k + n * k = omega arith in
    let b : suc n * l ≡ l + n * l = omega arith in
    let c : suc n + 1 ≡ suc (n + 1) = omega arith in
    rw (a, b, c, ← drop-drop (n * k) k us, ← drop-drop (n * l) l vs)
    (ap (λ ys. (take k us ++ take l vs) ++ ys) (paired-more n k l (drop k us) (drop l vs)) ∙
    sym (append_assoc (take k us ++ take l vs) (paired n k l (drop k us) (drop l vs)) _))

pub paired-step : (old now next new : List ℕ) (n i a b k l : ℕ) → i < n → a + n * k ≤ length old → b + n * l ≤ length old
    → now ≡ old ++ paired i k l (drop a old) (drop b old) → next ≡ now ++ take k (drop (a + i * k) now) → new ≡ next ++ take l (drop (b + i * l) next)
    → new ≡ old ++ paired (i + 1) k l (drop a old) (drop b old)
paired-step old now next new n i a b k l lt ha hb e f g =
    let p = paired i k l (drop a old) (drop b old) in
    let ka : (i + 1) * k ≤ n * k = mul-le-mul_right k (let q : i + 1 ≤ n = omega arith in q) in
    let kb : (i + 1) * l ≤ n * l = mul-le-mul_right l (let q : i + 1 ≤ n = omega arith in q) in
    let u = take k (drop (a + i * k) old) in
    let v = take l (drop (b + i * l) old) in
    let mid : next ≡ old ++ (p ++ u) = f ∙ ap (λ ys. ys ++ take k (drop (a + i * k) ys)) e ∙
    ap (λ ys. (old ++ p) ++ ys) (window-append (a + i * k) k old p (omega arith)) ∙ append_assoc old p u in
    let all : new ≡ (old ++ (p ++ u)) ++ v = g ∙ ap (λ ys. ys ++ take l (drop (b + i * l) ys)) mid ∙
    ap (λ ys. (old ++ (p ++ u)) ++ ys) (window-append (b + i * l) l old (p ++ u) (omega arith)) in
    let more = paired-more i k l (drop a old) (drop b old) in
    let here = rw (drop-drop (i * k) a old, drop-drop (i * l) b old) at more in
    all ∙ append_assoc old (p ++ u) v ∙ ap (λ ys. old ++ ys) (append_assoc p u v ∙ sym here)

-- piece i of n stands within what they all take
pub piece-within : (at n i size room : ℕ) → i < n → at + n * size ≤ room → at + i * size + size ≤ room
piece-within at n i size room lt h =
    let more : (i + 1) * size ≤ n * size = mul-le-mul_right size (let q : i + 1 ≤ n = omega arith in q) in
    omega (arith, more, h)

-- a list with more behind it is no shorter
pub kept-length : (old more now : List ℕ) → now ≡ old ++ more → length old ≤ length now
kept-length old more now e = omega (arith, ap length e, length-append old more)

pub paired-all : (old now : List ℕ) (n i k l a b : ℕ) → i ≡ n → now ≡ old ++ paired i k l (drop a old) (drop b old) →
    now ≡ old ++ paired n k l (drop a old) (drop b old)
paired-all old now n i k l a b same e = e ∙ ap (λ j. old ++ paired j k l (drop a old) (drop b old)) same
