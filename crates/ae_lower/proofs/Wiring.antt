-- Nets taken from others, stretch by stretch.
use Rattle.std.proofs.Common.{ℕ, zero, suc, ◌≡◌, ◌+◌, ◌-◌, ◌*◌, ◌<◌, ◌≤◌, inl, inr, List, [], ◌∷◌, ◌++◌, length, length-append, take, drop, slice_get, arith, refl, ap, ◌∙◌}
use Rattle.std.proofs.Math.Seq.{take-nil}
use Rattle.std.proofs.Math.Nat.{mul-le-mul_right}
use Rattle.std.proofs.lemmas.List.{length-take-le}
use Rattle.std.proofs.lemmas.Bool.{cases_lt}
use Rattle.ae_netlist.specs.declared.cell.NetId.{NetId}
use Rattle.ae_lower.specs.Wiring.{ArePairs, AreParts}
use Rattle.ae_lower.proofs.Spreading.{in_row}

pub get_before : (xs ys : List NetId) (i : ℕ) → i < length xs → slice_get (xs ++ ys) i ≡ slice_get xs i
get_before [] ys i h = absurd (omega arith)
get_before (x ∷ xs) ys zero h = refl
get_before (x ∷ xs) ys (suc i) h = get_before xs ys i (omega arith)

pub get_behind : (xs ys : List NetId) (i : ℕ) → slice_get (xs ++ ys) (length xs + i) ≡ slice_get ys i
get_behind [] ys i = ap (slice_get ys) (let e : 0 + i ≡ i = omega arith in e)
get_behind (x ∷ xs) ys i = ap (slice_get ((x ∷ xs) ++ ys)) (let e : length (x ∷ xs) + i ≡ suc (length xs + i) = omega arith in e) ∙ get_behind xs ys i

pub get_stretch : (xs : List NetId) (k m i : ℕ) → i < m → slice_get (take m (drop k xs)) i ≡ slice_get xs (k + i)
get_stretch xs zero zero i h = absurd (omega arith)
get_stretch [] zero (suc m) i h = refl
get_stretch (x ∷ xs) zero (suc m) zero h = refl
get_stretch (x ∷ xs) zero (suc m) (suc i) h =
    get_stretch xs zero m i (omega arith) ∙ (ap (slice_get xs) (let e : 0 + i ≡ i = omega arith in e) ∙
    ap (slice_get (x ∷ xs)) (let e : suc i ≡ 0 + suc i = omega arith in e))
get_stretch [] (suc k) m i h = ap (λ ys. slice_get ys i) (take-nil m)
get_stretch (x ∷ xs) (suc k) m i h = get_stretch xs k m i h ∙ ap (slice_get (x ∷ xs)) (let e : suc (k + i) ≡ suc k + i = omega arith in e)

pub stretch_long : (xs : List NetId) (k m : ℕ) → k + m ≤ length xs → length (take m (drop k xs)) ≡ m
stretch_long xs zero m h = length-take-le m xs (omega arith)
stretch_long [] (suc k) m h = absurd (omega arith)
stretch_long (x ∷ xs) (suc k) m h = stretch_long xs k m (omega arith)

pub parts_more : (nets out more : List NetId) (n k o l : ℕ) → more ≡ take (n * k + o + l - (n * k + o)) (drop (n * k + o) nets) → n * k + o + l ≤ length nets
    → AreParts nets n k o l out → AreParts nets (n + 1) k o l (out ++ more)
parts_more nets out more n k o l cut room was =
    let size : n * k + o + l - (n * k + o) ≡ l = omega arith in
    let is : more ≡ take l (drop (n * k + o) nets) = cut ∙ ap (λ x. take x (drop (n * k + o) nets)) size in
    let own : length more ≡ l = ap length is ∙ stretch_long nets (n * k + o) l room in
    record {
      long = omega (arith, length-append out more, own, was.long);
      each = λ e j p h. elim (cases_lt e n) [
        | inl below ↦
            let place : e * l + j < length out = omega (arith, in_row e l j n below h, was.long) in
            get_before out more (e * l + j) place ∙ was.each e j below h
        | inr above ↦
            let same : e ≡ n = omega arith in
            let place : e * l + j ≡ length out + j = omega (arith, was.long, ap (λ x. x * l) same) in
            let from : n * k + o + j ≡ e * k + (o + j) = omega (arith, ap (λ x. x * k) same) in
            ap (slice_get (out ++ more)) place ∙ (get_behind out more j ∙
            (ap (λ ys. slice_get ys j) is ∙ (get_stretch nets (n * k + o) l j h ∙ ap (slice_get nets) from)))
      ];
    }

pub pairs_none : (first second : List NetId) (k l : ℕ) → ArePairs first second 0 k l []
pairs_none first second k l = record { long = omega arith; firsts = λ e j p h. absurd (omega arith); seconds = λ e j p h. absurd (omega arith) }

pub pairs_more : (first second out one two : List NetId) (n k l : ℕ) → one ≡ take (n * k + k - n * k) (drop (n * k) first)
    → two ≡ take (n * l + l - n * l) (drop (n * l) second) → n * k + k ≤ length first → n * l + l ≤ length second
    → ArePairs first second n k l out → ArePairs first second (n + 1) k l ((out ++ one) ++ two)
pairs_more first second out one two n k l cut split room space was =
    let size : n * k + k - n * k ≡ k = omega arith in
    let wide : n * l + l - n * l ≡ l = omega arith in
    let is : one ≡ take k (drop (n * k) first) = cut ∙ ap (λ x. take x (drop (n * k) first)) size in
    let has : two ≡ take l (drop (n * l) second) = split ∙ ap (λ x. take x (drop (n * l) second)) wide in
    let a : length one ≡ k = ap length is ∙ stretch_long first (n * k) k room in
    let b : length two ≡ l = ap length has ∙ stretch_long second (n * l) l space in
    let c : length (out ++ one) ≡ length out + k = length-append out one ∙ ap (λ x. length out + x) a in
    record {
      long = omega (arith, length-append (out ++ one) two, b, c, was.long);
      firsts = λ e j p h. elim (cases_lt e n) [
        | inl below ↦
            let place : e * (k + l) + j < length out = omega (arith, in_row e (k + l) j n below (omega arith), was.long) in
            get_before (out ++ one) two (e * (k + l) + j) (omega arith) ∙ (get_before out one (e * (k + l) + j) place ∙ was.firsts e j below h)
        | inr above ↦
            let same : e ≡ n = omega arith in
            let place : e * (k + l) + j ≡ length out + j = omega (arith, was.long, ap (λ x. x * (k + l)) same) in
            let from : n * k + j ≡ e * k + j = omega (arith, ap (λ x. x * k) same) in
            get_before (out ++ one) two (e * (k + l) + j) (omega arith)
            ∙ (ap (slice_get (out ++ one)) place ∙ (get_behind out one j ∙
            (ap (λ ys. slice_get ys j) is ∙ (get_stretch first (n * k) k j h ∙ ap (slice_get first) from))))
      ];
      seconds = λ e j p h. elim (cases_lt e n) [
        | inl below ↦
            let place : e * (k + l) + (k + j) < length out = omega (arith, in_row e (k + l) (k + j) n below (omega arith), was.long) in
            get_before (out ++ one) two (e * (k + l) + (k + j)) (omega arith) ∙ (get_before out one (e * (k + l) + (k + j)) place ∙ was.seconds e j below h)
        | inr above ↦
            let same : e ≡ n = omega arith in
            let place : e * (k + l) + (k + j) ≡ length (out ++ one) + j = omega (arith, was.long, ap (λ x. x * (k + l)) same) in
            let from : n * l + j ≡ e * l + j = omega (arith, ap (λ x. x * l) same) in
            ap (slice_get ((out ++ one) ++ two)) place ∙ (get_behind (out ++ one) two j ∙
            (ap (λ ys. slice_get ys j) has ∙ (get_stretch second (n * l) l j h ∙ ap (slice_get second) from)))
      ];
    }

-- the last net of stretch e
pub stretch_ends : (e n k o l : ℕ) → e < n → o + l ≤ k → e * k + o + l ≤ n * k
stretch_ends e n k o l p h =
    let up : (e + 1) * k ≤ n * k = mul-le-mul_right k (let z : e + 1 ≤ n = omega arith in z) in
    omega arith
