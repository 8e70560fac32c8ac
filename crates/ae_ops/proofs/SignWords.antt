-- The signed operators, word by word.
use Rattle.std.proofs.Common.{add-one, ◌≡◌, ℕ, ◌+◌, ◌-◌, ◌*◌, ◌/◌, ◌%◌, ◌^◌, ◌<◌, ◌≤◌, ◌==◌, if◌then◌else◌, Bool, true, false, nat_lt, int_lt, refl, arith, sym, ap, ◌∙◌, inl, inr}
use Rattle.std.proofs.lemmas.Bool.{cases_lt}
use Rattle.std.proofs.lemmas.Bool.Decides.{nat_tests}
use Rattle.std.proofs.lemmas.Nat.{pow_pos}
use Rattle.std.proofs.Math.Nat.{add-mod_right, mod-eq_of_lt, div-le_self, pow-suc}
use Rattle.ae_word.specs.declared.op.WordOp.{WordOp}
use Rattle.ae_word.specs.declared.op.WordOp.TheVariants.{Shr, Cast, Sar, SCast, SLt, SMin, SMax}
use Rattle.ae_word.specs.WordTable.{bit, result_width_of, signed_value, word_result}
use Rattle.ae_word.proofs.Signed.{value-negative, value-positive, code-positive, code-min_first, code-min_second, code-max_first, code-max_second}
use Rattle.ae_ops.specs.Signs.{by_half, complemented}

twice : (w : ℕ) → 1 ≤ w → 2 ^ w ≡ 2 ^ (w - 1) + 2 ^ (w - 1)
twice w h =
    let e : w ≡ (w - 1) + 1 = omega arith in
    let p : 2 ^ (w - 1 + 1) ≡ 2 ^ (w - 1) * 2 = rw add-one (pow-suc 2 (w - 1)) in
    let q : 2 ^ w ≡ 2 ^ (w - 1 + 1) = ap (λ n. 2 ^ n) e in
    omega arith

pub half_fits : (w : ℕ) → 1 ≤ w → 2 ^ (w - 1) < 2 ^ w
half_fits w h = omega (arith, twice w h, pow_pos (w - 1))

-- half of all codes added to a code
raised_low : (h m a : ℕ) → m ≡ h + h → a < h → (a + h) % m ≡ a + h
raised_low h m a e l = mod-eq_of_lt (omega arith)

raised_high : (h m a : ℕ) → m ≡ h + h → h ≤ a → a < m → (a + h) % m ≡ a - h
raised_high h m a e l k =
    let s : a + h ≡ (a - h) + m = omega arith in
    ap (λ n. n % m) s ∙ (add-mod_right (a - h) m ∙ mod-eq_of_lt (omega arith))

same_tests : (x y u v : ℕ) → (x < y → u < v) → (u < v → x < y) → nat_lt x y ≡ nat_lt u v
same_tests x y u v f g = grind (arith, nat_tests)

raised_by : (h m w a b : ℕ) → h ≡ 2 ^ (w - 1) → m ≡ 2 ^ w → m ≡ h + h → a < m → b < m
    → nat_lt ((a + h) % m) ((b + h) % m) ≡ int_lt (signed_value w a) (signed_value w b)
raised_by h m w a b eh em e la lb = elim (cases_lt a h) [
  | inl al ↦ elim (cases_lt b h) [
    | inl bl ↦ rw (raised_low h m a e al, raised_low h m b e bl, value-positive w a (omega arith), value-positive w b (omega arith))
        (same_tests (a + h) (b + h) a b (λ x. omega arith) (λ x. omega arith))
    | inr bh ↦ rw (raised_low h m a e al, raised_high h m b e bh lb, value-positive w a (omega arith), value-negative w b (omega arith) (omega arith))
        (grind (arith, nat_tests))
  ]
  | inr ah ↦ elim (cases_lt b h) [
    | inl bl ↦ rw (raised_high h m a e ah la, raised_low h m b e bl, value-negative w a (omega arith) (omega arith), value-positive w b (omega arith))
        (grind (arith, nat_tests))
    | inr bh ↦
        rw (
          raised_high h m a e ah la,
          raised_high h m b e bh lb,
          value-negative w a (omega arith) (omega arith),
          value-negative w b (omega arith) (omega arith),
        )
        (same_tests (a - h) (b - h) (2 ^ w - 1 - b) (2 ^ w - 1 - a) (λ x. omega arith) (λ x. omega arith))
  ]
]

-- with half of all codes added, codes stand in the order of their numbers
pub raised_less : (w a b c half left right y : ℕ) → 1 ≤ w → a < 2 ^ w → b < 2 ^ w → half ≡ 2 ^ (w - 1) → left ≡ (a + half) % 2 ^ w → right ≡ (b + half) % 2 ^ w
    → y ≡ bit (nat_lt left right) → y ≡ word_result SLt w a b c
raised_less w a b c half left right y low la lb eh el er ey =
    rw (ey, el, er, eh) (ap bit (raised_by (2 ^ (w - 1)) (2 ^ w) w a b refl refl (twice w low) la lb))

least_by : (v : Bool) (w a b c y : ℕ) → a < 2 ^ w → b < 2 ^ w → int_lt (signed_value w b) (signed_value w a) ≡ v → y ≡ (if bit v == 1 then b else a)
    → y ≡ word_result SMin w a b c
least_by true w a b c y la lb is e = e ∙ sym (code-min_second w a b lb is)
least_by false w a b c y la lb is e = e ∙ sym (code-min_first w a b la is)

pub least_is : (w a b c turned y : ℕ) → a < 2 ^ w → b < 2 ^ w → turned ≡ bit (int_lt (signed_value w b) (signed_value w a))
    → y ≡ (if turned == 1 then b else a) → y ≡ word_result SMin w a b c
least_is w a b c turned y la lb et ey = least_by (int_lt (signed_value w b) (signed_value w a)) w a b c y la lb refl (rw et at ey)

greatest_by : (v : Bool) (w a b c y : ℕ) → a < 2 ^ w → b < 2 ^ w → int_lt (signed_value w b) (signed_value w a) ≡ v → y ≡ (if bit v == 1 then a else b)
    → y ≡ word_result SMax w a b c
greatest_by true w a b c y la lb is e = e ∙ sym (code-max_first w a b la is)
greatest_by false w a b c y la lb is e = e ∙ sym (code-max_second w a b lb is)

pub greatest_is : (w a b c turned y : ℕ) → a < 2 ^ w → b < 2 ^ w → turned ≡ bit (int_lt (signed_value w b) (signed_value w a))
    → y ≡ (if turned == 1 then a else b) → y ≡ word_result SMax w a b c
greatest_is w a b c turned y la lb et ey = greatest_by (int_lt (signed_value w b) (signed_value w a)) w a b c y la lb refl (rw et at ey)

sar_by : (v : Bool) (k w a b c : ℕ) → a < 2 ^ w → nat_lt a (2 ^ (w - 1)) ≡ v → (if v then a / 2 ^ k else complemented (Shr k) w a) ≡ word_result (Sar k) w a b c
sar_by true k w a b c l is =
    let low : a < 2 ^ (w - 1) = grind (arith, nat_tests) in
    let small : a / 2 ^ k < 2 ^ w = omega (arith, div-le_self a (2 ^ k)) in
    rw (value-positive w a low) (sym (code-positive w (a / 2 ^ k) small))
sar_by false k w a b c l is =
    let high : 2 ^ (w - 1) ≤ a = grind (arith, nat_tests) in
    let q = (2 ^ w - 1 - a) / 2 ^ k in
    let small : q < 2 ^ w = omega (arith, div-le_self (2 ^ w - 1 - a) (2 ^ k)) in
    rw (value-negative w a high l) (ap (λ n. 2 ^ w - 1 - n) (sym (mod-eq_of_lt small)))

-- a signed word moved down
pub sar_is : (k w a b c : ℕ) → a < 2 ^ w → by_half (Shr k) w a ≡ word_result (Sar k) w a b c
sar_is k w a b c l = sar_by (nat_lt a (2 ^ (w - 1))) k w a b c l refl

cast_by : (v : Bool) (to w a b c : ℕ) → a < 2 ^ w → nat_lt a (2 ^ (w - 1)) ≡ v
    → (if v then a % 2 ^ to else complemented (Cast to) w a) ≡ word_result (SCast to) w a b c
cast_by true to w a b c l is = let low : a < 2 ^ (w - 1) = grind (arith, nat_tests) in rw (value-positive w a low) refl
cast_by false to w a b c l is = let high : 2 ^ (w - 1) ≤ a = grind (arith, nat_tests) in rw (value-negative w a high l) refl

-- a signed word in another width
pub cast_is : (to w a b c : ℕ) → a < 2 ^ w → by_half (Cast to) w a ≡ word_result (SCast to) w a b c
cast_is to w a b c l = cast_by (nat_lt a (2 ^ (w - 1))) to w a b c l refl

bit_chooses : (v : Bool) (x y : ℕ) → (if bit v == 1 then x else y) ≡ (if v then x else y)
bit_chooses true x y = refl
bit_chooses false x y = refl

-- a choice by the sign
pub chosen : (a middle half positive made turned y low high : ℕ) → middle ≡ half → positive ≡ bit (nat_lt a middle) → made ≡ low → turned ≡ high
    → y ≡ (if positive == 1 then made else turned)
    → y ≡ (if nat_lt a half then low else high)
chosen a middle half positive made turned y low high eh ep em et ey = rw (ey, ep, em, et, eh) (bit_chooses (nat_lt a half) low high)

-- the complement of an operator's result on the complement
pub complement_is : (op : WordOp) (w v a turned made y : ℕ) → v ≡ result_width_of op w → turned ≡ 2 ^ w - 1 - a → made ≡ word_result op w turned turned turned
    → y ≡ 2 ^ v - 1 - made → y ≡ complemented op w a
complement_is op w v a turned made y ev et em ey = rw (ey, em, et, ev) refl
