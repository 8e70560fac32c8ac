-- Shifts one after the other, by the bits of an amount.
use Rattle.std.proofs.Common.{ℕ, ◌≡◌, ◌+◌, ◌-◌, ◌*◌, ◌/◌, ◌%◌, ◌^◌, ◌==◌, ◌<◌, ◌≤◌, min, if◌then◌else◌, inl, inr, true, sym, ap, ◌∙◌, arith}
use Rattle.std.proofs.Math.Nat.{pow-le-pow_right, mod-eq_of_lt, div-eq_of_lt, mul-mod_left, div-div-eq-div-mul, mul_assoc}
use Rattle.std.proofs.lemmas.Nat.{pow-add, mod-pow-add, mul-mod_first}
use Rattle.std.proofs.lemmas.Bool.{cases_Bool, cond-true, cond-false, cases_lt}
use Rattle.std.proofs.lemmas.Bool.Decides.{Decides-eqb}
use Rattle.ae_gates.specs.declared.compounds.Way.{Way}
use Rattle.ae_gates.specs.declared.compounds.Way.TheVariants.{Left, Right}
use Rattle.ae_gates.specs.Shifts.{moved}

pub moved_again : (way : Way) (w a p q : ℕ) → moved way w (moved way w a p) q ≡ moved way w a (q + p)
moved_again Left w a p q =
    let e : a * 2 ^ p * 2 ^ q ≡ a * 2 ^ (q + p) = mul_assoc a (2 ^ p) (2 ^ q) ∙ ap (λ x. a * x) (sym (pow-add 2 p q) ∙ ap (λ k. 2 ^ k) (omega arith)) in
    mul-mod_first (a * 2 ^ p) (2 ^ q) (2 ^ w) ∙ ap (λ x. x % 2 ^ w) e
moved_again Right w a p q = div-div-eq-div-mul a (2 ^ p) (2 ^ q) ∙ ap (λ x. a / x) (sym (pow-add 2 p q) ∙ ap (λ k. 2 ^ k) (omega arith))

-- as far as the word is wide
pub moved_far : (way : Way) (w a b : ℕ) → w ≤ b → a < 2 ^ w → moved way w a b ≡ 0
moved_far Left w a b le small =
    let e : 2 ^ b ≡ 2 ^ (b - w) * 2 ^ w = ap (λ k. 2 ^ k) (let s : b ≡ b - w + w = omega arith in s) ∙ pow-add 2 (b - w) w in
    let f : a * 2 ^ b ≡ a * 2 ^ (b - w) * 2 ^ w = ap (λ x. a * x) e ∙ sym (mul_assoc a (2 ^ (b - w)) (2 ^ w)) in
    ap (λ x. x % 2 ^ w) f ∙ mul-mod_left (a * 2 ^ (b - w)) (2 ^ w)
moved_far Right w a b le small =
    let more : 2 ^ w ≤ 2 ^ b = pow-le-pow_right (omega arith) le in
    div-eq_of_lt (omega arith)

pub moved_most : (way : Way) (w a k : ℕ) → w ≤ 64 → a < 2 ^ w → moved way w a (min k 64) ≡ moved way w a k
moved_most way w a k high small = elim (cases_lt 64 k) [
  | inl l ↦ moved_far way w a (min k 64) (omega arith) small ∙ sym (moved_far way w a k (omega arith) small)
  | inr g ↦ ap (moved way w a) (let e : min k 64 ≡ k = omega arith in e)
]

pub moved_none : (way : Way) (w a b : ℕ) → a < 2 ^ w → a ≡ moved way w a (b % 2 ^ 0)
moved_none way w a b small =
    let z : b % 2 ^ 0 ≡ 0 = omega arith in
    nowhere way z
  where
    nowhere : (way : Way) → b % 2 ^ 0 ≡ 0 → a ≡ moved way w a (b % 2 ^ 0)
    nowhere Left z = sym (ap (λ k. (a * 2 ^ k) % 2 ^ w) z ∙ ap (λ x. x % 2 ^ w) (let e : a * 2 ^ 0 ≡ a = omega arith in e) ∙ mod-eq_of_lt small)
    nowhere Right z = sym (ap (λ k. a / 2 ^ k) z ∙ (let e : a / 2 ^ 0 ≡ a = omega arith in e))

-- one bit of the amount more
pub stage_moved : (way : Way) (w a b i : ℕ) → (if b / 2 ^ i % 2 ^ 1 == 1 then moved way w (moved way w a (b % 2 ^ i)) (2 ^ i) else moved way w a
    (b % 2 ^ i)) ≡ moved way w a (b % 2 ^ (i + 1))
stage_moved way w a b i =
    let d : ℕ = b / 2 ^ i % 2 ^ 1 in
    let parts : b % 2 ^ (i + 1) ≡ b / 2 ^ i % 2 ^ 1 * 2 ^ i + b % 2 ^ i = ap (λ k. b % 2 ^ k) (let s : i + 1 ≡ 1 + i = omega arith in s) ∙ mod-pow-add b 1 i in
    elim (cases_Bool (b / 2 ^ i % 2 ^ 1 == 1)) [
      | inl t ↦
          let one : b / 2 ^ i % 2 ^ 1 ≡ 1 = (Decides-eqb (b / 2 ^ i % 2 ^ 1) 1).0 t in
          let e : 2 ^ i + b % 2 ^ i ≡ b % 2 ^ (i + 1) = sym (parts ∙ ap (λ x. x * 2 ^ i + b % 2 ^ i) one ∙
          (let u : 1 * 2 ^ i + b % 2 ^ i ≡ 2 ^ i + b % 2 ^ i = omega arith in u)) in
          cond-true _ _ _ t ∙ moved_again way w a (b % 2 ^ i) (2 ^ i) ∙ ap (moved way w a) e
      | inr f ↦
          let other : b / 2 ^ i % 2 ^ 1 ≡ 1 → ⊥ = (λ e. let t : (b / 2 ^ i % 2 ^ 1 == 1) ≡ true = (Decides-eqb (b / 2 ^ i % 2 ^ 1) 1).1 e in cc) in
          let zero : b / 2 ^ i % 2 ^ 1 ≡ 0 = low_bit (b / 2 ^ i) other in
          let e : b % 2 ^ i ≡ b % 2 ^ (i + 1) = sym (parts ∙ ap (λ x. x * 2 ^ i + b % 2 ^ i) zero ∙
          (let u : 0 * 2 ^ i + b % 2 ^ i ≡ b % 2 ^ i = omega arith in u)) in
          cond-false _ _ _ f ∙ ap (moved way w a) e
    ]
  where
    low_bit : (x : ℕ) → (x % 2 ^ 1 ≡ 1 → ⊥) → x % 2 ^ 1 ≡ 0
    low_bit x other = elim (cases_lt (x % 2 ^ 1) 1) [ inl l ↦ omega arith | inr g ↦ absurd (other (let s : x % 2 ^ 1 < 2 = omega arith in omega arith)) ]

-- an amount of 64 or more
pub ended_moved : (way : Way) (w a b : ℕ) → w ≤ 64 → a < 2 ^ w → (if b / 2 ^ 6 == 0 then moved way w a (b % 2 ^ 6) else 0) ≡ moved way w a b
ended_moved way w a b high small = elim (cases_Bool (b / 2 ^ 6 == 0)) [
  | inl t ↦
      let none : b / 2 ^ 6 ≡ 0 = (Decides-eqb (b / 2 ^ 6) 0).0 t in
      let below : b % 2 ^ 6 ≡ b = omega arith in
      cond-true _ _ _ t ∙ ap (moved way w a) below
  | inr f ↦
      let some : b / 2 ^ 6 ≡ 0 → ⊥ = (λ e. let t : (b / 2 ^ 6 == 0) ≡ true = (Decides-eqb (b / 2 ^ 6) 0).1 e in cc) in
      let far : w ≤ b = (elim (cases_lt b 64) [ inl l ↦ absurd (some (omega arith)) | inr g ↦ omega arith ]) in
      cond-false _ _ _ f ∙ sym (moved_far way w a b far small)
]
