-- Words cut to a width by a mask.
use Rattle.std.proofs.Common.{ℕ, ◌≡◌, ◌+◌, ◌-◌, ◌*◌, ◌/◌, ◌%◌, ◌^◌, ◌<◌, ◌≤◌, ◌-ℤ◌, ◌+ℤ◌, pos, bit_and, unsigned_abs, arith, refl, ap, sym, ◌∙◌, subst}
use Rattle.std.proofs.Math.Pow.{mod-mod-pow}
use Rattle.std.proofs.Math.Nat.{div-eq_of_lt, mul-mod_left}
use Rattle.std.proofs.lemmas.Int.{ints, int_rem_euclid_is}
use Rattle.std.proofs.lemmas.Nat.{pow_pos, and_mask, pow-add, div-mul-add}
use Rattle.ae_word.specs.declared.op.WordOp.{WordOp}
use Rattle.ae_word.specs.declared.op.WordOp.TheVariants.{Add, Sub, Mul, Shl, Shr, Cast}
use Rattle.ae_word.specs.WordTable.{OperandsFit, code, result_width_of, word_result}

low_of : (x w : ℕ) → w ≤ 64 → x % 2 ^ 64 % 2 ^ w ≡ x % 2 ^ w
low_of x w h = let e : (64 - w) + w ≡ 64 = omega arith in subst (λ i. x % 2 ^ i % 2 ^ w ≡ x % 2 ^ w) e (mod-mod-pow x (64 - w) w)

masked : (x w m : ℕ) → w ≤ 64 → m ≡ 2 ^ w - 1 → bit_and (x % 2 ^ 64) m ≡ x % 2 ^ w
masked x w m h e = ap (bit_and (x % 2 ^ 64)) e ∙ (and_mask (x % 2 ^ 64) w ∙ low_of x w h)

-- all words of 64 bits, cut into those of w bits
rows_of_words : (w : ℕ) → w ≤ 64 → 2 ^ (64 - w) * 2 ^ w ≡ 2 ^ 64
rows_of_words w h = let e : (64 - w) + w ≡ 64 = omega arith in sym (pow-add 2 (64 - w) w) ∙ ap (λ i. 2 ^ i) e

-- what fits a width fits 64 bits
fits_a_word : (x w : ℕ) → w ≤ 64 → x < 2 ^ w → x < 2 ^ 64
fits_a_word x w h l =
    let q : ℕ = 2 ^ (64 - w) - 1 in
    let one : 2 ^ (64 - w) ≡ q + 1 = omega (arith, pow_pos (64 - w)) in
    let whole : (q + 1) * 2 ^ w ≡ 2 ^ 64 = ap (λ i. i * 2 ^ w) (sym one) ∙ rows_of_words w h in
    let split : (q + 1) * 2 ^ w ≡ q * 2 ^ w + 2 ^ w = grind arith in
    omega (arith, whole, split, l)

-- the mask of a width, shifted out of a word of ones
pub low_bits : (w : ℕ) → w ≤ 64 → (2 ^ 64 - 1) / 2 ^ (64 - w) ≡ 2 ^ w - 1
low_bits w h =
    let q : ℕ = 2 ^ (64 - w) in
    let p : ℕ = 2 ^ w - 1 in
    let one : 2 ^ w ≡ p + 1 = omega (arith, pow_pos w) in
    let whole : q * (p + 1) ≡ 2 ^ 64 = ap (λ i. q * i) (sym one) ∙ rows_of_words w h in
    let split : q * (p + 1) ≡ p * q + q = grind arith in
    let ones : 2 ^ 64 - 1 ≡ p * q + (q - 1) = omega (arith, whole, split, pow_pos (64 - w)) in
    ap (λ i. i / q) ones ∙ div-mul-add p q (q - 1) (omega (arith, pow_pos (64 - w)))

difference : (a b k : ℕ) → b ≤ k → (pos a -ℤ pos b) +ℤ pos k ≡ pos (a + (k - b))
difference a b k h = omega (arith, ints)

subtracted : (a b w : ℕ) → w ≤ 64 → b < 2 ^ 64 → (a + (2 ^ 64 - b)) % 2 ^ w ≡ code w (pos a -ℤ pos b)
subtracted a b w h l =
    let k : ℕ = 2 ^ 64 in
    let e : 2 ^ (64 - w) * 2 ^ w ≡ k = rows_of_words w h in
    ap unsigned_abs (sym (int_rem_euclid_is (pos a -ℤ pos b) (pos (2 ^ w)) (2 ^ w) (2 ^ (64 - w)) (a + (k - b)) (pow_pos w) refl
    (ap (λ i. (pos a -ℤ pos b) +ℤ pos i) e ∙ difference a b k (omega arith))))

pub add_made : (op : WordOp) (m a b c w : ℕ) → op ≡ Add → w ≤ 64 → m ≡ 2 ^ result_width_of op w - 1 → bit_and ((a + b) % 2 ^ 64) m ≡ word_result op w a b c
add_made op m a b c w is h e = let d : m ≡ 2 ^ w - 1 = rw is at e in rw is (masked (a + b) w m h d)

pub sub_made : (op : WordOp) (m a b c w : ℕ) → op ≡ Sub → w ≤ 64 → OperandsFit op w a b c → m ≡ 2 ^ result_width_of op w - 1
    → bit_and ((a + (2 ^ 64 - b)) % 2 ^ 64) m ≡ word_result op w a b c
sub_made op m a b c w is h fit e =
    let d : m ≡ 2 ^ w - 1 = rw is at e in
    let l : OperandsFit Sub w a b c = rw is at fit in
    rw is (masked (a + (2 ^ 64 - b)) w m h d ∙ subtracted a b w h (fits_a_word b w h l.1))

pub mul_made : (op : WordOp) (m a b c w : ℕ) → op ≡ Mul → w ≤ 64 → m ≡ 2 ^ result_width_of op w - 1 → bit_and (a * b % 2 ^ 64) m ≡ word_result op w a b c
mul_made op m a b c w is h e = let d : m ≡ 2 ^ w - 1 = rw is at e in rw is (masked (a * b) w m h d)

pub shl_made : (op : WordOp) (k m a b c w : ℕ) → op ≡ Shl k → w ≤ 64 → m ≡ 2 ^ result_width_of op w - 1
    → bit_and (a * 2 ^ k % 2 ^ 64) m ≡ word_result op w a b c
shl_made op k m a b c w is h e = let d : m ≡ 2 ^ w - 1 = rw is at e in rw is (masked (a * 2 ^ k) w m h d)

all_moved_out : (k a w : ℕ) → w ≤ 64 → 64 ≤ k → (a * 2 ^ k) % 2 ^ w ≡ 0
all_moved_out k a w h l =
    let e : (k - w) + w ≡ k = omega arith in
    let p : 2 ^ k ≡ 2 ^ (k - w) * 2 ^ w = ap (λ i. 2 ^ i) (sym e) ∙ pow-add 2 (k - w) w in
    let q : a * 2 ^ k ≡ a * 2 ^ (k - w) * 2 ^ w = ap (λ i. a * i) p ∙ grind arith in
    ap (λ i. i % 2 ^ w) q ∙ mul-mod_left (a * 2 ^ (k - w)) (2 ^ w)

pub shl_out : (op : WordOp) (k a b c w : ℕ) → op ≡ Shl k → w ≤ 64 → 64 ≤ k → 0 ≡ word_result op w a b c
shl_out op k a b c w is h l = rw is (sym (all_moved_out k a w h l))

pub shr_out : (op : WordOp) (k a b c w : ℕ) → op ≡ Shr k → w ≤ 64 → OperandsFit op w a b c → 64 ≤ k → 0 ≡ word_result op w a b c
shr_out op k a b c w is h fit l = rw is (sym (div-eq_of_lt below))
  where
    below : a < 2 ^ k
    below = let e : (k - 64) + 64 ≡ k = omega arith in
        let p : 2 ^ k ≡ 2 ^ (k - 64) * 2 ^ 64 = ap (λ i. 2 ^ i) (sym e) ∙ pow-add 2 (k - 64) 64 in
        let q : 1 ≤ 2 ^ (k - 64) = pow_pos (k - 64) in
        let small : OperandsFit (Shr k) w a b c = rw is at fit in
        let inside : a < 2 ^ 64 = fits_a_word a w h small in
        omega arith

pub cast_made : (op : WordOp) (v m a b c w : ℕ) → op ≡ Cast v → m ≡ 2 ^ result_width_of op w - 1 → bit_and a m ≡ word_result op w a b c
cast_made op v m a b c w is e = let d : m ≡ 2 ^ v - 1 = rw is at e in rw is (ap (bit_and a) d ∙ and_mask a v)
