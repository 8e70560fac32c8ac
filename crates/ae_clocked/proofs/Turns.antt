-- What a counter's next word is.
use Rattle.std.proofs.Common.{ℕ, zero, suc, ◌≡◌, ◌+◌, ◌*◌, ◌<◌, ◌≤◌, ◌%◌, ◌^◌, ◌==◌, if◌then◌else◌, Bool, true, false, arith, refl}
use Rattle.std.proofs.Math.Pow.{pow-lt}
use Rattle.std.specs.Int.Bits.{bit_or, bit_xor, xor_self}

pub one_fits : (w : ℕ) → 1 ≤ w → 1 < 2 ^ w
one_fits w h = pow-lt {i = 0} {j = w} (omega arith)

pub bit_chooses : (v : Bool) (x y : ℕ) → (if (if v then 1 else 0) == 1 then x else y) ≡ (if v then x else y)
bit_chooses true x y = refl
bit_chooses false x y = refl

pub turn_is : (w r last end at one up none next : ℕ)
    → end ≡ last → at ≡ (if r == end then 1 else 0) → one ≡ 1 → up ≡ (r + one) % 2 ^ w → none ≡ 0 → next ≡ (if at == 1 then none else up)
    → next ≡ (if r == last then 0 else (r + 1) % 2 ^ w)
turn_is w r last end at one up none next e a o u z n = rw (n, a, u, o, z, e) (bit_chooses (r == last) 0 ((r + 1) % 2 ^ w))

pub count_is : (rst r last w turned begin next r' first : ℕ)
    → turned ≡ (if r == last then 0 else (r + 1) % 2 ^ w) → begin ≡ first → next ≡ (if rst == 1 then begin else turned) → r' ≡ next
    → r' ≡ (if rst == 1 then first else (if r == last then 0 else (r + 1) % 2 ^ w))
count_is rst r last w turned begin next r' first t b n e = rw (e, n, b, t) refl

-- ---- three bits, without an adder

ones_of : (r : ℕ) → r < 8 → bit_xor r (if r % 2 == 1 then bit_or (r * 2 % 8) 1 else 1) ≡ (r + 1) % 8
ones_of zero h = refl
ones_of (suc zero) h = refl
ones_of (suc (suc zero)) h = refl
ones_of (suc (suc (suc zero))) h = refl
ones_of (suc (suc (suc (suc zero)))) h = refl
ones_of (suc (suc (suc (suc (suc zero))))) h = refl
ones_of (suc (suc (suc (suc (suc (suc zero)))))) h = refl
ones_of (suc (suc (suc (suc (suc (suc (suc zero))))))) h = refl
ones_of (suc (suc (suc (suc (suc (suc (suc (suc r)))))))) h = absurd (omega arith)

-- the bits that change are these
pub ones_are : (r one up odd low ones : ℕ)
    → r < 2 ^ 3 → one ≡ 1 → up ≡ (r * 2 ^ 1) % 2 ^ 3 → odd ≡ bit_or up one → low ≡ r % 2 ^ 1 → ones ≡ (if low == 1 then odd else one)
    → bit_xor r ones ≡ (r + 1) % 2 ^ 3
ones_are r one up odd low ones b o u d l n = rw (n, l, d, u, o) (ones_of r b)

flips_are : (v : Bool) (r ones : ℕ) → bit_xor r ones ≡ (r + 1) % 2 ^ 3
    → bit_xor r (if (if v then 1 else 0) == 1 then r else ones) ≡ (if v then 0 else (r + 1) % 2 ^ 3)
flips_are true r ones c = xor_self r
flips_are false r ones c = c

pub bits_turn : (r last end at ones flips next : ℕ)
    → end ≡ last → at ≡ (if r == end then 1 else 0) → bit_xor r ones ≡ (r + 1) % 2 ^ 3 → flips ≡ (if at == 1 then r else ones) → next ≡ bit_xor r flips
    → next ≡ (if r == last then 0 else (r + 1) % 2 ^ 3)
bits_turn r last end at ones flips next e a o f n = rw (n, f, a, e) (flips_are (r == last) r ones o)
