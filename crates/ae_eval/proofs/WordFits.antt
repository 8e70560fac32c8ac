-- Words that fit: an operator's result where its operands do, what fits an operator by its operands' sign, and folds.
use Rattle.std.proofs.Common.{ℤ, pos, negsuc, ◌-ℤ◌, int_lt, ◌≡◌, ℕ, ◌*◌, ◌/◌, ◌%◌, ◌^◌, ◌<◌, ◌≤◌, ◌==◌, nat_lt, bit_and, Bool, true, false, if◌then◌else◌, List, [], ◌∷◌, IsTrue, refl, arith, lit<}
use Rattle.std.specs.Int.{int_min, int_max, int_div_euclid}
use Rattle.std.proofs.Math.Nat.{div-le_self}
use Rattle.std.proofs.lemmas.Nat.{pow_pos, and_le_l, or_lt, xor_lt}
use Rattle.std.proofs.lemmas.Bool.{false≢true}
use Rattle.ae_word.specs.declared.op.WordOp.{WordOp}
use Rattle.ae_word.specs.declared.op.WordOp.TheVariants.{Add, Sub, Mul, And, Or, Xor, Not, Min, Max, Eq, Lt, Mux, Shl, Shr, Cast, SLt, SMin, SMax, Sar, SCast}
use Rattle.ae_word.specs.AtomTree.{WordKind}
use Rattle.ae_word.specs.WordTable.{bit, code, signed_value, word_result, result_width_of, OperandsFit, op_for, folds}
use Rattle.ae_seqtype.specs.ValueTree.{FitKinds}
use Rattle.ae_eval.specs.Stack.{combined}

bit_fits : (v : Bool) → bit v < 2 ^ 1
bit_fits true = lit< tt
bit_fits false = lit< tt

one_of_two : (v : Bool) (b c n : ℕ) → b < n → c < n → (if v then b else c) < n
one_of_two true b c n p q = p
one_of_two false b c n p q = q

code_fits : (w : ℕ) (z : ℤ) → code w z < 2 ^ w
code_fits w (pos a) = let p = pow_pos w in omega arith
code_fits w (negsuc a) = let p = pow_pos w in omega arith

-- an operator's result fits its width, where its operands fit
pub word_fits : (op : WordOp) (w a b c : ℕ) → OperandsFit op w a b c → word_result op w a b c < 2 ^ result_width_of op w
word_fits Add w a b c h = let p = pow_pos w in omega arith
word_fits Sub w a b c h = code_fits w (pos a -ℤ pos b)
word_fits Mul w a b c h = let p = pow_pos w in let x : ℕ = a * b in let q : x % 2 ^ w < 2 ^ w = omega arith in q
word_fits And w a b c h = let p : bit_and a b ≤ a = and_le_l a b in let q : a < 2 ^ w = h.0 in omega arith
word_fits Or w a b c h = or_lt w a b h.0 h.1
word_fits Xor w a b c h = xor_lt w a b h.0 h.1
word_fits Not w a b c h = let p = pow_pos w in omega arith
word_fits Min w a b c h = let q : a < 2 ^ w = h.0 in omega arith
word_fits Max w a b c h = let q : a < 2 ^ w = h.0 in let r : b < 2 ^ w = h.1 in omega arith
word_fits Eq w a b c h = bit_fits (a == b)
word_fits Lt w a b c h = bit_fits (nat_lt a b)
word_fits Mux w a b c h = one_of_two (a == 1) b c (2 ^ w) h.1 h.2
word_fits (Shl k) w a b c h = let p = pow_pos w in let x : ℕ = a * 2 ^ k in let q : x % 2 ^ w < 2 ^ w = omega arith in q
word_fits (Shr k) w a b c h = let x : ℕ = a / 2 ^ k in let p : x ≤ a = div-le_self a (2 ^ k) in let q : a < 2 ^ w = h in let r : x < 2 ^ w = omega arith in r
word_fits (Cast v) w a b c h = let p = pow_pos v in omega arith
word_fits SLt w a b c h = bit_fits (int_lt (signed_value w a) (signed_value w b))
word_fits SMin w a b c h = code_fits w (int_min (signed_value w a) (signed_value w b))
word_fits SMax w a b c h = code_fits w (int_max (signed_value w a) (signed_value w b))
word_fits (Sar k) w a b c h = code_fits w (int_div_euclid (signed_value w a) (pos (2 ^ k)))
word_fits (SCast v) w a b c h = code_fits v (signed_value w a)

pub fit-Add : (s : Bool) (w a b c : ℕ) → a < 2 ^ w → b < 2 ^ w → OperandsFit (op_for s Add) w a b c
fit-Add true w a b c h g = (h, g)
fit-Add false w a b c h g = (h, g)

pub wide-Add : (s : Bool) (w : ℕ) → result_width_of (op_for s Add) w ≡ w
wide-Add true w = refl
wide-Add false w = refl

pub fit-Sub : (s : Bool) (w a b c : ℕ) → a < 2 ^ w → b < 2 ^ w → OperandsFit (op_for s Sub) w a b c
fit-Sub true w a b c h g = (h, g)
fit-Sub false w a b c h g = (h, g)

pub wide-Sub : (s : Bool) (w : ℕ) → result_width_of (op_for s Sub) w ≡ w
wide-Sub true w = refl
wide-Sub false w = refl

pub fit-Mul : (s : Bool) (w a b c : ℕ) → a < 2 ^ w → b < 2 ^ w → OperandsFit (op_for s Mul) w a b c
fit-Mul true w a b c h g = (h, g)
fit-Mul false w a b c h g = (h, g)

pub wide-Mul : (s : Bool) (w : ℕ) → result_width_of (op_for s Mul) w ≡ w
wide-Mul true w = refl
wide-Mul false w = refl

pub fit-And : (s : Bool) (w a b c : ℕ) → a < 2 ^ w → b < 2 ^ w → OperandsFit (op_for s And) w a b c
fit-And true w a b c h g = (h, g)
fit-And false w a b c h g = (h, g)

pub wide-And : (s : Bool) (w : ℕ) → result_width_of (op_for s And) w ≡ w
wide-And true w = refl
wide-And false w = refl

pub fit-Or : (s : Bool) (w a b c : ℕ) → a < 2 ^ w → b < 2 ^ w → OperandsFit (op_for s Or) w a b c
fit-Or true w a b c h g = (h, g)
fit-Or false w a b c h g = (h, g)

pub wide-Or : (s : Bool) (w : ℕ) → result_width_of (op_for s Or) w ≡ w
wide-Or true w = refl
wide-Or false w = refl

pub fit-Xor : (s : Bool) (w a b c : ℕ) → a < 2 ^ w → b < 2 ^ w → OperandsFit (op_for s Xor) w a b c
fit-Xor true w a b c h g = (h, g)
fit-Xor false w a b c h g = (h, g)

pub wide-Xor : (s : Bool) (w : ℕ) → result_width_of (op_for s Xor) w ≡ w
wide-Xor true w = refl
wide-Xor false w = refl

pub fit-Min : (s : Bool) (w a b c : ℕ) → a < 2 ^ w → b < 2 ^ w → OperandsFit (op_for s Min) w a b c
fit-Min true w a b c h g = (h, g)
fit-Min false w a b c h g = (h, g)

pub wide-Min : (s : Bool) (w : ℕ) → result_width_of (op_for s Min) w ≡ w
wide-Min true w = refl
wide-Min false w = refl

pub fit-Max : (s : Bool) (w a b c : ℕ) → a < 2 ^ w → b < 2 ^ w → OperandsFit (op_for s Max) w a b c
fit-Max true w a b c h g = (h, g)
fit-Max false w a b c h g = (h, g)

pub wide-Max : (s : Bool) (w : ℕ) → result_width_of (op_for s Max) w ≡ w
wide-Max true w = refl
wide-Max false w = refl

pub fit-Eq : (s : Bool) (w a b c : ℕ) → a < 2 ^ w → b < 2 ^ w → OperandsFit (op_for s Eq) w a b c
fit-Eq true w a b c h g = (h, g)
fit-Eq false w a b c h g = (h, g)

pub wide-Eq : (s : Bool) (w : ℕ) → result_width_of (op_for s Eq) w ≡ 1
wide-Eq true w = refl
wide-Eq false w = refl

pub fit-Lt : (s : Bool) (w a b c : ℕ) → a < 2 ^ w → b < 2 ^ w → OperandsFit (op_for s Lt) w a b c
fit-Lt true w a b c h g = (h, g)
fit-Lt false w a b c h g = (h, g)

pub wide-Lt : (s : Bool) (w : ℕ) → result_width_of (op_for s Lt) w ≡ 1
wide-Lt true w = refl
wide-Lt false w = refl

pub fit-Not : (s : Bool) (w a b c : ℕ) → a < 2 ^ w → OperandsFit (op_for s Not) w a b c
fit-Not true w a b c h = h
fit-Not false w a b c h = h

pub wide-Not : (s : Bool) (w : ℕ) → result_width_of (op_for s Not) w ≡ w
wide-Not true w = refl
wide-Not false w = refl

pub fit-Shl : (n : ℕ) (s : Bool) (w a b c : ℕ) → a < 2 ^ w → OperandsFit (op_for s (Shl n)) w a b c
fit-Shl n true w a b c h = h
fit-Shl n false w a b c h = h

pub wide-Shl : (n : ℕ) (s : Bool) (w : ℕ) → result_width_of (op_for s (Shl n)) w ≡ w
wide-Shl n true w = refl
wide-Shl n false w = refl

pub fit-Shr : (n : ℕ) (s : Bool) (w a b c : ℕ) → a < 2 ^ w → OperandsFit (op_for s (Shr n)) w a b c
fit-Shr n true w a b c h = h
fit-Shr n false w a b c h = h

pub wide-Shr : (n : ℕ) (s : Bool) (w : ℕ) → result_width_of (op_for s (Shr n)) w ≡ w
wide-Shr n true w = refl
wide-Shr n false w = refl

pub fit-Cast : (n : ℕ) (s : Bool) (w a b c : ℕ) → a < 2 ^ w → OperandsFit (op_for s (Cast n)) w a b c
fit-Cast n true w a b c h = h
fit-Cast n false w a b c h = h

pub wide-Cast : (n : ℕ) (s : Bool) (w : ℕ) → result_width_of (op_for s (Cast n)) w ≡ n
wide-Cast n true w = refl
wide-Cast n false w = refl

pub fit-Mux : (s : Bool) (w a b c : ℕ) → a < 2 → b < 2 ^ w → c < 2 ^ w → OperandsFit (op_for s Mux) w a b c
fit-Mux true w a b c h g k = (h, g, k)
fit-Mux false w a b c h g k = (h, g, k)

pub wide-Mux : (s : Bool) (w : ℕ) → result_width_of (op_for s Mux) w ≡ w
wide-Mux true w = refl
wide-Mux false w = refl

-- an operator that folds keeps the words of its kind
pub fold-fits : (op : WordOp) (s : Bool) (w a b : ℕ) → IsTrue (folds op) → a < 2 ^ w → b < 2 ^ w → word_result (op_for s op) w a b 0 < 2 ^ w
fold-fits Add s w a b f h g = rw (wide-Add s w) at (word_fits (op_for s Add) w a b 0 (fit-Add s w a b 0 h g))
fold-fits Mul s w a b f h g = rw (wide-Mul s w) at (word_fits (op_for s Mul) w a b 0 (fit-Mul s w a b 0 h g))
fold-fits And s w a b f h g = rw (wide-And s w) at (word_fits (op_for s And) w a b 0 (fit-And s w a b 0 h g))
fold-fits Or s w a b f h g = rw (wide-Or s w) at (word_fits (op_for s Or) w a b 0 (fit-Or s w a b 0 h g))
fold-fits Xor s w a b f h g = rw (wide-Xor s w) at (word_fits (op_for s Xor) w a b 0 (fit-Xor s w a b 0 h g))
fold-fits Min s w a b f h g = rw (wide-Min s w) at (word_fits (op_for s Min) w a b 0 (fit-Min s w a b 0 h g))
fold-fits Max s w a b f h g = rw (wide-Max s w) at (word_fits (op_for s Max) w a b 0 (fit-Max s w a b 0 h g))
fold-fits Sub s w a b f h g = absurd (false≢true f)
fold-fits Not s w a b f h g = absurd (false≢true f)
fold-fits Eq s w a b f h g = absurd (false≢true f)
fold-fits Lt s w a b f h g = absurd (false≢true f)
fold-fits Mux s w a b f h g = absurd (false≢true f)
fold-fits (Shl n) s w a b f h g = absurd (false≢true f)
fold-fits (Shr n) s w a b f h g = absurd (false≢true f)
fold-fits (Cast n) s w a b f h g = absurd (false≢true f)
fold-fits SLt s w a b f h g = absurd (false≢true f)
fold-fits SMin s w a b f h g = absurd (false≢true f)
fold-fits SMax s w a b f h g = absurd (false≢true f)
fold-fits (Sar n) s w a b f h g = absurd (false≢true f)
fold-fits (SCast n) s w a b f h g = absurd (false≢true f)

pub combined-fits : (op : WordOp) (ks : List WordKind) (us vs : List ℕ) → IsTrue (folds op) → FitKinds us ks → FitKinds vs ks
    → FitKinds (combined op ks us vs) ks
combined-fits op [] us vs f h g = tt
combined-fits op (k ∷ ks) [] vs f h g = absurd h
combined-fits op (k ∷ ks) (x ∷ us) [] f h g = absurd g
combined-fits op (k ∷ ks) (x ∷ us) (y ∷ vs) f h g = (fold-fits op k.signed k.width x y f h.0 g.0, combined-fits op ks us vs f h.1 g.1)
