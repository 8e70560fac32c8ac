-- What the operators on words mean, as arithmetic on whole numbers. A word of width w is a number below 2 ^ w.
use Rattle.std.specs.Prelude.{ℕ, ℤ, pos, ◌+◌, ◌-◌, ◌*◌, ◌/◌, ◌%◌, ◌^◌, ◌-ℤ◌, ◌==◌, ◌<◌, ◌≤◌, min, max, nat_lt, int_lt, unsigned_abs, bit_and, bit_or, bit_xor, Bool, true, false, if◌then◌else◌, List, [], ◌∷◌, codes}
use Rattle.std.specs.Fmt.{decimal}
use Rattle.std.specs.Int.{int_min, int_max, int_div_euclid, int_rem_euclid}
use Rattle.ae_word.specs.AtomTree.{WordKind}
use Rattle.ae_word.specs.declared.op.WordOp.{WordOp}
use Rattle.ae_word.specs.declared.op.WordOp.TheVariants.{Add, Sub, Mul, And, Or, Xor, Not, Min, Max, Eq, Lt, Mux, Shl, Shr, Cast, SLt, SMin, SMax, Sar, SCast}

abbrev pub bit : Bool → ℕ
bit b = if b then 1 else 0

-- the value of the signed word of width w with this code
abbrev pub signed_value : (w code : ℕ) → ℤ
signed_value w a = if nat_lt a (2 ^ (w - 1)) then pos a else pos a -ℤ pos (2 ^ w)

-- the code of width w of a whole number: the number modulo 2 ^ w
abbrev pub code : (w : ℕ) → ℤ → ℕ
code w z = unsigned_abs (int_rem_euclid z (pos (2 ^ w)))

-- the result on operands a, b and c; w is the width of an operand, for a choice that of its arms
abbrev pub word_result : WordOp → (w a b c : ℕ) → ℕ
word_result Add w a b c = (a + b) % 2 ^ w
word_result Sub w a b c = code w (pos a -ℤ pos b)
word_result Mul w a b c = (a * b) % 2 ^ w
word_result And w a b c = bit_and a b
word_result Or w a b c = bit_or a b
word_result Xor w a b c = bit_xor a b
word_result Not w a b c = 2 ^ w - 1 - a
word_result Min w a b c = min a b
word_result Max w a b c = max a b
word_result Eq w a b c = bit (a == b)
word_result Lt w a b c = bit (nat_lt a b)
word_result Mux w a b c = if a == 1 then b else c
word_result (Shl k) w a b c = (a * 2 ^ k) % 2 ^ w
word_result (Shr k) w a b c = a / 2 ^ k
word_result (Cast v) w a b c = a % 2 ^ v
word_result SLt w a b c = bit (int_lt (signed_value w a) (signed_value w b))
word_result SMin w a b c = code w (int_min (signed_value w a) (signed_value w b))
word_result SMax w a b c = code w (int_max (signed_value w a) (signed_value w b))
word_result (Sar k) w a b c = code w (int_div_euclid (signed_value w a) (pos (2 ^ k)))
word_result (SCast v) w a b c = code v (signed_value w a)

-- the width of the result
abbrev pub result_width_of : WordOp → ℕ → ℕ
result_width_of Add w = w
result_width_of Sub w = w
result_width_of Mul w = w
result_width_of And w = w
result_width_of Or w = w
result_width_of Xor w = w
result_width_of Not w = w
result_width_of Min w = w
result_width_of Max w = w
result_width_of Eq w = 1
result_width_of Lt w = 1
result_width_of Mux w = w
result_width_of (Shl k) w = w
result_width_of (Shr k) w = w
result_width_of (Cast v) w = v
result_width_of SLt w = 1
result_width_of SMin w = w
result_width_of SMax w = w
result_width_of (Sar k) w = w
result_width_of (SCast v) w = v

-- how many operands it uses
abbrev pub arity_of : WordOp → ℕ
arity_of Add = 2
arity_of Sub = 2
arity_of Mul = 2
arity_of And = 2
arity_of Or = 2
arity_of Xor = 2
arity_of Not = 1
arity_of Min = 2
arity_of Max = 2
arity_of Eq = 2
arity_of Lt = 2
arity_of Mux = 3
arity_of (Shl k) = 1
arity_of (Shr k) = 1
arity_of (Cast v) = 1
arity_of SLt = 2
arity_of SMin = 2
arity_of SMax = 2
arity_of (Sar k) = 1
arity_of (SCast v) = 1

-- how many clocks its result takes
abbrev pub latency_of : WordOp → ℕ
latency_of Add = 1
latency_of Sub = 1
latency_of Mul = 2
latency_of And = 0
latency_of Or = 0
latency_of Xor = 0
latency_of Not = 0
latency_of Min = 1
latency_of Max = 1
latency_of Eq = 1
latency_of Lt = 1
latency_of Mux = 0
latency_of (Shl k) = 0
latency_of (Shr k) = 0
latency_of (Cast v) = 0
latency_of SLt = 1
latency_of SMin = 1
latency_of SMax = 1
latency_of (Sar k) = 0
latency_of (SCast v) = 0

-- a width that it names is 1 to 64
abbrev pub HasRange : WordOp → Type 0
HasRange Add = Unit {0}
HasRange Sub = Unit {0}
HasRange Mul = Unit {0}
HasRange And = Unit {0}
HasRange Or = Unit {0}
HasRange Xor = Unit {0}
HasRange Not = Unit {0}
HasRange Min = Unit {0}
HasRange Max = Unit {0}
HasRange Eq = Unit {0}
HasRange Lt = Unit {0}
HasRange Mux = Unit {0}
HasRange (Shl k) = Unit {0}
HasRange (Shr k) = Unit {0}
HasRange (Cast v) = (1 ≤ v) × (v ≤ 64)
HasRange SLt = Unit {0}
HasRange SMin = Unit {0}
HasRange SMax = Unit {0}
HasRange (Sar k) = Unit {0}
HasRange (SCast v) = (1 ≤ v) × (v ≤ 64)

-- the operands that it uses fit the width; the condition of a choice has one bit
abbrev pub OperandsFit : WordOp → (w a b c : ℕ) → Type 0
OperandsFit Add w a b c = (a < 2 ^ w) × (b < 2 ^ w)
OperandsFit Sub w a b c = (a < 2 ^ w) × (b < 2 ^ w)
OperandsFit Mul w a b c = (a < 2 ^ w) × (b < 2 ^ w)
OperandsFit And w a b c = (a < 2 ^ w) × (b < 2 ^ w)
OperandsFit Or w a b c = (a < 2 ^ w) × (b < 2 ^ w)
OperandsFit Xor w a b c = (a < 2 ^ w) × (b < 2 ^ w)
OperandsFit Not w a b c = a < 2 ^ w
OperandsFit Min w a b c = (a < 2 ^ w) × (b < 2 ^ w)
OperandsFit Max w a b c = (a < 2 ^ w) × (b < 2 ^ w)
OperandsFit Eq w a b c = (a < 2 ^ w) × (b < 2 ^ w)
OperandsFit Lt w a b c = (a < 2 ^ w) × (b < 2 ^ w)
OperandsFit Mux w a b c = (a < 2) × (b < 2 ^ w) × (c < 2 ^ w)
OperandsFit (Shl k) w a b c = a < 2 ^ w
OperandsFit (Shr k) w a b c = a < 2 ^ w
OperandsFit (Cast v) w a b c = a < 2 ^ w
OperandsFit SLt w a b c = (a < 2 ^ w) × (b < 2 ^ w)
OperandsFit SMin w a b c = (a < 2 ^ w) × (b < 2 ^ w)
OperandsFit SMax w a b c = (a < 2 ^ w) × (b < 2 ^ w)
OperandsFit (Sar k) w a b c = a < 2 ^ w
OperandsFit (SCast v) w a b c = a < 2 ^ w

-- the operators that read their operands as signed
abbrev pub is_signed : WordOp → Bool
is_signed Add = false
is_signed Sub = false
is_signed Mul = false
is_signed And = false
is_signed Or = false
is_signed Xor = false
is_signed Not = false
is_signed Min = false
is_signed Max = false
is_signed Eq = false
is_signed Lt = false
is_signed Mux = false
is_signed (Shl k) = false
is_signed (Shr k) = false
is_signed (Cast v) = false
is_signed SLt = true
is_signed SMin = true
is_signed SMax = true
is_signed (Sar k) = true
is_signed (SCast v) = true

-- ---- operators as programs have them

-- how a line writes the operator, with its number; the kind of its result on words of a kind; which of its operands has the
-- kind at which it works; the operator that it means on signed words; whether it multiplies, and whether it is a cast
pub record OpRow : Type 0 where
  pub fields : List (List ℕ)
  pub result : WordKind → WordKind
  pub main : ℕ
  pub on_signed : WordOp
  pub multiplies : Bool
  pub casts : Bool

abbrev pub row : List (List ℕ) → (WordKind → WordKind) → ℕ → WordOp → Bool → Bool → OpRow
row fields result main on_signed multiplies casts = record { fields = fields; result = result; main = main; on_signed = on_signed; multiplies = multiplies; casts = casts }

abbrev pub same : WordKind → WordKind
same k = k

abbrev pub unsigned : ℕ → WordKind → WordKind
unsigned w k = record { signed = false; width = w }

-- the signed ones stand in no text, so they have a field that no line has
abbrev pub row_of : WordOp → OpRow
row_of Add = row (codes "add" ∷ []) same 0 Add false false
row_of Sub = row (codes "sub" ∷ []) same 0 Sub false false
row_of Mul = row (codes "mul" ∷ []) same 0 Mul true false
row_of And = row (codes "and" ∷ []) same 0 And false false
row_of Or = row (codes "or" ∷ []) same 0 Or false false
row_of Xor = row (codes "xor" ∷ []) same 0 Xor false false
row_of Not = row (codes "not" ∷ []) same 0 Not false false
row_of Min = row (codes "min" ∷ []) same 0 SMin false false
row_of Max = row (codes "max" ∷ []) same 0 SMax false false
row_of Eq = row (codes "eq" ∷ []) (unsigned 1) 0 Eq false false
row_of Lt = row (codes "lt" ∷ []) (unsigned 1) 0 SLt false false
row_of Mux = row (codes "mux" ∷ []) same 1 Mux false false
row_of (Shl k) = row (codes "shl" ∷ decimal k ∷ []) same 0 (Shl k) false false
row_of (Shr k) = row (codes "shr" ∷ decimal k ∷ []) same 0 (Sar k) false false
row_of (Cast v) = row (codes "cast" ∷ (117 ∷ decimal v) ∷ []) (unsigned v) 0 (SCast v) false true
row_of SLt = row ([] ∷ []) (unsigned 1) 0 SLt false false
row_of SMin = row ([] ∷ []) same 0 SMin false false
row_of SMax = row ([] ∷ []) same 0 SMax false false
row_of (Sar k) = row ([] ∷ []) same 0 (Sar k) false false
row_of (SCast v) = row ([] ∷ []) (unsigned v) 0 (SCast v) false true

-- the operator that a line's operator means on words of a kind: on signed words the signed one
abbrev pub op_for : (signed : Bool) → WordOp → WordOp
op_for signed op = if signed then (row_of op).on_signed else op

-- the operators by which elements may be folded
abbrev pub folds : WordOp → Bool
folds Add = true
folds Sub = false
folds Mul = true
folds And = true
folds Or = true
folds Xor = true
folds Not = false
folds Min = true
folds Max = true
folds Eq = false
folds Lt = false
folds Mux = false
folds (Shl k) = false
folds (Shr k) = false
folds (Cast v) = false
folds SLt = false
folds SMin = false
folds SMax = false
folds (Sar k) = false
folds (SCast v) = false
