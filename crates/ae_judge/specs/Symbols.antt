-- The names that symbols of postfix code read, those that they misuse, what they weigh, and which of them have bounds to keep.
use Rattle.std.specs.Prelude.{ℕ, ◌+◌, Bool, true, false, not, ◌&&◌, ◌||◌, if◌then◌else◌, List, [], ◌∷◌, ◌++◌, Option, Some, None}
use Rattle.ae_vmodule.specs.declared.module.BinOp.{BinOp}
use Rattle.ae_vmodule.specs.declared.module.BinOp.TheVariants as op
use Rattle.ae_vmodule.specs.ModuleTree.{NetTree}
use Rattle.ae_vmodule.specs.Postfix.{name_read}
use Rattle.ae_vmodule.specs.View.{word_at}
use Rattle.ae_vmodule.specs.declared.symbols.Symbol.{Symbol}
use Rattle.ae_vmodule.specs.declared.symbols.Symbol.TheVariants.{Name, Number, Const, Part, Index, Unary, Binary, Choose, One, More, Set, Put, When, Either, End, Then}
use Rattle.ae_judge.specs.Names.{is_memory_name, is_ranged}

abbrev pub word_read : List (List ℕ) → Option ℕ → List (List ℕ)
word_read ws None = []
word_read ws (Some k) = word_at ws k ∷ []

abbrev pub words_read : List (List ℕ) → List Symbol → List (List ℕ)
words_read ws [] = []
words_read ws (s ∷ ss) = word_read ws (name_read s) ++ words_read ws ss

abbrev pub is_number : Symbol → Bool
is_number (Name k) = false
is_number (Number p) = true
is_number (Const size fits high low) = false
is_number (Part k) = false
is_number (Index k) = false
is_number (Unary op) = false
is_number (Binary op size) = false
is_number (Choose size_a size_b) = false
is_number One = false
is_number (More size) = false
is_number (Set k) = false
is_number (Put k size) = false
is_number (When size) = false
is_number (Either size_a size_b) = false
is_number End = false
is_number (Then size) = false

-- a symbol misuses the name that it reads; `placed` says whether a decimal number stands right before it
abbrev pub is_misread : List NetTree → List (List ℕ) → (placed : Bool) → Symbol → Bool
is_misread ns ws placed (Name k) = is_memory_name ns (word_at ws k)
is_misread ns ws placed (Number p) = false
is_misread ns ws placed (Const size fits high low) = false
is_misread ns ws placed (Part k) = is_memory_name ns (word_at ws k) || not (is_ranged ns (word_at ws k))
is_misread ns ws placed (Index k) =
    not (is_memory_name ns (word_at ws k)) && not (is_ranged ns (word_at ws k) && placed)
is_misread ns ws placed (Unary op) = false
is_misread ns ws placed (Binary op size) = false
is_misread ns ws placed (Choose size_a size_b) = false
is_misread ns ws placed One = false
is_misread ns ws placed (More size) = false
is_misread ns ws placed (Set k) = false
is_misread ns ws placed (Put k size) = false
is_misread ns ws placed (When size) = false
is_misread ns ws placed (Either size_a size_b) = false
is_misread ns ws placed End = false
is_misread ns ws placed (Then size) = false

abbrev pub any_misread : List NetTree → List (List ℕ) → (placed : Bool) → List Symbol → Bool
any_misread ns ws placed [] = false
any_misread ns ws placed (s ∷ ss) = is_misread ns ws placed s || any_misread ns ws (is_number s) ss

abbrev pub is_constant : Symbol → Bool
is_constant (Name k) = false
is_constant (Number p) = false
is_constant (Const size fits high low) = true
is_constant (Part k) = false
is_constant (Index k) = false
is_constant (Unary op) = false
is_constant (Binary op size) = false
is_constant (Choose size_a size_b) = false
is_constant One = false
is_constant (More size) = false
is_constant (Set k) = false
is_constant (Put k size) = false
is_constant (When size) = false
is_constant (Either size_a size_b) = false
is_constant End = false
is_constant (Then size) = false

-- the weight of an operator; `fixed` says whether its right operand is a constant
abbrev pub weight_by : (fixed : Bool) → BinOp → ℕ
weight_by fixed op.Mul = 1
weight_by fixed op.Add = 1
weight_by fixed op.Sub = 1
weight_by fixed op.Shl = if fixed then 1 else 6
weight_by fixed op.Shr = if fixed then 1 else 6
weight_by fixed op.Lt = 1
weight_by fixed op.Le = 1
weight_by fixed op.Gt = 1
weight_by fixed op.Ge = 1
weight_by fixed op.Eq = 1
weight_by fixed op.Ne = 1
weight_by fixed op.And = 1
weight_by fixed op.Xor = 1
weight_by fixed op.Or = 1
weight_by fixed op.Both = 1
weight_by fixed op.Either = 1

-- the weight of a symbol and of a decimal number right before it, which `placed` says is there; `fixed` says whether a constant is.
-- The second bound of a part weighs nothing, and the first stands for the part.
abbrev pub symbol_weight : (placed fixed : Bool) → Symbol → ℕ
symbol_weight placed fixed (Name k) = if placed then 1 else 0
symbol_weight placed fixed (Number p) = if placed then 1 else 0
symbol_weight placed fixed (Const size fits high low) = (if placed then 1 else 0) + 1
symbol_weight placed fixed (Part k) = 0
symbol_weight placed fixed (Index k) = (if placed then 1 else 0) + 1
symbol_weight placed fixed (Unary op) = (if placed then 1 else 0) + 1
symbol_weight placed fixed (Binary op size) = (if placed then 1 else 0) + weight_by fixed op
symbol_weight placed fixed (Choose size_a size_b) = (if placed then 1 else 0) + 1
symbol_weight placed fixed One = (if placed then 1 else 0) + 1
symbol_weight placed fixed (More size) = (if placed then 1 else 0) + 1
symbol_weight placed fixed (Set k) = if placed then 1 else 0
symbol_weight placed fixed (Put k size) = if placed then 1 else 0
symbol_weight placed fixed (When size) = if placed then 1 else 0
symbol_weight placed fixed (Either size_a size_b) = if placed then 1 else 0
symbol_weight placed fixed End = if placed then 1 else 0
symbol_weight placed fixed (Then size) = if placed then 1 else 0

abbrev pub symbols_weight : (placed fixed : Bool) → List Symbol → ℕ
symbols_weight placed fixed [] = if placed then 1 else 0
symbols_weight placed fixed (s ∷ ss) = symbol_weight placed fixed s + symbols_weight (is_number s) (is_constant s) ss

-- a symbol of what may be out of its bounds: a constant that does not fit, a select, or a concatenation
abbrev pub is_bounded : Symbol → Bool
is_bounded (Name k) = false
is_bounded (Number p) = false
is_bounded (Const size fits high low) = not fits
is_bounded (Part k) = true
is_bounded (Index k) = true
is_bounded (Unary op) = false
is_bounded (Binary op size) = false
is_bounded (Choose size_a size_b) = false
is_bounded One = true
is_bounded (More size) = true
is_bounded (Set k) = false
is_bounded (Put k size) = false
is_bounded (When size) = false
is_bounded (Either size_a size_b) = false
is_bounded End = false
is_bounded (Then size) = false
