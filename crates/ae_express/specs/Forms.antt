-- Binary operators by the cells that they take.
use Rattle.std.specs.Prelude.{◌≡◌, ◌≢◌, ℕ, ◌-◌, ◌^◌, ◌==◌, max, nat_lt, nat_le, not, false}
use Rattle.ae_word.specs.declared.op.WordOp.{WordOp}
use Rattle.ae_word.specs.declared.op.WordOp.TheVariants.{Mux}
use Rattle.ae_word.specs.WordTable.{HasRange, bit, is_signed, result_width_of, word_result}
use Rattle.ae_vmodule.specs.declared.module.BinOp.{BinOp}
use Rattle.ae_vmodule.specs.declared.module.BinOp.TheVariants.{Mul, Add, Sub, Shl, Shr, Lt, Le, Gt, Ge, Eq, Ne, And, Xor, Or, Both, Either}
use Rattle.ae_vmodule.specs.ModuleTree.{ExprTree}
use Rattle.ae_judge.specs.Widths.{binary_width}
use Rattle.ae_judge.specs.Weight.{operator_weight, shift_weight}
use Rattle.ae_runs.specs.Values.{left_width, right_width, binary_result}
use Rattle.ae_gates.specs.declared.compounds.Way.{Way}
use Rattle.ae_express.specs.declared.forms.Form.{Form}
use Rattle.ae_express.specs.declared.forms.Form.TheVariants.{Word, Shift, Comparison, Test}
use Rattle.ae_express.specs.declared.forms.Relation.{Relation}
use Rattle.ae_express.specs.declared.forms.Relation.TheVariants.{Equal, Differs, Less, AtLeast, Greater, AtMost}
use Rattle.ae_gates.specs.Shifts.{moved}

abbrev pub relation_result : Relation → (a b : ℕ) → ℕ
relation_result Equal a b = bit (a == b)
relation_result Differs a b = bit (not (a == b))
relation_result Less a b = bit (nat_lt a b)
relation_result AtLeast a b = bit (nat_le b a)
relation_result Greater a b = bit (nat_lt b a)
relation_result AtMost a b = bit (nat_le a b)

-- the most cells that an operator takes beside its operands, where the amount of a shift is no constant
abbrev pub most_cells : BinOp → ℕ
most_cells Mul = 7
most_cells Add = 7
most_cells Sub = 7
most_cells Shl = 47
most_cells Shr = 47
most_cells Lt = 7
most_cells Le = 7
most_cells Gt = 7
most_cells Ge = 7
most_cells Eq = 7
most_cells Ne = 7
most_cells And = 7
most_cells Xor = 7
most_cells Or = 7
most_cells Both = 7
most_cells Either = 7

-- an operator that stands in netlists, on words without sign
pub record IsPlainOp (op : WordOp) : Type 0 where
  pub unsigned : is_signed op ≡ false
  pub plain : op ≢ Mux
  pub range : HasRange op

-- one operator on words of the width
pub record IsWordForm (op : BinOp) (cell : WordOp) : Type 0 where
  pub left : (w a b : ℕ) → left_width op w a b ≡ w
  pub right : (w a b : ℕ) → right_width op w a b ≡ w
  pub own : (a b : ℕ) → binary_width op a b ≡ max a b
  pub value : (w a b c : ℕ) → word_result cell w a b c ≡ binary_result op w a b
  pub allowed : IsPlainOp cell
  pub wide : (w : ℕ) → w ≡ result_width_of cell w
  pub weighs : (e : ExprTree) → operator_weight op e ≡ 1
  pub most : most_cells op ≡ 7

pub record IsShiftForm (op : BinOp) (way : Way) : Type 0 where
  pub left : (w a b : ℕ) → left_width op w a b ≡ w
  pub right : (w a b : ℕ) → right_width op w a b ≡ b
  pub own : (a b : ℕ) → binary_width op a b ≡ a
  pub value : (w a b : ℕ) → moved way w a b ≡ binary_result op w a b
  pub weighs : (e : ExprTree) → operator_weight op e ≡ shift_weight e
  pub most : most_cells op ≡ 47

pub record IsComparisonForm (op : BinOp) (how : Relation) : Type 0 where
  pub left : (w a b : ℕ) → left_width op w a b ≡ max a b
  pub right : (w a b : ℕ) → right_width op w a b ≡ max a b
  pub own : (a b : ℕ) → binary_width op a b ≡ 1
  pub value : (w a b : ℕ) → relation_result how a b ≡ binary_result op w a b
  pub weighs : (e : ExprTree) → operator_weight op e ≡ 1
  pub most : most_cells op ≡ 7

-- the opposite of an operator on the bits that say which word is 0
pub record IsTestForm (op : BinOp) (cell : WordOp) : Type 0 where
  pub left : (w a b : ℕ) → left_width op w a b ≡ a
  pub right : (w a b : ℕ) → right_width op w a b ≡ b
  pub own : (a b : ℕ) → binary_width op a b ≡ 1
  pub value : (w a b : ℕ) → 2 ^ 1 - 1 - word_result cell 1 (bit (a == 0)) (bit (b == 0))
      (bit (a == 0)) ≡ binary_result op w a b
  pub allowed : IsPlainOp cell
  pub one : result_width_of cell 1 ≡ 1
  pub weighs : (e : ExprTree) → operator_weight op e ≡ 1
  pub most : most_cells op ≡ 7

abbrev pub IsForm : BinOp → Form → Type 0
IsForm op (Word cell) = IsWordForm op cell
IsForm op (Shift way) = IsShiftForm op way
IsForm op (Comparison how) = IsComparisonForm op how
IsForm op (Test cell) = IsTestForm op cell
