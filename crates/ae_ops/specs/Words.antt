-- The stage of one operator on words, which stand in the first clock of each period.
use Rattle.std.specs.Prelude.{◌≡◌, ◌<◌, length, ℕ, ◌+◌, ◌*◌, nat_lt, if◌then◌else◌, List, [], ◌∷◌, map, get_or}
use Rattle.ae_word.specs.declared.op.WordOp.{WordOp}
use Rattle.ae_word.specs.declared.op.WordOp.TheVariants.{Add, Sub, Mul, And, Or, Xor, Not, Min, Max, Eq, Lt, Mux, Shl, Shr, Cast, SLt, SMin, SMax, Sar, SCast}
use Rattle.ae_word.specs.WordTable.{arity_of, latency_of, result_width_of, word_result}
use Rattle.ae_netlist.specs.declared.cell.NetId.{NetId}
use Rattle.ae_netlist.specs.Circuit.{operand}
use Rattle.ae_netlist.specs.Counts.{is_product}
use Rattle.ae_netlist.specs.Runs.{Clock, word_at}
use Rattle.ae_ops.specs.Blocks.{Part, Stream}

-- a word in the first clock of each period
abbrev pub word_stream : (width : ℕ) → Stream
word_stream w = record { slots = (record { clock = 0; lane = 0 }) ∷ []; lanes = 1; widths = w ∷ [] }

-- the widths of an operator's operands: the condition of a choice has one bit
abbrev pub operand_widths : WordOp → ℕ → List ℕ
operand_widths Add w = w ∷ w ∷ []
operand_widths Sub w = w ∷ w ∷ []
operand_widths Mul w = w ∷ w ∷ []
operand_widths And w = w ∷ w ∷ []
operand_widths Or w = w ∷ w ∷ []
operand_widths Xor w = w ∷ w ∷ []
operand_widths Not w = w ∷ []
operand_widths Min w = w ∷ w ∷ []
operand_widths Max w = w ∷ w ∷ []
operand_widths Eq w = w ∷ w ∷ []
operand_widths Lt w = w ∷ w ∷ []
operand_widths Mux w = 1 ∷ w ∷ w ∷ []
operand_widths (Shl k) w = w ∷ []
operand_widths (Shr k) w = w ∷ []
operand_widths (Cast v) w = w ∷ []
operand_widths SLt w = w ∷ w ∷ []
operand_widths SMin w = w ∷ w ∷ []
operand_widths SMax w = w ∷ w ∷ []
operand_widths (Sar k) w = w ∷ []
operand_widths (SCast v) w = w ∷ []

-- the one word of value k
abbrev pub word_of : List (List ℕ) → ℕ → ℕ
word_of vs k = get_or (get_or vs k []) 0 0

-- what contracts see of a word stage
pub record Operation : Type 0 where
  pub op : WordOp
  pub width : ℕ
  pub period : ℕ

-- an operator on words as a part of a circuit: it makes the word of the word table
abbrev pub word_part : WordOp → (width period : ℕ) → Part
word_part op w period = record {
  period = period;
  latency = latency_of op;
  ins = map word_stream (operand_widths op w);
  out = word_stream (result_width_of op w);
  means = λ vs. word_result op w (word_of vs 0) (word_of vs 1) (word_of vs 2) ∷ [];
  most_cells = 16 * (1 + latency_of op);
  products = if is_product op then 1 else 0;
  most_memories = 0;
}

-- the first net of bundle k
abbrev pub first_net : List (List NetId) → ℕ → NetId
first_net bundles k = get_or (get_or bundles k []) 0 (record { 0 = 0 })

-- operand k of an operator: those that it does not use repeat its first
abbrev pub picked : WordOp → List (List NetId) → ℕ → NetId
picked op bundles k = if nat_lt k (arity_of op) then first_net bundles k else first_net bundles 0

abbrev pub operands_of : WordOp → List (List NetId) → List NetId
operands_of op bundles = picked op bundles 0 ∷ picked op bundles 1 ∷ picked op bundles 2 ∷ []

-- net y has, d clocks later, the operator's result on its operands of width w
abbrev pub IsResultLater : List Clock → (y d : ℕ) → WordOp → (w : ℕ) → List NetId → Type 0
IsResultLater run y d op w args =
    (t : ℕ) → t + d < length run → word_at run (t + d) y ≡ word_result op w (word_at run t (operand args 0))
    (word_at run t (operand args 1)) (word_at run t (operand args 2))
