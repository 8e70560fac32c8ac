-- Operators that read their operands as signed, by others.
use Rattle.std.specs.Prelude.{◌≡◌, ℕ, ◌-◌, ◌^◌, ◌<◌, List, length, nat_lt, if◌then◌else◌}
use Rattle.ae_word.specs.declared.op.WordOp.{WordOp}
use Rattle.ae_word.specs.WordTable.{result_width_of, word_result}
use Rattle.ae_netlist.specs.Runs.{Clock, word_at}

-- an operator on one word, on its complement, and the complement of that
abbrev pub complemented : WordOp → (w a : ℕ) → ℕ
complemented op w a = 2 ^ result_width_of op w - 1 - word_result op w (2 ^ w - 1 - a) (2 ^ w - 1 - a) (2 ^ w - 1 - a)

abbrev pub IsComplemented : List Clock → (y : ℕ) → WordOp → (w x : ℕ) → Type 0
IsComplemented run y op w x = (t : ℕ) → t < length run → word_at run t y ≡ complemented op w (word_at run t x)

-- an operator on one word: on the code of a number below 0 the complement of its result on the complement
abbrev pub by_half : WordOp → (w a : ℕ) → ℕ
by_half op w a = if nat_lt a (2 ^ (w - 1)) then word_result op w a a a else complemented op w a

abbrev pub IsBySign : List Clock → (y : ℕ) → WordOp → (w x : ℕ) → Type 0
IsBySign run y op w x = (t : ℕ) → t < length run → word_at run t y ≡ by_half op w (word_at run t x)
