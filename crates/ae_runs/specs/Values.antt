-- What expressions and statements mean. Words are whole numbers; each expression that is narrower than the width
-- handed down to it is extended with zeros.
use Rattle.std.specs.Prelude.{ℕ, pos, ◌+◌, ◌-◌, ◌*◌, ◌/◌, ◌%◌, ◌^◌, ◌-ℤ◌, ◌==◌, max, nat_lt, nat_le, bit_and, bit_or, bit_xor, not, ◌&&◌, ◌||◌, if◌then◌else◌, List, slice_get, unwrap_or, slice_set, bytes_eq}
use Rattle.ae_word.specs.WordTable.{bit, code}
use Rattle.ae_vmodule.specs.declared.module.UnOp.{UnOp}
use Rattle.ae_vmodule.specs.declared.module.UnOp.TheVariants.{Not, Flip}
use Rattle.ae_vmodule.specs.declared.module.BinOp.{BinOp}
use Rattle.ae_vmodule.specs.declared.module.BinOp.TheVariants.{Mul, Add, Sub, Shl, Shr, Lt, Le, Gt, Ge, Eq, Ne, And, Xor, Or, Both, Either}
use Rattle.ae_vmodule.specs.ModuleTree.{ExprTree, name, constant, place, part, index, unary, binary, choice, concat_one, concat_more, StmtTree, set, put, when, either, block_end, block_more, NetTree}
use Rattle.ae_judge.specs.Names.{is_memory_name}
use Rattle.ae_judge.specs.Widths.{declared_width, own_width}

-- what stands in one clock, by name: a word, or the words of a memory
pub record ModuleClock : Type 0 where
  pub word : List ℕ → ℕ
  pub store : List ℕ → List ℕ

abbrev pub unary_result : UnOp → (w a : ℕ) → ℕ
unary_result Not w a = bit (a == 0)
unary_result Flip w a = 2 ^ w - 1 - a

-- the width at which the operand of a prefix is computed, where w is handed down and a is its own
abbrev pub operand_width : UnOp → (w a : ℕ) → ℕ
operand_width Not w a = a
operand_width Flip w a = w

-- the widths at which both operands are computed, where w is handed down, and a and b are their own: a comparison is
-- made at the greater of these two, a test and the amount of a shift at their own
abbrev pub left_width : BinOp → (w a b : ℕ) → ℕ
left_width Mul w a b = w
left_width Add w a b = w
left_width Sub w a b = w
left_width Shl w a b = w
left_width Shr w a b = w
left_width Lt w a b = max a b
left_width Le w a b = max a b
left_width Gt w a b = max a b
left_width Ge w a b = max a b
left_width Eq w a b = max a b
left_width Ne w a b = max a b
left_width And w a b = w
left_width Xor w a b = w
left_width Or w a b = w
left_width Both w a b = a
left_width Either w a b = a

abbrev pub right_width : BinOp → (w a b : ℕ) → ℕ
right_width Mul w a b = w
right_width Add w a b = w
right_width Sub w a b = w
right_width Shl w a b = b
right_width Shr w a b = b
right_width Lt w a b = max a b
right_width Le w a b = max a b
right_width Gt w a b = max a b
right_width Ge w a b = max a b
right_width Eq w a b = max a b
right_width Ne w a b = max a b
right_width And w a b = w
right_width Xor w a b = w
right_width Or w a b = w
right_width Both w a b = b
right_width Either w a b = b

-- the result at width w
abbrev pub binary_result : BinOp → (w a b : ℕ) → ℕ
binary_result Mul w a b = (a * b) % 2 ^ w
binary_result Add w a b = (a + b) % 2 ^ w
binary_result Sub w a b = code w (pos a -ℤ pos b)
binary_result Shl w a b = (a * 2 ^ b) % 2 ^ w
binary_result Shr w a b = a / 2 ^ b
binary_result Lt w a b = bit (nat_lt a b)
binary_result Le w a b = bit (nat_le a b)
binary_result Gt w a b = bit (nat_lt b a)
binary_result Ge w a b = bit (nat_le b a)
binary_result Eq w a b = bit (a == b)
binary_result Ne w a b = bit (not (a == b))
binary_result And w a b = bit_and a b
binary_result Xor w a b = bit_xor a b
binary_result Or w a b = bit_or a b
binary_result Both w a b = bit (not (a == 0) && not (b == 0))
binary_result Either w a b = bit (not (a == 0) || not (b == 0))

-- the value of an expression that is computed at width w
abbrev pub value_at : List NetTree → ModuleClock → ℕ → ExprTree → ℕ
value_at ns c w (name n) = c.word n
value_at ns c w (constant size value fits) = value
value_at ns c w (place k) = k
value_at ns c w (part n high low) = c.word n / 2 ^ low % 2 ^ (high - low + 1)
value_at ns c w (index n at) =
    if is_memory_name ns n
    then unwrap_or (slice_get (c.store n) (value_at ns c (own_width ns at) at)) 0
    else c.word n / 2 ^ value_at ns c (own_width ns at) at % 2
value_at ns c w (unary op a) = unary_result op w (value_at ns c (operand_width op w (own_width ns a)) a)
value_at ns c w (binary op a b) =
    binary_result op w (value_at ns c (left_width op w (own_width ns a) (own_width ns b)) a)
    (value_at ns c (right_width op w (own_width ns a) (own_width ns b)) b)
value_at ns c w (choice test a b) =
    if value_at ns c (own_width ns test) test == 0 then value_at ns c w b else value_at ns c w a
value_at ns c w (concat_one a) = value_at ns c (own_width ns a) a
value_at ns c w (concat_more a rest) =
    value_at ns c (own_width ns a) a * 2 ^ own_width ns rest + value_at ns c (own_width ns rest) rest

-- the value at its own width
abbrev pub own_value : List NetTree → ModuleClock → ExprTree → ℕ
own_value ns c e = value_at ns c (own_width ns e) e

-- what an assignment gives its target: computed at the greater of both widths, and cut to the target's
abbrev pub assigned : List NetTree → ModuleClock → List ℕ → ExprTree → ℕ
assigned ns c n e = value_at ns c (max (own_width ns e) (declared_width ns n)) e % 2 ^ declared_width ns n

-- a clock with another word for one name, or another word at one place of a memory
abbrev pub with_word : ModuleClock → List ℕ → ℕ → ModuleClock
with_word c n x = record { word = λ k. if bytes_eq k n then x else c.word k; store = c.store }

abbrev pub with_stored : ModuleClock → List ℕ → ℕ → ℕ → ModuleClock
with_stored c n at x =
    record { word = c.word; store = λ k. if bytes_eq k n then slice_set (c.store k) at x else c.store k }

-- what a statement makes of the words that are next so far; c has all words as before the clock edge
abbrev pub after_stmt : List NetTree → ModuleClock → StmtTree → ModuleClock → ModuleClock
after_stmt ns c (set n value) next = with_word next n (assigned ns c n value)
after_stmt ns c (put n at value) next = with_stored next n (own_value ns c at) (assigned ns c n value)
after_stmt ns c (when test taken) next = if own_value ns c test == 0 then next else after_stmt ns c taken next
after_stmt ns c (either test taken otherwise) next =
    if own_value ns c test == 0 then after_stmt ns c otherwise next else after_stmt ns c taken next
after_stmt ns c block_end next = next
after_stmt ns c (block_more first rest) next = after_stmt ns c rest (after_stmt ns c first next)
