-- Left folds of words with an operator, and how many levels of pairs fold a row.
use Rattle.std.specs.Prelude.{ℕ, zero, suc, ◌^◌, nat_le}
use Rattle.std.specs.List.{position_or_len, range_with_len}
use Rattle.ae_word.specs.declared.op.WordOp.{WordOp}
use Rattle.ae_word.specs.declared.op.WordOp.TheVariants.{Add, Sub, Mul, And, Or, Xor, Not, Min, Max, Eq, Lt, Mux, Shl, Shr, Cast, SLt, SMin, SMax, Sar, SCast}
use Rattle.ae_word.specs.WordTable.{word_result}

-- an operator that may fold words of one kind: one of the seven, or a signed one of them
abbrev pub IsFold : WordOp → Type 0
IsFold Add = Unit {0}
IsFold Sub = ⊥
IsFold Mul = Unit {0}
IsFold And = Unit {0}
IsFold Or = Unit {0}
IsFold Xor = Unit {0}
IsFold Not = ⊥
IsFold Min = Unit {0}
IsFold Max = Unit {0}
IsFold Eq = ⊥
IsFold Lt = ⊥
IsFold Mux = ⊥
IsFold (Shl k) = ⊥
IsFold (Shr k) = ⊥
IsFold (Cast v) = ⊥
IsFold SLt = ⊥
IsFold SMin = Unit {0}
IsFold SMax = Unit {0}
IsFold (Sar k) = ⊥
IsFold (SCast v) = ⊥

-- two words of width w, combined by an operator
abbrev pub combine : WordOp → (w a b : ℕ) → ℕ
combine op w a b = word_result op w a b a

-- the left fold of f 0 to f n
unfoldable pub fold_to : WordOp → (w : ℕ) → (f : ℕ → ℕ) → (n : ℕ) → ℕ
fold_to op w f zero = f 0
fold_to op w f (suc n) = combine op w (fold_to op w f n) (f (suc n))

-- the logarithm to base 2, rounded up: the first l with n ≤ 2 ^ l
unfoldable pub log_up : ℕ → ℕ
log_up n = position_or_len (λ l. nat_le n (2 ^ l)) (range_with_len 0 n)
