-- The stages of the cases have few cells.
use Rattle.std.proofs.Common.{ℕ, ◌≡◌, ◌*◌, ◌≤◌, ◌↔◌, Option, None, Some, IsSome, IfSome, refl, sum_by, arith, subst, sym}
use Rattle.ae_word.specs.declared.op.WordOp.{WordOp}
use Rattle.ae_word.specs.declared.op.WordOp.TheVariants.{Add, Sub, Mul, And, Or, Xor, Not, Min, Max, Eq, Lt, Mux, Shl, Shr, Cast, SLt, SMin, SMax, Sar, SCast}
use Rattle.ae_word.specs.WordTable.{latency_of}
use Rattle.ae_sttype.specs.Moves.{column_delay, column_runs, columns_of, delay_of, runs_of}
use Rattle.ae_moves.specs.Origins.{IsMove, Move, move_latency, move_trips}
use Rattle.ae_moves.proofs.Words.{latency_small}
use Rattle.ae_delay.proofs.Small.{column_small, runs_few, sum_at_most}
use Rattle.ae_gather.specs.Gathers.{IsGather, Layouts, gather_part, move_of}

few_moves : (m : Move) → IsMove m → sum_by columns_of m.ins ≤ 16 → columns_of m.out ≤ 16 → (gather_part m).most_cells ≤ 20000000
few_moves m h few out =
    let d : ℕ = move_latency m in
    let ins : ℕ = sum_by columns_of m.ins in
    let kept : delay_of d ins (move_trips m) ≤ ins * 8191 = sum_at_most (λ q. column_delay d q (move_trips m)) 8191 0 ins (λ q. column_small m q h) in
    let run : runs_of d (columns_of m.out) (move_trips m) ≤ columns_of m.out * 16384 = sum_at_most (λ q. column_runs d q (move_trips m)) 16384 0
    (columns_of m.out) (λ q. runs_few m q h) in
    omega (arith, latency_small m h, kept, run)

pub gather_small : (found : Option Layouts) (m : Move) → (IsSome found ↔ IsGather m) → IfSome found (λ g. move_of g ≡ m)
    → sum_by columns_of m.ins ≤ 16 → columns_of m.out ≤ 16 → IfSome found (λ g. (gather_part (move_of g)).most_cells ≤ 20000000)
gather_small None m some is ins out = tt
gather_small (Some g) m some is ins out = subst (λ (x : Move). (gather_part x).most_cells ≤ 20000000) (sym is) (few_moves m (some.0 refl).move ins out)

pub word_small : (op : WordOp) → latency_of op ≤ 2
word_small Add = omega arith
word_small Sub = omega arith
word_small Mul = omega arith
word_small And = omega arith
word_small Or = omega arith
word_small Xor = omega arith
word_small Not = omega arith
word_small Min = omega arith
word_small Max = omega arith
word_small Eq = omega arith
word_small Lt = omega arith
word_small Mux = omega arith
word_small (Shl k) = omega arith
word_small (Shr k) = omega arith
word_small (Cast k) = omega arith
word_small SLt = omega arith
word_small SMin = omega arith
word_small SMax = omega arith
word_small (Sar k) = omega arith
word_small (SCast k) = omega arith
