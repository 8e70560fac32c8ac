-- A move from all parameters has small costs, however many columns they have.
use Rattle.std.proofs.Common.{ℕ, ◌*◌, ◌≤◌, sum_by, arith}
use Rattle.ae_sttype.specs.StTree.{time}
use Rattle.ae_sttype.specs.Moves.{column_delay, column_runs, columns_of, delay_of, is_held, runs_of}
use Rattle.ae_moves.specs.Origins.{IsMove, Move, move_latency, move_trips}
use Rattle.ae_moves.specs.Rings.{column_mems}
use Rattle.ae_moves.proofs.Words.{columns_small, latency_small}
use Rattle.ae_delay.specs.Moving.{costs_of_move}
use Rattle.ae_delay.proofs.Small.{sum_below, sum_at_most, column_small, runs_few, mems_le}

-- what is sure of such a move
pub record IsSmall (m : Move) : Type 0 where
  pub latency : move_latency m ≤ 4096
  pub delay : (costs_of_move m).delay ≤ 1073610752
  pub runs : (costs_of_move m).runs ≤ 268435456
  pub mems : (costs_of_move m).mems ≤ (costs_of_move m).delay

pub is-small : (m : Move) → IsMove m → sum_by columns_of m.ins ≤ 131072 → IsSmall m
is-small m h few =
    let d : ℕ = move_latency m in
    let ins : ℕ = sum_by columns_of m.ins in
    let kept : delay_of d ins (move_trips m) ≤ ins * 8191 = sum_at_most (λ q. column_delay d q (move_trips m)) 8191 0 ins (λ q. column_small m q h) in
    let run : runs_of d (columns_of m.out) (move_trips m) ≤ columns_of m.out * 16384 = sum_at_most (λ q. column_runs d q (move_trips m)) 16384 0
    (columns_of m.out) (λ q. runs_few m q h) in
    record {
      latency = latency_small m h;
      delay = omega (arith, kept);
      runs = omega (arith, run, columns_small m.out h.out);
      mems = sum_below (λ q. column_mems (time m.out) d q (move_trips m)) (λ q. column_delay d q (move_trips m)) 0 ins
          (λ q. mems_le (is_held (time m.out) d q (move_trips m)) (column_delay d q (move_trips m)));
    }
