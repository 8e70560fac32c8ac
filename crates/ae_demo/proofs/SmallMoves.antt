-- A move in few clocks and of few words costs little.
use Rattle.std.proofs.Common.{ℕ, suc, ◌≡◌, ◌+◌, ◌-◌, ◌*◌, ◌/◌, ◌<◌, ◌≤◌, Bool, true, false, cond, nat_eq, List, [], ◌∷◌, length, filter, sum_by, Some, slice_get, arith}
use Rattle.std.specs.Prelude.{unwrap_or}
use Rattle.std.proofs.lemmas.List.{length-map}
use Rattle.std.proofs.lemmas.List.FromFn.{length-map-range_with_len}
use Rattle.std.proofs.lemmas.Nat.{div_below}
use Rattle.ae_sttype.specs.StTree.{time, st_atoms, element_words}
use Rattle.ae_sttype.specs.Moves.{ChoiceTree, SourceTree, TripTree, place, constant, fixed, age_from, changes_after, choices_of, column_delay, column_runs, columns_of, lead_from, same_choice, slot_number, trip_number}
use Rattle.ae_sttype.proofs.Places.{slot_below}
use Rattle.ae_moves.specs.Origins.{IsMove, Move, move_latency, move_trips}
use Rattle.ae_moves.proofs.Words.{lead_le, origin_at, source_lead, words_pos}
use Rattle.ae_delay.specs.Moving.{costs_of_move}
use Rattle.ae_delay.proofs.Sourced.{numbered}
use Rattle.ae_delay.proofs.Small.{sum_at_most as most_each, stretches_few as runs_in, filter_few as filtered}

-- no later than its clocks, with ages of at most twice as many, and no more runs in a column than words
pub record IsLight (clocks words : ℕ) (m : Move) : Type 0 where
  pub latency : (costs_of_move m).latency ≤ clocks
  pub delay : (costs_of_move m).delay ≤ sum_by columns_of m.ins * (2 * clocks)
  pub runs : (costs_of_move m).runs ≤ columns_of m.out * words

-- ---- when words are taken

late : (m : Move) → IsMove m → move_latency m ≤ time m.out
late m h =
    lead_le (λ (t : TripTree). lead_from t.clock t.source) 0 (time m.out) (move_trips m) (omega arith) (λ t n f.
    let x = numbered (trip_number m.ins m.out m.origins) (st_atoms m.out * element_words m.out) n t f in
    let o = origin_at m n h x.0 in
    rw (← x.1) (source_lead m (slot_number m.out (n / element_words m.out)).clock o.0 (unwrap_or (slice_get m.origins n) (fixed 0)) h o.2))

age_few : (d q c clocks : ℕ) (s : SourceTree) → d ≤ clocks → c < clocks → age_from d q c s ≤ 2 * clocks
age_few d q c clocks (place k p) h l = aged (nat_eq p q) (c + d - k) (omega arith)
  where
    aged : (b : Bool) (age : ℕ) → age ≤ 2 * clocks → cond b age 0 ≤ 2 * clocks
    aged true age h = h
    aged false age h = omega arith
age_few d q c clocks (constant w) h l = omega arith

clock_in : (m : Move) → IsMove m → (n : ℕ) (t : TripTree) → slice_get (move_trips m) n ≡ Some t → t.clock < time m.out
clock_in m h n t f =
    let x = numbered (trip_number m.ins m.out m.origins) (st_atoms m.out * element_words m.out) n t f in
    let en : n / element_words m.out < st_atoms m.out = div_below n (element_words m.out) (st_atoms m.out) (words_pos m.out) x.0 in
    rw (← x.1) (slot_below m.out h.out.lengths (n / element_words m.out) en).0

kept : (m : Move) (q : ℕ) → IsMove m → column_delay (move_latency m) q (move_trips m) ≤ 2 * time m.out
kept m q h =
    lead_le (λ (t : TripTree). age_from (move_latency m) q t.clock t.source) 0 (2 * time m.out) (move_trips m) (omega arith)
    (λ t n f. age_few (move_latency m) q t.clock (time m.out) t.source (late m h) (clock_in m h n t f))

-- ---- how often neighbours differ

changes : (x : ChoiceTree) (ys : List ChoiceTree) → changes_after same_choice x ys ≤ length ys
changes x [] = omega arith
changes x (y ∷ ys) = one_more (same_choice x y) (changes_after same_choice y ys) (length ys) (changes y ys)
  where
    one_more : (b : Bool) (n m : ℕ) → n ≤ m → n + cond b 0 1 ≤ suc m
    one_more true n m h = omega arith
    one_more false n m h = omega arith

runs : (m : Move) (q : ℕ) → column_runs (move_latency m) q (move_trips m) ≤ st_atoms m.out * element_words m.out
runs m q =
    let all : ℕ = st_atoms m.out * element_words m.out in
    let long : length (move_trips m) ≡ all = length-map-range_with_len (trip_number m.ins m.out m.origins) 0 all in
    let some : length (choices_of (move_latency m) q (move_trips m)) ≡ length (filter (λ (t : TripTree). nat_eq t.column q) (move_trips m)) = length-map
    (filter (λ (t : TripTree). nat_eq t.column q) (move_trips m)) _ in
    omega (arith, runs_in (choices_of (move_latency m) q (move_trips m)), some, filtered (λ (t : TripTree). nat_eq t.column q) (move_trips m), long)

pub light_move : (m : Move) → IsMove m → IsLight (time m.out) (st_atoms m.out * element_words m.out) m
light_move m h = record {
  latency = late m h;
  delay = most_each (λ q. column_delay (move_latency m) q (move_trips m)) (2 * time m.out) 0 (sum_by columns_of m.ins) (λ q. kept m q h);
  runs = most_each (λ q. column_runs (move_latency m) q (move_trips m)) (st_atoms m.out * element_words m.out) 0 (columns_of m.out) (λ q. runs m q);
}
