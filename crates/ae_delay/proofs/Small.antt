-- A move of few words has small costs, and its trips lie where they should.
use Rattle.std.proofs.Common.{ℕ, zero, suc, ◌≡◌, ◌+◌, ◌-◌, ◌*◌, ◌/◌, ◌%◌, ◌<◌, ◌≤◌, Bool, true, false, cond, nat_eq, All, List, [], ◌∷◌, length, map, filter, sum_by, Some, slice_get, get_or, arith, ap}
use Rattle.std.specs.List.{range_with_len}
use Rattle.std.proofs.lemmas.List.{length-map}
use Rattle.std.proofs.lemmas.List.Sums.{length-filter, count_by-le-length, sum_by-cons}
use Rattle.std.proofs.lemmas.List.FromFn.{length-map-range_with_len}
use Rattle.std.proofs.lemmas.List.Elements.{All-from_get_or}
use Rattle.std.proofs.lemmas.Nat.{div_below, mod_below}
use Rattle.std.proofs.lemmas.Option.{slice_get-get_or}
use Rattle.std.specs.Prelude.{unwrap_or}
use Rattle.ae_sttype.specs.StTree.{time, st_atoms, element_words}
use Rattle.ae_sttype.specs.Moves.{ChoiceTree, SourceTree, TripTree, place, constant, fixed, age_from, changes_after, choices_of, column_delay, column_runs, columns_of, delay_of, is_held, lead_from, runs_of, same_choice, stretches, trip_number, IsReached}
use Rattle.ae_sttype.proofs.Places.{slot_below}
use Rattle.ae_moves.specs.declared.trip.Trip.{Trip}
use Rattle.ae_moves.specs.declared.trip.Source.TheVariants.{Fixed}
use Rattle.ae_moves.specs.Trees.{trip_tree}
use Rattle.ae_moves.specs.Trips.{IsWithin}
use Rattle.ae_moves.specs.Origins.{IsMove, Move, move_latency, move_trips}
use Rattle.ae_moves.specs.Rings.{column_mems, mems_of, rings}
use Rattle.ae_moves.proofs.Lists.{fold_ge, get_mapped}
use Rattle.ae_moves.proofs.Words.{InTree, column_below, columns_small, latency_small, lead_le, origin_at, origin_in, sizes_of, trip_at, words_pos}
use Rattle.ae_delay.specs.declared.moves.MoveCosts.{MoveCosts}
use Rattle.ae_delay.specs.Bounds.{AreSmall}
use Rattle.ae_delay.specs.Moving.{costs_of_move}
use Rattle.ae_delay.proofs.Sourced.{numbered}
use Rattle.ae_delay.proofs.Owned.{rings_le}

-- ---- the trips of a move are within its columns and its latency

reached_by : (d ins c : ℕ) (s : SourceTree) → InTree ins s → lead_from c s ≤ d → IsReached d ins c s
reached_by d ins c (place k q) h l = (h, omega arith)
reached_by d ins c (constant w) h l = tt

pub trips_within : (m : Move) (trips : List Trip) (d ins outs : ℕ) → d ≡ move_latency m → ins ≡ sum_by columns_of m.ins → outs ≡ columns_of m.out → IsMove m
    → map trip_tree trips ≡ move_trips m → All (λ t. IsWithin d ins outs (trip_tree t)) trips
trips_within m trips d ins outs ed ei eo h e =
    All-from_get_or (λ t. IsWithin d ins outs (trip_tree t)) trips (record { clock = 0; column = 0; source = Fixed 0 }) (λ n l.
    let t : Trip = get_or trips n (record { clock = 0; column = 0; source = Fixed 0 }) in
    let f : slice_get trips n ≡ Some t = slice_get-get_or trips n (record { clock = 0; column = 0; source = Fixed 0 }) l in
    let x = trip_at m.ins m.out m.origins trips e n t f in
    let en : n / element_words m.out < st_atoms m.out = div_below n (element_words m.out) (st_atoms m.out) (words_pos m.out) x.0 in
    let o = origin_at m n h x.0 in
    let clock : (trip_tree t).clock < time m.out = rw (ap (λ (v : TripTree). v.clock) x.1) (slot_below m.out h.out.lengths (n / element_words m.out) en).0 in
    let column : (trip_tree t).column < columns_of m.out = rw (ap (λ (v : TripTree). v.column) x.1)
    (column_below m.out h.out (n / element_words m.out) (n % element_words m.out) en (mod_below n (element_words m.out) (words_pos m.out))) in
    let within : InTree (sum_by columns_of m.ins) (trip_tree t).source = rw (ap (λ (v : TripTree). v.source) x.1)
    (origin_in m.ins o.0 (unwrap_or (slice_get m.origins n) (fixed 0)) (sizes_of m h) o.2) in
    let lead : lead_from (trip_tree t).clock (trip_tree t).source ≤ move_latency m = rw e at
    (fold_ge (λ (v : TripTree). lead_from v.clock v.source) 0 (map trip_tree trips) n (trip_tree t) (get_mapped trip_tree trips n t f)) in
    rw (ed, ei, eo) (record {
      clock_in = omega (arith, h.out.in_time);
      column_in = column;
      reached = reached_by (move_latency m) (sum_by columns_of m.ins) (trip_tree t).clock (trip_tree t).source within lead;
    }))

-- ---- sums over columns

pub sum_at_most : (f : ℕ → ℕ) (most a n : ℕ) → ((q : ℕ) → f q ≤ most) → sum_by f (range_with_len a n) ≤ n * most
sum_at_most f most a zero h = omega arith
sum_at_most f most a (suc n) h = omega (arith, sum_by-cons f a (range_with_len (a + 1) n), sum_at_most f most (a + 1) n h, h a)

pub sum_below : (f g : ℕ → ℕ) (a n : ℕ) → ((q : ℕ) → f q ≤ g q) → sum_by f (range_with_len a n) ≤ sum_by g (range_with_len a n)
sum_below f g a zero h = omega arith
sum_below f g a (suc n) h =
    omega (arith, sum_by-cons f a (range_with_len (a + 1) n), sum_by-cons g a (range_with_len (a + 1) n), sum_below f g (a + 1) n h, h a)

-- ---- the words that are kept

pub age_small : (d q c : ℕ) (s : SourceTree) → d ≤ 4096 → c < 4096 → age_from d q c s ≤ 8191
age_small d q c (place k p) h l = aged (nat_eq p q) (c + d - k) (omega arith)
  where
    aged : (b : Bool) (age : ℕ) → age ≤ 8191 → cond b age 0 ≤ 8191
    aged true age h = h
    aged false age h = omega arith
age_small d q c (constant w) h l = omega arith

pub changes_few : (same : ChoiceTree → ChoiceTree → Bool) (x : ChoiceTree) (ys : List ChoiceTree) → changes_after same x ys ≤ length ys
changes_few same x [] = omega arith
changes_few same x (y ∷ ys) = let r = changes_few same y ys in one_more (same x y) (changes_after same y ys) (length ys) r
  where
    one_more : (b : Bool) (n m : ℕ) → n ≤ m → n + cond b 0 1 ≤ suc m
    one_more true n m h = omega arith
    one_more false n m h = omega arith

pub stretches_few : (xs : List ChoiceTree) → stretches same_choice xs ≤ length xs
stretches_few [] = omega arith
stretches_few (x ∷ xs) = omega (arith, changes_few same_choice x xs)

pub filter_few : {X : Type 0} (p : X → Bool) (xs : List X) → length (filter p xs) ≤ length xs
filter_few p xs = rw length-filter (count_by-le-length p xs)

pub clock_small : (m : Move) → IsMove m → (n : ℕ) (t : TripTree) → slice_get (move_trips m) n ≡ Some t → t.clock < 4096
clock_small m h n t f =
    let x = numbered (trip_number m.ins m.out m.origins) (st_atoms m.out * element_words m.out) n t f in
    let en : n / element_words m.out < st_atoms m.out = div_below n (element_words m.out) (st_atoms m.out) (words_pos m.out) x.0 in
    let below : (trip_number m.ins m.out m.origins n).clock < time m.out = (slot_below m.out h.out.lengths (n / element_words m.out) en).0 in
    rw (← x.1) (omega (arith, h.out.in_time, below))

pub column_small : (m : Move) (q : ℕ) → IsMove m → column_delay (move_latency m) q (move_trips m) ≤ 8191
column_small m q h =
    lead_le (λ (t : TripTree). age_from (move_latency m) q t.clock t.source) 0 8191 (move_trips m) (omega arith)
    (λ t n f. age_small (move_latency m) q t.clock t.source (latency_small m h) (clock_small m h n t f))

pub runs_few : (m : Move) (q : ℕ) → IsMove m → column_runs (move_latency m) q (move_trips m) ≤ 16384
runs_few m q h =
    let all : ℕ = st_atoms m.out * element_words m.out in
    let long : length (move_trips m) ≡ all = length-map-range_with_len (trip_number m.ins m.out m.origins) 0 all in
    let some : length (choices_of (move_latency m) q (move_trips m)) ≡ length (filter (λ (t : TripTree). nat_eq t.column q) (move_trips m)) = length-map
    (filter (λ (t : TripTree). nat_eq t.column q) (move_trips m)) _ in
    omega (
      arith,
      stretches_few (choices_of (move_latency m) q (move_trips m)),
      some,
      filter_few (λ (t : TripTree). nat_eq t.column q) (move_trips m),
      long,
      h.out.in_words,
    )

-- ---- memories

pub mems_le : (b : Bool) (age : ℕ) → cond b 0 (rings age) ≤ age
mems_le true age = omega arith
mems_le false age = rings_le age

column_mems_le : (period d q : ℕ) (trips : List TripTree) → column_mems period d q trips ≤ column_delay d q trips
column_mems_le period d q trips = mems_le (is_held period d q trips) (column_delay d q trips)

pub small_move : (m : Move) → IsMove m → sum_by columns_of m.ins ≤ 16384 → AreSmall (costs_of_move m)
small_move m h few =
    let d : ℕ = move_latency m in
    let ins : ℕ = sum_by columns_of m.ins in
    let kept : delay_of d ins (move_trips m) ≤ ins * 8191 = sum_at_most (λ q. column_delay d q (move_trips m)) 8191 0 ins (λ q. column_small m q h) in
    let run : runs_of d (columns_of m.out) (move_trips m) ≤ columns_of m.out * 16384 = sum_at_most (λ q. column_runs d q (move_trips m)) 16384 0
    (columns_of m.out) (λ q. runs_few m q h) in
    record {
      latency = latency_small m h;
      delay = omega (arith, kept);
      runs = omega (arith, run, columns_small m.out h.out);
      mems = sum_below (λ q. column_mems (time m.out) d q (move_trips m)) (λ q. column_delay d q (move_trips m)) 0 ins
          (λ q. column_mems_le (time m.out) d q (move_trips m));
    }

abbrev pub four : (latency delay runs mems : ℕ) → MoveCosts
four a b c d = record { latency = a; delay = b; runs = c; mems = d }

pub costs_small : (m : Move) (trips : List Trip) (d ins outs period delay runs mems : ℕ) → IsMove m → ins ≤ 16384 → d ≡ move_latency m
    → ins ≡ sum_by columns_of m.ins → outs ≡ columns_of m.out → period ≡ time m.out → map trip_tree trips ≡ move_trips m
    → delay ≡ delay_of d ins (map trip_tree trips) → runs ≡ runs_of d outs (map trip_tree trips) → mems ≡ mems_of period d ins (map trip_tree trips)
    → AreSmall (four d delay runs mems)
costs_small m trips d ins outs period delay runs mems h few ed ei eo ep et e1 e2 e3 =
    let x = small_move m h (omega (arith, few, ei)) in
    let delays : delay ≡ (costs_of_move m).delay = rw (← ed, ← ei, ← et) e1 in
    let run : runs ≡ (costs_of_move m).runs = rw (← ed, ← eo, ← et) e2 in
    let mem : mems ≡ (costs_of_move m).mems = rw (← ep, ← ed, ← ei, ← et) e3 in
    record {
      latency = omega (arith, x.latency, ed);
      delay = omega (arith, x.delay, delays);
      runs = omega (arith, x.runs, run);
      mems = omega (arith, x.mems, mem, delays);
    }
