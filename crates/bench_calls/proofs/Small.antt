-- A move of four columns to four columns takes few cells.
use Rattle.std.proofs.Common.{ℕ, zero, suc, ◌≡◌, ◌+◌, ◌-◌, ◌*◌, ◌/◌, ◌<◌, ◌≤◌, Bool, true, false, cond, nat_eq, max, fold, List, [], ◌∷◌, length, filter, map, sum_by, arith, ap, ◌∙◌}
use Rattle.std.specs.List.{range_with_len}
use Rattle.std.proofs.lemmas.List.{length-map}
use Rattle.std.proofs.lemmas.List.Sums.{length-filter, count_by-le-length, sum_by-cons}
use Rattle.std.proofs.lemmas.List.FromFn.{length-map-range_with_len}
use Rattle.std.proofs.lemmas.Nat.{div_below}
use Rattle.ae_word.specs.AtomTree.{unsigned_word}
use Rattle.ae_sttype.specs.StTree.{StTree, atom, sseq, tseq, time, st_atoms, element_words}
use Rattle.ae_sttype.specs.Size.{IsInSize}
use Rattle.ae_sttype.specs.Moves.{ChoiceTree, OriginTree, SourceTree, TripTree, place, constant, age_from, changes_after, choices_of, column_delay, column_runs, columns_of, delay_of, runs_of, same_choice, stretches, trip_number, trips_of}
use Rattle.ae_sttype.proofs.Bounds.{element_words_pos}
use Rattle.ae_sttype.proofs.Places.{slot_below}
use Rattle.ae_gather.specs.Gathers.{IsGather, Layouts, gather_part, move_of}

sum_at_most : (f : ℕ → ℕ) (most a n : ℕ) → ((q : ℕ) → f q ≤ most) → sum_by f (range_with_len a n) ≤ n * most
sum_at_most f most a zero h = omega arith
sum_at_most f most a (suc n) h = omega (arith, sum_by-cons f a (range_with_len (a + 1) n), sum_at_most f most (a + 1) n h, h a)

age_small : (d q c : ℕ) (s : SourceTree) → d ≤ 4096 → c < 4096 → age_from d q c s ≤ 8191
age_small d q c (place k p) h l = aged (nat_eq p q) (c + d - k) (omega arith)
  where
    aged : (b : Bool) (age : ℕ) → age ≤ 8191 → cond b age 0 ≤ 8191
    aged true age h = h
    aged false age h = omega arith
age_small d q c (constant w) h l = omega arith

changes_few : (x : ChoiceTree) (ys : List ChoiceTree) → changes_after same_choice x ys ≤ length ys
changes_few x [] = omega arith
changes_few x (y ∷ ys) = one_more (same_choice x y) (changes_after same_choice y ys) (length ys) (changes_few y ys)
  where
    one_more : (b : Bool) (n m : ℕ) → n ≤ m → n + cond b 0 1 ≤ suc m
    one_more true n m h = omega arith
    one_more false n m h = omega arith

stretches_few : (xs : List ChoiceTree) → stretches same_choice xs ≤ length xs
stretches_few [] = omega arith
stretches_few (x ∷ xs) = omega (arith, changes_few x xs)

ages_few : (d q : ℕ) (f : ℕ → TripTree) (a n : ℕ) (most : ℕ) → d ≤ 4096 → most ≤ 8191 → ((k : ℕ) → k < a + n → (f k).clock < 4096)
    → fold (λ most (t : TripTree). max most (age_from d q t.clock t.source)) most (map f (range_with_len a n)) ≤ 8191
ages_few d q f a zero most l m h = m
ages_few d q f a (suc n) most l m h =
    let here : age_from d q (f a).clock (f a).source ≤ 8191 = age_small d q (f a).clock (f a).source l (h a (omega arith)) in
    ages_few d q f (a + 1) n (max most (age_from d q (f a).clock (f a).source)) l (omega arith) (λ k b. h k (omega arith))

clock_small : (ins : List StTree) (out : StTree) (origins : List OriginTree) (n : ℕ) → IsInSize out → n < st_atoms out * element_words out
    → (trip_number ins out origins n).clock < 4096
clock_small ins out origins n h l =
    let en : n / element_words out < st_atoms out = div_below n (element_words out) (st_atoms out) (element_words_pos out) l in
    let below : (trip_number ins out origins n).clock < time out = (slot_below out h.lengths (n / element_words out) en).0 in
    omega (arith, h.in_time, below)

column_small : (ins : List StTree) (out : StTree) (origins : List OriginTree) (d q : ℕ) → IsInSize out → d ≤ 4096
    → column_delay d q (trips_of ins out origins) ≤ 8191
column_small ins out origins d q h l =
    ages_few d q (trip_number ins out origins) 0 (st_atoms out * element_words out) 0 l (omega arith)
    (λ k b. clock_small ins out origins k h (omega (arith, b)))

runs_few : (ins : List StTree) (out : StTree) (origins : List OriginTree) (d q : ℕ) → IsInSize out → column_runs d q (trips_of ins out origins) ≤ 16384
runs_few ins out origins d q h =
    let trips : List TripTree = trips_of ins out origins in
    let long : length trips ≡ st_atoms out * element_words out = length-map-range_with_len (trip_number ins out origins) 0 (st_atoms out * element_words out) in
    let own : List TripTree = filter (λ (t : TripTree). nat_eq t.column q) trips in
    let some : length (choices_of d q trips) ≡ length own = length-map own _ in
    let few : length own ≤ length trips = rw length-filter (count_by-le-length (λ (t : TripTree). nat_eq t.column q) trips) in
    omega (arith, stretches_few (choices_of d q trips), some, few, long, h.in_words)

-- 16 for each of 4096 clocks, of the words that 4 columns keep, at most 8191 each, and of the runs of 4 others, at most 16384 each
pub few_cells : (l : Layouts) (n : ℕ) → IsGather (move_of l) → (gather_part (move_of l)).latency ≤ 4096
    → (move_of l).ins ≡ tseq n 0 (sseq 4 (atom (unsigned_word 16))) ∷ [] → columns_of (move_of l).out ≡ 4
    → (gather_part (move_of l)).most_cells ≤ 1638336
few_cells l n g late em eo =
    let ins : List StTree = (move_of l).ins in
    let out : StTree = (move_of l).out in
    let d : ℕ = (gather_part (move_of l)).latency in
    let trips : List TripTree = trips_of ins out l.origins in
    let four : sum_by columns_of (tseq n 0 (sseq 4 (atom (unsigned_word 16))) ∷ []) ≡ 4 = omega arith in
    let wide : sum_by columns_of ins ≡ 4 = ap (sum_by columns_of) em ∙ four in
    let kept : delay_of d (sum_by columns_of ins) trips ≤ sum_by columns_of ins * 8191 = sum_at_most (λ q. column_delay d q trips) 8191 0
    (sum_by columns_of ins) (λ q. column_small ins out l.origins d q g.move.out late) in
    let run : runs_of d (columns_of out) trips ≤ columns_of out * 16384 = sum_at_most (λ q. column_runs d q trips) 16384 0
    (columns_of out) (λ q. runs_few ins out l.origins d q g.move.out) in
    omega (arith, late, kept, run, wide, eo)
