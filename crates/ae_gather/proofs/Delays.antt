-- How old the words are that the lines keep, and how many taps there are.
use Rattle.std.proofs.Common.{ℕ, suc, ◌≡◌, ◌+◌, ◌-◌, ◌*◌, ◌<◌, ◌≤◌, max, min, fold, count_by, nat_lt, inl, inr, List, ◌∷◌, ◌++◌, [], length, map, set, sum_by, Some, slice_get, get_or, arith, refl, sym, ap}
use Rattle.std.specs.List.{range_with_len}
use Rattle.std.proofs.lemmas.List.{length_push}
use Rattle.std.proofs.lemmas.List.Sums.{count_by-le-length, sum_by-cons, sum_by-set}
use Rattle.std.proofs.lemmas.Bool.{cases_eq, eq-eqb}
use Rattle.std.proofs.lemmas.Option.{slice_get_within, get_or_from_slice_get}
use Rattle.ae_netlist.proofs.Gets.{get_push_cases}
use Rattle.ae_clocked.specs.Delays.{greatest_of, line_cells}
use Rattle.ae_sttype.specs.Moves.{TripTree, age_from, column_delay, delay_of}
use Rattle.ae_moves.specs.declared.trip.Source.{Source}
use Rattle.ae_moves.specs.declared.trip.Source.TheVariants.{Place, Fixed}
use Rattle.ae_moves.specs.declared.trip.Choice.{Choice}
use Rattle.ae_moves.specs.declared.trip.Choice.TheVariants.{Delayed, Constant}
use Rattle.ae_moves.specs.declared.trip.Trip.{Trip}
use Rattle.ae_columns.specs.declared.steps.Step.{Step}
use Rattle.ae_columns.specs.Plans.{IsIn, IsInLines, choice_from, choice_of, demanded, steps_cells}
use Rattle.ae_moves.specs.Trees.{source_tree, trip_tree}
use Rattle.ae_moves.proofs.Lists.{get_mapped, from_first, fold_ge}
use Rattle.ae_gather.proofs.Planning.{get_set_cases}

-- an age of a column's line is that of a trip
pub record AgeOf (d : ℕ) (trips : List Trip) (q age : ℕ) : Type 0 where
  pub n : ℕ
  pub trip : Trip
  pub found : slice_get trips n ≡ Some trip
  pub take : choice_of d trip ≡ Delayed q age

pub record AreAges (d : ℕ) (trips : List Trip) (lines : List (List ℕ)) : Type 0 where
  pub each : (q j age : ℕ) (ages : List ℕ) → slice_get lines q ≡ Some ages → slice_get ages j ≡ Some age → AgeOf d trips q age

pub ages_none : (d : ℕ) (trips : List Trip) (lines : List (List ℕ)) → ((q : ℕ) (ages : List ℕ) → slice_get lines q ≡ Some ages → ages ≡ [])
    → AreAges d trips lines
ages_none d trips lines none =
    record {
      each = λ q j age ages f g. (let e : ages ≡ [] = none q ages f in let h : slice_get [] j ≡ Some age = rw e at g in
          let i : j < 0 = slice_get_within [] j age h in absurd (omega arith));
    }

ages_by : (d i tap : ℕ) (trips : List Trip) (old new : List (List ℕ)) (t : Trip) (choice : Choice) → choice_of d t ≡ choice → slice_get trips i ≡ Some t
    → demanded old choice new tap → AreAges d trips old → AreAges d trips new
ages_by d i tap trips old new t (Delayed column late) is at asked h = record {
  each = λ q j age ages f g. elim (get_set_cases old column q (asked.0 ++ late ∷ []) asked.0 ages asked.1 (rw asked.2 at f)) [
    | inl e ↦ elim (get_push_cases asked.0 late j age (rw (sym e.1) at g)) [
      | inl v ↦ h.each q j age asked.0 (rw e.0 asked.1) v.0
      | inr v ↦ record { n = i; trip = t; found = at; take = rw (e.0, ← v.1) is }
    ]
    | inr e ↦ h.each q j age ages e.1 g
  ];
}
ages_by d i tap trips old new t (Constant w) is at asked h = rw asked h

-- one trip more
pub ages_more : (d i tap : ℕ) (trips : List Trip) (old new : List (List ℕ)) (t : Trip) → slice_get trips i ≡ Some t → demanded old (choice_of d t) new tap
    → AreAges d trips old → AreAges d trips new
ages_more d i tap trips old new t at asked h = ages_by d i tap trips old new t (choice_of d t) refl at asked h

-- ---- the greatest of a list

max_le : (a m : ℕ) (xs : List ℕ) → a ≤ m → ((j x : ℕ) → slice_get xs j ≡ Some x → x ≤ m) → fold max a xs ≤ m
max_le a m [] l h = l
max_le a m (x ∷ xs) l h = let here : x ≤ m = h 0 x refl in max_le (max a x) m xs (omega arith) (λ j y f. h (suc j) y f)

age_is : (d c q age : ℕ) (s : Source) → choice_from d c s ≡ Delayed q age → age_from d q c (source_tree s) ≡ age
age_is d c q age (Place k p) e = let a : p ≡ q = cc in let b : c + d - k ≡ age = cc in rw (eq-eqb p q a) b
age_is d c q age (Fixed w) e = cc

pub column_le : (d q : ℕ) (trips : List Trip) (ages : List ℕ) → ((j age : ℕ) → slice_get ages j ≡ Some age → AgeOf d trips q age)
    → greatest_of ages ≤ column_delay d q (map trip_tree trips)
column_le d q trips ages h = max_le 0 (column_delay d q (map trip_tree trips)) ages (omega arith) (λ j age f.
    let a = h j age f in
    let l = fold_ge (λ (t : TripTree). age_from d q t.clock t.source) 0 (map trip_tree trips) a.n (trip_tree a.trip)
    (get_mapped trip_tree trips a.n a.trip a.found) in
    let e : age_from d q a.trip.clock (source_tree a.trip.source) ≡ age = age_is d a.trip.clock q age a.trip.source a.take in
    rw (← e) l)

-- ---- sums

pub sum_le : {X : Type 0} (f : X → ℕ) (g : ℕ → ℕ) (a : ℕ) (xs : List X) → ((q : ℕ) (x : X) → slice_get xs q ≡ Some x → f x ≤ g (a + q))
    → sum_by f xs ≤ sum_by g (range_with_len a (length xs))
sum_le f g a [] h = omega arith
sum_le f g a (x ∷ xs) h =
    let z : a + 0 ≡ a = omega arith in
    let here : f x ≤ g a = rw z at (h 0 x refl) in
    let rest : sum_by f xs ≤ sum_by g (range_with_len (a + 1) (length xs)) =
    sum_le f g (a + 1) xs (λ q y e. (let s : a + suc q ≡ a + 1 + q = omega arith in rw s at (h (suc q) y e))) in
    omega (arith, sum_by-cons f x xs, sum_by-cons g a (range_with_len (a + 1) (length xs)))

-- the lines keep no more words than the trips' ages tell
pub delay_le : (d ins : ℕ) (trips : List Trip) (lines : List (List ℕ)) → length lines ≡ ins → AreAges d trips lines
    → sum_by greatest_of lines ≤ delay_of d ins (map trip_tree trips)
delay_le d ins trips lines long h =
    let l = sum_le greatest_of (λ q. column_delay d q (map trip_tree trips)) 0 lines
    (λ q ages f. (let z : 0 + q ≡ q = omega arith in rw z (column_le d q trips ages (λ j age g. h.each q j age ages f g)))) in
    rw (← long) l

pub push_sum : {X : Type 0} (xs : List (List X)) (i : ℕ) (ys : List X) (z : X) → slice_get xs i ≡ Some ys
    → sum_by length (set xs i (ys ++ z ∷ [])) ≡ sum_by length xs + 1
push_sum xs i ys z found =
    let l : i < length xs = slice_get_within xs i ys found in
    let e : get_or xs i [] ≡ ys = get_or_from_slice_get xs i ys [] found in
    let s = sum_by-set length xs i (ys ++ z ∷ []) [] l in
    let n : length (ys ++ z ∷ []) ≡ length ys + 1 = length_push ys z in
    let m : length (get_or xs i []) ≡ length ys = ap length e in
    omega arith

-- each step brings at most one tap
pub taps_more : (old new : List (List ℕ)) (choice : Choice) (tap q : ℕ) (columns : List (List Step)) (steps : List Step) (step : Step)
    → demanded old choice new tap → slice_get columns q ≡ Some steps
    → sum_by length old ≤ sum_by length columns → sum_by length new ≤ sum_by length (set columns q (steps ++ step ∷ []))
taps_more old new (Delayed column age) tap q columns steps step asked at h =
    let a : sum_by length (set old column (asked.0 ++ age ∷ [])) ≡ sum_by length old + 1 = push_sum old column asked.0 age asked.1 in
    let b : sum_by length (set columns q (steps ++ step ∷ [])) ≡ sum_by length columns + 1 = push_sum columns q steps step at in
    rw asked.2 (omega arith)
taps_more old new (Constant w) tap q columns steps step asked at h =
    let b : sum_by length (set columns q (steps ++ step ∷ [])) ≡ sum_by length columns + 1 = push_sum columns q steps step at in
    rw asked (omega arith)

pub none_sum : {X : Type 0} (xs : List (List X)) → ((q : ℕ) (x : List X) → slice_get xs q ≡ Some x → x ≡ []) → sum_by length xs ≡ 0
none_sum [] h = refl
none_sum (x ∷ xs) h =
    let e : x ≡ [] = h 0 x refl in let l : length x ≡ 0 = ap length e in let r : sum_by length xs ≡ 0 = none_sum xs (λ q y f. h (suc q) y f) in
    omega (arith, sum_by-cons length x xs)

-- ---- cells

late_none : (m : ℕ) (taps : List ℕ) → fold max m taps ≡ 0 → count_by (λ tap. nat_lt 0 tap) taps ≡ 0
late_none m [] h = refl
late_none m (t ∷ taps) h =
    let r : count_by (λ tap. nat_lt 0 tap) taps ≡ 0 = late_none (max m t) taps h in
    let l : max m t ≤ fold max (max m t) taps = from_first (λ x. x) (max m t) taps in
    let z : t ≡ 0 = omega arith in
    rw z r

line_none : (taps : List ℕ) → greatest_of taps ≡ 0 → line_cells taps ≡ 0
line_none taps h = let c : count_by (λ tap. nat_lt 0 tap) taps ≡ 0 = late_none 0 taps h in omega arith

pub lines_cells : (lines : List (List ℕ)) → sum_by line_cells lines ≤ 8 * sum_by greatest_of lines + 4 * sum_by length lines
lines_cells [] = omega arith
lines_cells (taps ∷ lines) =
    omega (
      arith,
      lines_cells lines,
      count_by-le-length (λ tap. nat_lt 0 tap) taps,
      sum_by-cons line_cells taps lines,
      sum_by-cons greatest_of taps lines,
      sum_by-cons length taps lines,
    )

pub lines_none : (lines : List (List ℕ)) → sum_by greatest_of lines ≡ 0 → sum_by line_cells lines ≡ 0
lines_none [] h = refl
lines_none (taps ∷ lines) h =
    let here : line_cells taps ≡ 0 = line_none taps (omega (arith, sum_by-cons greatest_of taps lines)) in
    let rest : sum_by line_cells lines ≡ 0 = lines_none lines (omega (arith, sum_by-cons greatest_of taps lines)) in
    omega (arith, sum_by-cons line_cells taps lines)

columns_cells : (columns : List (List Step)) → ((q : ℕ) (steps : List Step) → slice_get columns q ≡ Some steps → 1 ≤ length steps)
    → sum_by steps_cells columns + 10 * length columns ≡ 11 * sum_by length columns
columns_cells [] h = refl
columns_cells (s ∷ columns) h =
    let here : 1 ≤ length s = h 0 s refl in let rest = columns_cells columns (λ q y f. h (suc q) y f) in
    omega (arith, sum_by-cons steps_cells s columns, sum_by-cons length s columns)

columns_least : (columns : List (List Step)) → ((q : ℕ) (steps : List Step) → slice_get columns q ≡ Some steps → 1 ≤ length steps)
    → length columns ≤ sum_by length columns
columns_least [] h = omega arith
columns_least (s ∷ columns) h =
    let here : 1 ≤ length s = h 0 s refl in let rest = columns_least columns (λ q y f. h (suc q) y f) in omega (arith, sum_by-cons length s columns)

-- all cells of a gather are within its bound: one counter or two, the lines, the choices, and three for each register in front of which is chosen
pub gather_cells : (d delay runs : ℕ) (lines : List (List ℕ)) (columns : List (List Step)) → sum_by greatest_of lines ≤ delay
    → sum_by length lines ≤ sum_by length columns → sum_by length columns ≤ runs
    → 1 ≤ length columns → ((q : ℕ) (steps : List Step) → slice_get columns q ≡ Some steps → 1 ≤ length steps)
    → 12 * min 2 (length columns) + sum_by line_cells lines + sum_by steps_cells columns + 3 * length columns ≤ 16 * (d + delay + runs)
gather_cells d delay runs lines columns ages taps all some begun =
    let c : sum_by steps_cells columns + 10 * length columns ≡ 11 * sum_by length columns = columns_cells columns begun in
    let each : length columns ≤ sum_by length columns = columns_least columns begun in
    elim (cases_eq (sum_by greatest_of lines) 0) [
      | inl e ↦ (let z : sum_by line_cells lines ≡ 0 = lines_none lines e in omega arith)
      | inr ne ↦ (let z : sum_by line_cells lines ≤ 8 * sum_by greatest_of lines + 4 * sum_by length lines = lines_cells lines in omega arith)
    ]

pub in_lines : (d i ins c : ℕ) (lines : List (List ℕ)) (s : Source) → IsIn ins s → length lines ≡ ins → i < 4294967295
    → ((q : ℕ) (ages : List ℕ) → slice_get lines q ≡ Some ages → length ages ≤ i) → IsInLines lines (choice_from d c s)
in_lines d i ins c lines (Place k q) inside long small few = (omega arith, λ ages f. (let l : length ages ≤ i = few q ages f in omega arith))
in_lines d i ins c lines (Fixed w) inside long small few = tt
