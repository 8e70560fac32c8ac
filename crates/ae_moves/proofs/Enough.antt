-- The latency of a move is enough for each trip, and no more than any number that is.
use Rattle.std.proofs.Common.{◌≡◌, ℕ, zero, suc, ◌<◌, ◌≤◌, List, [], ◌∷◌, length, take, get_or, refl, ap, arith, inl, inr, add-one, All}
use Rattle.std.proofs.lemmas.Bool.{cases_eq}
use Rattle.std.proofs.lemmas.List.{take_all, length-map}
use Rattle.std.proofs.lemmas.List.Elements.{All-get_or, All-from_get_or}
use Rattle.ae_moves.specs.declared.trip.Source.TheVariants.{Fixed}
use Rattle.ae_sttype.specs.Moves.{TripTree, SourceTree, place, constant, greatest, lead_from, latency_of_trips, IsReached}
use Rattle.ae_moves.specs.declared.trip.Trip.{Trip}
use Rattle.ae_moves.specs.Trees.{trip_tree, trip_trees}
use Rattle.ae_moves.specs.Trips.{IsWithin}
use Rattle.ae_moves.proofs.Ages.{greatest_more}

-- no element has more than the greatest value
le_greatest : {X : Type 0} (f : X → ℕ) (xs : List X) (n i : ℕ) (d : X) → i < n → n ≤ length xs → f (get_or xs i d) ≤ greatest f (take n xs)
le_greatest f xs zero i d p h = absurd (omega arith)
le_greatest f xs (suc n) i d p h = elim (cases_eq i n) [
  | inl e ↦ rw (← add-one n, greatest_more f xs n d (omega arith), e) (omega arith)
  | inr ne ↦ let r = le_greatest f xs n i d (omega arith) (omega arith) in rw (← add-one n, greatest_more f xs n d (omega arith)) (omega (arith, r))
]

-- the greatest value is no more than what none passes
greatest_le : {X : Type 0} (f : X → ℕ) (xs : List X) (m n : ℕ) (d : X) → n ≤ length xs → ((i : ℕ) → i < n → f (get_or xs i d) ≤ m) → greatest f (take n xs) ≤ m
greatest_le f xs m zero d h all = omega arith
greatest_le f xs m (suc n) d h all =
    let r = greatest_le f xs m n d (omega arith) (λ i p. all i (omega arith)) in
    rw (← add-one n, greatest_more f xs n d (omega arith)) (omega (arith, r, all n (omega arith)))

lead-le : (d ins c : ℕ) (s : SourceTree) → IsReached d ins c s → lead_from c s ≤ d
lead-le d ins c (place k q) h = omega (arith, h.1)
lead-le d ins c (constant w) h = omega arith

reached-by : (d m ins c : ℕ) (s : SourceTree) → IsReached d ins c s → lead_from c s ≤ m → IsReached m ins c s
reached-by d m ins c (place k q) h le = (h.0, omega (arith, le))
reached-by d m ins c (constant w) h le = tt

more-columns : (d ins more c : ℕ) (s : SourceTree) → ins ≤ more → IsReached d ins c s → IsReached d more c s
more-columns d ins more c (place k q) h r = (omega (arith, r.0), r.1)
more-columns d ins more c (constant w) h r = tt

abbrev lead : TripTree → ℕ
lead t = lead_from t.clock t.source

all-trips : (trips : List Trip) → greatest lead (take (length trips) (trip_trees trips)) ≡ latency_of_trips (trip_trees trips)
all-trips trips = ap (greatest lead) (take_all (length trips) (trip_trees trips) (rw length-map (omega arith)))

tree-get : (trips : List Trip) (i : ℕ) (none : Trip) → get_or (trip_trees trips) i (trip_tree none) ≡ trip_tree (get_or trips i none)
tree-get [] i none = refl
tree-get (t ∷ ts) zero none = refl
tree-get (t ∷ ts) (suc i) none = tree-get ts i none

nothing : Trip
nothing = record { clock = 0; column = 0; source = Fixed 0 }

pub least : (trips : List Trip) (d ins outs : ℕ) → All (λ (t : Trip). IsWithin d ins outs (trip_tree t)) trips → latency_of_trips (trip_trees trips) ≤ d
least trips d ins outs all =
    rw all-trips at (greatest_le lead (trip_trees trips) d (length trips) (trip_tree nothing) (rw length-map (omega arith)) (λ i p.
    rw tree-get (lead-le d ins _ _ (All-get_or (λ (t : Trip). IsWithin d ins outs (trip_tree t)) trips i nothing p all).reached)))

pub enough : (trips : List Trip) (d ins outs : ℕ) → All (λ (t : Trip). IsWithin d ins outs (trip_tree t)) trips
    → All (λ (t : Trip). IsWithin (latency_of_trips (trip_trees trips)) ins outs (trip_tree t)) trips
enough trips d ins outs all =
    All-from_get_or (λ (t : Trip). IsWithin (latency_of_trips (trip_trees trips)) ins outs (trip_tree t)) trips nothing (λ i p.
    let w = All-get_or (λ (t : Trip). IsWithin d ins outs (trip_tree t)) trips i nothing p all in
    let le : lead (get_or (trip_trees trips) i (trip_tree nothing)) ≤ greatest lead (take (length trips) (trip_trees trips)) = le_greatest lead
    (trip_trees trips) (length trips) i (trip_tree nothing) p (rw length-map (omega arith)) in
    record {
      clock_in = w.clock_in;
      column_in = w.column_in;
      reached = reached-by d (latency_of_trips (trip_trees trips)) ins _ _ w.reached (rw (tree-get, all-trips) at le);
    })

pub all-of : (trips : List Trip) (i : ℕ) → length trips ≤ i
    → greatest (λ (t : TripTree). lead_from t.clock t.source) (take i (trip_trees trips)) ≡ latency_of_trips (trip_trees trips)
all-of trips i h = ap (greatest lead) (take_all i (trip_trees trips) (rw length-map h))

-- more columns are enough too
pub wider : (trips : List Trip) (d ins outs more most : ℕ) → ins ≤ more → outs ≤ most → All (λ (t : Trip). IsWithin d ins outs (trip_tree t)) trips
    → All (λ (t : Trip). IsWithin d more most (trip_tree t)) trips
wider trips d ins outs more most h g all =
    All-from_get_or (λ (t : Trip). IsWithin d more most (trip_tree t)) trips nothing (λ i p.
    let w = All-get_or (λ (t : Trip). IsWithin d ins outs (trip_tree t)) trips i nothing p all in
    record { clock_in = w.clock_in; column_in = omega (arith, w.column_in); reached = more-columns d ins more _ _ h w.reached })
