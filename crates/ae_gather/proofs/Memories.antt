-- The memories of the lines of a move.
use Rattle.std.proofs.Common.{ℕ, zero, suc, ◌≡◌, ◌+◌, ◌/◌, ◌<◌, ◌≤◌, ◌^◌, true, false, List, sum_by, get_or, nat_lt, slice_get, Some, inl, inr, arith, refl, sym, subst}
use Rattle.std.specs.List.{range_with_len, All}
use Rattle.std.proofs.lemmas.Bool.{cases_lt}
use Rattle.std.proofs.lemmas.List.Elements.{All-from_get_or}
use Rattle.std.proofs.lemmas.Option.{slice_get-get_or}
use Rattle.ae_clocked.specs.Rings.{rings}
use Rattle.ae_moves.specs.Trips.{IsWithin}
use Rattle.ae_moves.specs.Trees.{source_tree, trip_tree}
use Rattle.ae_moves.specs.declared.trip.Source.{Source}
use Rattle.ae_moves.specs.declared.trip.Source.TheVariants.{Place, Fixed}
use Rattle.ae_moves.specs.declared.trip.Trip.{Trip}
use Rattle.ae_moves.proofs.Held.{sum_more}
use Rattle.ae_sttype.specs.Moves.{IsReached as ReachesTree}
use Rattle.ae_columns.specs.Plans.{AreWithin, IsIn, IsReached}

pub rings_near : (a : ℕ) → a < 8 → rings a ≡ 0
rings_near a l = let t : nat_lt a 8 ≡ true = search arith in rw t refl

rings_far : (a : ℕ) → 8 ≤ a → rings a ≡ (a + 4095) / 4096
rings_far a l = let t : nat_lt a 8 ≡ false = search arith in rw t refl

-- a shorter delay takes no more rings
pub rings_least : (a b : ℕ) → a ≤ b → rings a ≤ rings b
rings_least a b l = elim (cases_lt a 8) [
  | inl near ↦ omega (arith, rings_near a near)
  | inr far ↦ (let p : rings a ≡ (a + 4095) / 4096 = rings_far a far in let q : rings b ≡ (b + 4095) / 4096 = rings_far b (omega arith) in omega (arith, p, q))
]

pub sums_le : (f g : ℕ → ℕ) (n : ℕ) → ((q : ℕ) → q < n → f q ≤ g q) → sum_by f (range_with_len 0 n) ≤ sum_by g (range_with_len 0 n)
sums_le f g zero h = omega arith
sums_le f g (suc n) h =
    let e : suc n ≡ n + 1 = omega arith in
    let rest : sum_by f (range_with_len 0 n) ≤ sum_by g (range_with_len 0 n) = sums_le f g n (λ q l. h q (omega arith)) in
    let last : f n ≤ g n = h n (omega arith) in
    let more : sum_by f (range_with_len 0 (n + 1)) ≤ sum_by g (range_with_len 0 (n + 1)) = omega (arith, sum_more f n, sum_more g n, rest, last) in
    subst (λ (k : ℕ). sum_by f (range_with_len 0 k) ≤ sum_by g (range_with_len 0 k)) (sym e) more

-- ---- what the search for held columns asks of the trips

tree_reached : (d ins c : ℕ) (s : Source) → IsReached d c s → IsIn ins s → ReachesTree d ins c (source_tree s)
tree_reached d ins c (Place k q) r i = (i, r)
tree_reached d ins c (Fixed w) r i = tt

pub trees_within : (d ins outs : ℕ) (trips : List Trip) → outs < 2 ^ 32 → AreWithin 4096 d ins outs trips
    → All (λ t. IsWithin d ins 4294967296 (trip_tree t)) trips
trees_within d ins outs trips few h =
    All-from_get_or (λ t. IsWithin d ins 4294967296 (trip_tree t)) trips (record { clock = 0; column = 0; source = Fixed 0 }) (λ n l.
    let t : Trip = get_or trips n (record { clock = 0; column = 0; source = Fixed 0 }) in
    let f : slice_get trips n ≡ Some t = slice_get-get_or trips n (record { clock = 0; column = 0; source = Fixed 0 }) l in
    record {
      clock_in = h.clock n t f;
      column_in = omega (arith, h.column n t f);
      reached = tree_reached d ins t.clock t.source (h.reached n t f) (h.source n t f);
    })
