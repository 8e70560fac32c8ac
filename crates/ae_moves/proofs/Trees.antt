-- The trip at a place of the code's list, and its tree.
use Rattle.std.proofs.Common.{◌≡◌, ℕ, zero, suc, ◌<◌, List, [], ◌∷◌, length, get_or, refl, arith}
use Rattle.std.proofs.lemmas.List.{length-map}
use Rattle.ae_moves.specs.declared.trip.Trip.{Trip}
use Rattle.ae_moves.specs.Trees.{trip_tree, trip_trees}

pub tree-at : (trips : List Trip) (i : ℕ) (d : Trip) → i < length trips
    → trip_tree (get_or trips i d) ≡ get_or (trip_trees trips) i (trip_tree (get_or trips i d))
tree-at [] i d h = absurd (omega arith)
tree-at (t ∷ ts) zero d h = refl
tree-at (t ∷ ts) (suc i) d h = tree-at ts i d (omega arith)

pub inside : (trips : List Trip) (i : ℕ) → i < length trips → i < length (trip_trees trips)
inside trips i h = rw length-map h
