use Rattle.ae_moves.specs.Trees.{trip_trees}
use Rattle.ae_moves.proofs.Ages.{KeepsAges}
use Rattle.ae_moves.proofs.costs.all_ages.Given as goal

abbrev pub invariant-loop-trip : goal.invariant-loop-trip
invariant-loop-trip l = KeepsAges l.d l.ins (trip_trees l.trips) l.trip-index l.deepest.items
