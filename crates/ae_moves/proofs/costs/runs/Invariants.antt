use Rattle.ae_moves.specs.Trees.{trip_trees}
use Rattle.ae_moves.proofs.Stretches.{KeepsRuns}
use Rattle.ae_moves.proofs.costs.runs.Given as goal

abbrev pub invariant-loop-trip : goal.invariant-loop-trip
invariant-loop-trip l = KeepsRuns l.d l.outs (trip_trees l.trips) l.trip-index l.last.items l.counts.items
