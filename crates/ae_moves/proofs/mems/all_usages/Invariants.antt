use Rattle.std.proofs.Common.{take}
use Rattle.ae_moves.specs.Trees.{trip_trees}
use Rattle.ae_moves.specs.Usages.{AreUsages}
use Rattle.ae_moves.proofs.mems.all_usages.Given as goal

abbrev pub invariant-loop-trip : goal.invariant-loop-trip
invariant-loop-trip l = AreUsages l.period l.d l.ins (take l.trip-index (trip_trees l.trips)) l.usages.items
