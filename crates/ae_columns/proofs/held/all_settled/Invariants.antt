use Rattle.std.proofs.Common.{◌≡◌, map, take}
use Rattle.ae_columns.specs.Held.{settled}
use Rattle.ae_columns.proofs.held.all_settled.Given as goal

abbrev pub invariant-loop-trip : goal.invariant-loop-trip
invariant-loop-trip l = record { moved : l.all.items ≡ map (settled l.d l.held) (take l.trip-index l.trips) }
