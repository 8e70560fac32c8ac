use Rattle.std.proofs.Common.{◌≡◌, map, take}
use Rattle.ae_columns.specs.Early.{hastened}
use Rattle.ae_gather.proofs.early.all_sooner.Given as goal

abbrev pub invariant-loop-trip : goal.invariant-loop-trip
invariant-loop-trip l = record { moved : l.moved.items ≡ map (hastened l.early) (take l.trip-index l.trips) }
