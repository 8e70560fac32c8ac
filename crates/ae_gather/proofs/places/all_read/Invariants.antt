use Rattle.std.proofs.Common.{◌≡◌, map, take}
use Rattle.ae_gather.specs.Reads.{read_trip}
use Rattle.ae_gather.proofs.places.all_read.Given as goal

abbrev pub invariant-loop-trip : goal.invariant-loop-trip
invariant-loop-trip l = record { moved : l.all.items ≡ map (read_trip l.d l.reads) (take l.trip-index l.trips) }
