use Rattle.std.proofs.Common.{◌≡◌, map, take}
use Rattle.ae_lower.specs.Lowering.{lane_nets}
use Rattle.ae_lower.proofs.calls.lane_of.Given as goal

abbrev pub invariant-loop-bundle : goal.invariant-loop-bundle
invariant-loop-bundle l = l.all.items ≡ map (lane_nets l.copies l.lane) (take l.bundle-index l.bundles)
