use Rattle.std.proofs.Common.{◌≡◌, take}
use Rattle.ae_clocked.specs.Delays.{greatest_of}
use Rattle.ae_gather.proofs.cost.greatest.Given as goal

abbrev pub invariant-loop-age : goal.invariant-loop-age
invariant-loop-age l = l.most ≡ greatest_of (take l.age-index l.ages)
