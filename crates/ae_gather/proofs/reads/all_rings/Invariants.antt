use Rattle.std.proofs.Common.{◌≡◌, length}
use Rattle.ae_gather.proofs.reads.all_rings.Given as goal

abbrev pub invariant-loop-x : goal.invariant-loop-x
invariant-loop-x l = record { long : length l.rings.items ≡ l.x }
