use Rattle.std.proofs.Common.{◌≡◌, take}
use Rattle.ae_fold.proofs.loops.copied.Given as goal

abbrev pub invariant-loop-net : goal.invariant-loop-net
invariant-loop-net l = l.copy.items ≡ take l.net-index l.nets
