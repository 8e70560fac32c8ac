use Rattle.std.proofs.Common.{◌≤◌, length}
use Rattle.ae_gather.specs.Joins.{AreJoinedTo}
use Rattle.ae_gather.proofs.joining.join.Given as goal

abbrev pub invariant-loop-k : goal.invariant-loop-k
invariant-loop-k l = record {
  joined : AreJoinedTo l.k l.ins l.nets.items l.firsts.items;
  within : l.k ≤ length l.ins;
}
