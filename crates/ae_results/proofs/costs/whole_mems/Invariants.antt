use Rattle.std.proofs.Common.{◌≡◌, ◌≤◌, ◌*◌, take, sum_by}
use Rattle.ae_results.specs.Results.{own_mems}
use Rattle.ae_results.proofs.costs.whole_mems.Given as goal

abbrev pub invariant-loop-own : goal.invariant-loop-own
invariant-loop-own l = record {
  sum : l.mems ≡ sum_by (own_mems l.whole) (take l.own-index l.costs);
  most : l.mems ≤ l.own-index * 140737488355328;
}
