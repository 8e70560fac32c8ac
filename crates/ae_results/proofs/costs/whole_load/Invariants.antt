use Rattle.std.proofs.Common.{◌≡◌, ◌≤◌, ◌*◌, take, sum_by}
use Rattle.ae_results.specs.Results.{own_load}
use Rattle.ae_results.proofs.costs.whole_load.Given as goal

abbrev pub invariant-loop-own : goal.invariant-loop-own
invariant-loop-own l = record {
  sum : l.load ≡ sum_by (own_load l.whole) (take l.own-index l.costs);
  most : l.load ≤ l.own-index * 140737488355328;
}
