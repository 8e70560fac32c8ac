use Rattle.std.proofs.Common.{◌≡◌, take}
use Rattle.ae_sttype.specs.Moves.{greatest}
use Rattle.ae_results.specs.Results.{own_latency}
use Rattle.ae_results.proofs.costs.latest_result.Given as goal

abbrev pub invariant-loop-own : goal.invariant-loop-own
invariant-loop-own l = l.most ≡ greatest own_latency (take l.own-index l.costs)
