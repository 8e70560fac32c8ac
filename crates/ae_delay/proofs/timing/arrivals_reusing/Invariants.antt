use Rattle.std.proofs.Common.{map, take}
use Rattle.ae_rewrite.specs.StProgramTree.{st_func_trees}
use Rattle.ae_delay.specs.Costs.{all_costs}
use Rattle.ae_delay.specs.Arriving.{AreFirst, AreToldFirst}
use Rattle.ae_delay.specs.Timings.{item_meets}
use Rattle.ae_delay.specs.Weighing.{AreKnown}
use Rattle.ae_delay.proofs.timing.arrivals_reusing.Given as goal

abbrev pub invariant-loop-k : goal.invariant-loop-k
invariant-loop-k l = record {
  known : AreKnown l.known.items (all_costs (take l.k (st_func_trees l.p)));
  arrivals : AreFirst l.k (st_func_trees l.p) (map (λ v. v.items) l.arrivals.items);
  meets : AreToldFirst item_meets l.k (st_func_trees l.p) (map (λ v. v.items) l.meets.items);
}
