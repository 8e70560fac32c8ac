use Rattle.std.proofs.Common.{map}
use Rattle.ae_rewrite.specs.StProgramTree.{st_func_trees}
use Rattle.ae_retime.specs.Slacks.{AreArguments, AreChains, AreResults}
use Rattle.ae_retime.proofs.slacks.matching.Given as goal

abbrev pub invariant-loop-k : goal.invariant-loop-k
invariant-loop-k l = record {
  arguments : AreArguments (st_func_trees l.p) l.k (map (λ n. map (λ v. v.items) n.items) l.arguments.items);
  chains : AreChains (st_func_trees l.p) l.k (map (λ v. v.items) l.chains.items);
  results : AreResults (st_func_trees l.p) l.k (map (λ v. v.items) l.results.items);
}
