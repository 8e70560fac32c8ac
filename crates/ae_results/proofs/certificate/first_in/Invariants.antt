use Rattle.std.proofs.Common.{◌≤◌, length}
use Rattle.ae_rewrite.specs.StProgramTree.{st_trees}
use Rattle.ae_results.specs.Certified.{AreEarly}
use Rattle.ae_results.specs.Results.{result_move}
use Rattle.ae_results.proofs.certificate.first_in.Given as goal

abbrev pub invariant-loop-o : goal.invariant-loop-o
invariant-loop-o l = record {
  within : l.o ≤ length l.own.source.items;
  early : AreEarly l.late (result_move (st_trees l.ins) l.own) l.o;
}
