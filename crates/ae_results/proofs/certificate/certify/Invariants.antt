use Rattle.std.proofs.Common.{◌≡◌, ◌<◌, ◌≤◌, ℕ, Some, length, map, slice_get}
use Rattle.ae_moves.specs.Origins.{Move}
use Rattle.ae_rewrite.specs.StProgramTree.{st_trees}
use Rattle.ae_results.specs.Certified.{AreEarly, word_count}
use Rattle.ae_results.specs.Results.{result_move}
use Rattle.ae_results.proofs.certificate.certify.Given as goal

abbrev pub invariant-loop-k : goal.invariant-loop-k
invariant-loop-k l = record {
  within : l.k ≤ length l.moves;
  early : (j : ℕ) (m : Move) → j < l.k → slice_get (map (result_move (st_trees l.ins)) l.moves) j ≡ Some m → AreEarly l.latest m (word_count m);
}
