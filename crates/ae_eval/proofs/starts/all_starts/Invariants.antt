use Rattle.std.proofs.Common.{◌≡◌, ◌<◌, ℕ, length, slice_get, Some}
use Rattle.ae_seq.specs.ProgramTree.{program_tree}
use Rattle.ae_eval.specs.Stack.{starts_from, starts_of, types_in}
use Rattle.ae_eval.proofs.starts.all_starts.Given as goal

abbrev pub invariant-loop-func : goal.invariant-loop-func
invariant-loop-func l = record {
  count : length (starts_of l.found.items) ≡ l.func;
  starts : (k : ℕ) → k < l.func → slice_get (starts_of l.found.items) k ≡ Some (starts_from 0 (types_in (program_tree l.p) k));
}
