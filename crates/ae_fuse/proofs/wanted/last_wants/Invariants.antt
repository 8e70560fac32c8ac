use Rattle.std.proofs.Common.{◌≡◌, ◌+◌, ◌<◌, ◌≤◌, ℕ, length, Some, slice_get, get_or}
use Rattle.ae_rewrite.specs.StProgramTree.{StNodeTree, st_func_tree}
use Rattle.ae_fuse.proofs.wanted.last_wants.Given as goal

abbrev pub invariant-loop-j : goal.invariant-loop-j
invariant-loop-j l = record {
  long : length l.last.items ≡ length l.s.ins.items + length l.s.nodes.items;
  nodes : (k i a : ℕ) (n : StNodeTree) → k < l.j → slice_get (st_func_tree l.s).nodes k ≡ Some n → slice_get n.args i ≡ Some a → k < get_or l.last.items a 0;
  within : l.j ≤ length l.s.nodes.items;
}
