use Rattle.std.proofs.Common.{◌≤◌, sum_by}
use Rattle.std.specs.List.{range_with_len}
use Rattle.ae_rewrite.specs.StProgramTree.{st_func_tree}
use Rattle.ae_rewrite.specs.Sound.{item_layouts}
use Rattle.ae_lower.proofs.Waiting.{mems_by}
use Rattle.ae_lower.proofs.items.waiting_memories.Given as goal

abbrev pub invariant-loop-i : goal.invariant-loop-i
invariant-loop-i l = l.most ≤ sum_by (mems_by (item_layouts (st_func_tree l.s)) l.chains) (range_with_len 0 l.i)
