use Rattle.std.proofs.Common.{◌≡◌, ◌*◌, sum_by, get_or}
use Rattle.std.specs.List.{range_with_len}
use Rattle.ae_sttype.specs.Moves.{columns_of}
use Rattle.ae_moves.specs.Rings.{rings}
use Rattle.ae_rewrite.specs.StProgramTree.{st_func_tree}
use Rattle.ae_rewrite.specs.Sound.{item_layout, item_layouts}
use Rattle.ae_delay.proofs.weighing.chain_mems.Given as goal

abbrev pub invariant-loop-i : goal.invariant-loop-i
invariant-loop-i l = l.sum ≡ sum_by (λ i. columns_of (item_layout (item_layouts (st_func_tree l.s)) i) * rings (get_or l.chains i 0)) (range_with_len 0 l.i)
