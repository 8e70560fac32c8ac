use Rattle.std.proofs.Common.{◌≡◌, ◌≤◌, ◌*◌, take}
use Rattle.ae_rewrite.specs.StProgramTree.{st_func_tree}
use Rattle.ae_rewrite.specs.Sound.{item_layouts}
use Rattle.ae_delay.specs.Costs.{slack_load, uses_at}
use Rattle.ae_delay.proofs.uses.slack_load.Given as goal

abbrev pub invariant-loop-item : goal.invariant-loop-item
invariant-loop-item l = record {
  load : l.sum ≡ slack_load (item_layouts (st_func_tree l.s)) (uses_at l.arrivals l.start (take l.item-index l.items));
  most : l.sum ≤ l.item-index * 70368744177664;
}
