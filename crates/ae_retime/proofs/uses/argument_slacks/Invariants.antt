use Rattle.std.proofs.Common.{◌≡◌, map, take}
use Rattle.ae_rewrite.specs.StProgramTree.{StNodeTree, st_func_tree}
use Rattle.ae_retime.specs.Slacks.{joint_slacks}
use Rattle.ae_retime.proofs.uses.argument_slacks.Given as goal

abbrev pub invariant-loop-j : goal.invariant-loop-j
invariant-loop-j l = map (λ x. x.items) l.slacks.items ≡ map (λ (n : StNodeTree). joint_slacks l.arrivals n.args) (take l.j (st_func_tree l.s).nodes)
