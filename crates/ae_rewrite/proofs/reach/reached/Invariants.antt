use Rattle.std.proofs.Common.{◌≤◌}
use Rattle.ae_seq.specs.ProgramTree.{program_tree}
use Rattle.ae_rewrite.specs.Planned.{number_lists, Reaches}
use Rattle.ae_rewrite.proofs.reach.reached.Given as goal

abbrev pub invariant-loop-func : goal.invariant-loop-func
invariant-loop-func l = record { reaches : Reaches (program_tree l.p) l.clocks l.func (number_lists l.needs.items); low : l.func ≤ l.main }

abbrev pub decreases-loop-func : goal.decreases-loop-func
decreases-loop-func l = l.func
