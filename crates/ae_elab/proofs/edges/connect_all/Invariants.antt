use Rattle.ae_vmodule.specs.View.{module_tree}
use Rattle.ae_elab.proofs.EdgeJoins.{AreJoined}
use Rattle.ae_elab.proofs.edges.connect_all.Given as goal

abbrev pub invariant-loop-place : goal.invariant-loop-place
invariant-loop-place l = AreJoined l.from (module_tree l.m) l.nets l.nexts l.fn.nl l.nl l.place
