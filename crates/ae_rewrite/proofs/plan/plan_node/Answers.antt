use Rattle.std.proofs.Common.{◌∙◌, sym}
use Rattle.ae_seq.specs.ProgramTree.{program_tree, node_tree}
use Rattle.ae_rewrite.proofs.Items.{plain-there, shift-of-few}
use Rattle.ae_rewrite.proofs.plan.plan_node.Goals as goal

pub plan_op-requires-clause-few : goal.plan_op-requires-clause-few
plan_op-requires-clause-few c = shift-of-few (program_tree c.args.p.now) c.args.func c.args.item (node_tree c.args.node.now) c.requires.formed c.requires.there

pub plan_op-requires-clause-plain : goal.plan_op-requires-clause-plain
plan_op-requires-clause-plain c = λ e h.
    plain-there (program_tree c.args.p.now) c.args.func c.args.budget c.args.item
    (node_tree c.args.node.now) _ c.requires.formed c.requires.there c.in_ok-ty.ensures.layout c.requires.laid
    (sym c.called_by-call.ensures ∙ e) h
