use Rattle.std.proofs.Common.{length, rules}
use Rattle.ae_seq.specs.ProgramTree.{program_tree, node_tree, func_tree}
use Rattle.ae_seq.specs.Trees.{node_trees}
use Rattle.ae_rewrite.specs.FailingLine.{failing}
use Rattle.ae_rewrite.specs.Planned.{HasPlan, row_lists, IsKnown}
use Rattle.ae_rewrite.specs.StProgramTree.{st_node_tree}
use Rattle.ae_rewrite.proofs.Params.{node-there, nodes-fail, nodes-start, nodes-more, if-called}
use Rattle.ae_rewrite.proofs.plan.plan_nodes.Goals as goal

pub plan_node-requires-clause-known : goal.plan_node-requires-clause-known
plan_node-requires-clause-known c =
    let at = node-there c.args.f.now.nodes.items c.loop-k.k c.node-item.result (rw c.deref-node-items.ensures.value at c.loop-k-test.true)
    (rw c.deref-node-items.ensures.value at c.node-item.is) in
    if-called _ (λ d. IsKnown (row_lists c.args.rows.now) d) (λ d is. c.requires.known c.loop-k.k d
    (record { of = func_tree c.args.f.now; node = node_tree c.node-item.result; known = c.requires.here; here = at; is = is }))

pub returns-in_err-plan_node-clause-failing : goal.returns-in_err-plan_node-clause-failing
returns-in_err-plan_node-clause-failing c = λ line e.
    let at = node-there c.args.f.now.nodes.items c.loop-k.k c.node-item.result (rw c.deref-node-items.ensures.value at c.loop-k-test.true)
    (rw c.deref-node-items.ensures.value at c.node-item.is) in
    nodes-fail (program_tree c.args.p.now) (HasPlan (row_lists c.args.rows.now)) (failing (program_tree c.args.p.now)) c.args.func c.args.budget
    (length c.args.f.now.params.items)
    (node_trees c.args.f.now.nodes.items) c.loop-k.k _ (node_tree c.node-item.result) line c.loop-k.invariant at
    (rw c.param_count-params.ensures at (c.plan_node.ensures.failing line (search rules)))

pub loop-k-init : goal.loop-k-init
loop-k-init c =
    rw c.new-nodes.ensures.items
    (nodes-start (program_tree c.args.p.now) (HasPlan (row_lists c.args.rows.now)) (failing (program_tree c.args.p.now)) c.args.func c.args.budget
    (length c.args.f.now.params.items)
    (node_trees c.args.f.now.nodes.items) c.requires.laid)

pub loop-k-preserved : goal.loop-k-preserved
loop-k-preserved c =
    let at = node-there c.args.f.now.nodes.items c.loop-k.k c.node-item.result (rw c.deref-node-items.ensures.value at c.loop-k-test.true)
    (rw c.deref-node-items.ensures.value at c.node-item.is) in
    rw c.in_ok-append_node.ensures
    (nodes-more (program_tree c.args.p.now) (HasPlan (row_lists c.args.rows.now)) (failing (program_tree c.args.p.now)) c.args.func c.args.budget
    (length c.args.f.now.params.items)
    (node_trees c.args.f.now.nodes.items) c.loop-k.k _ (node_tree c.node-item.result) (st_node_tree c.in_ok-plan_node.field-0) c.loop-k.invariant at
    (rw c.param_count-params.ensures at c.in_ok-plan_node.ensures.node)
    (rw c.param_count-params.ensures at c.in_ok-plan_node.ensures.fine) c.in_ok-plan_node.ensures.filling)
