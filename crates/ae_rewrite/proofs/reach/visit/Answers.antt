use Rattle.std.proofs.Common.{arith}
use Rattle.std.proofs.lemmas.List.{length-map}
use Rattle.ae_seq.specs.ProgramTree.{program_tree, node_tree, func_tree}
use Rattle.ae_rewrite.specs.Planned.{number_lists}
use Rattle.ae_rewrite.proofs.Budgets.{visits-end, visits-more, visits-start}
use Rattle.ae_rewrite.proofs.Params.{node-there, length-nodes}
use Rattle.ae_rewrite.proofs.reach.visit.Goals as goal

pub loop-k-preserved : goal.loop-k-preserved
loop-k-preserved c =
    let at = node-there c.func_of-f.result.now.nodes.items c.loop-k.k c.node-item.result (rw c.deref-node-items.ensures.value at c.loop-k-test.true)
    (rw c.deref-node-items.ensures.value at c.node-item.is) in
    visits-more (program_tree c.args.p.now) c.args.func c.args.budget (number_lists c.args.needs.now.items) (number_lists c.loop-k.needs.items) _ c.loop-k.k
    (func_tree c.func_of-f.result.now) (node_tree c.node-item.result)
    c.func_of-f.ensures.here at c.loop-k.invariant c.in_ok-visit_node.ensures.added c.in_ok-visit_node.ensures.called

pub returns-clause-closed : goal.returns-clause-closed
returns-clause-closed c =
    let over = rw c.deref-node-items.ensures.value at c.loop-k-test.false in
    visits-end (program_tree c.args.p.now) c.args.func c.args.budget (number_lists c.args.needs.now.items) _ c.loop-k.k
    (func_tree c.func_of-f.result.now) c.func_of-f.ensures.here
    (rw length-nodes over) c.loop-k.invariant

pub loop-k-init : goal.loop-k-init
loop-k-init c = visits-start (program_tree c.args.p.now) c.args.func c.args.budget (number_lists c.args.needs.now.items)

pub visit_node-requires-clause-there : goal.visit_node-requires-clause-there
visit_node-requires-clause-there c = record {
  of = func_tree c.func_of-f.result.now;
  k = c.loop-k.k;
  known = c.func_of-f.ensures.here;
  here = node-there c.func_of-f.result.now.nodes.items c.loop-k.k c.node-item.result (rw c.deref-node-items.ensures.value at c.loop-k-test.true)
      (rw c.deref-node-items.ensures.value at c.node-item.is);
}

pub visit_node-requires-clause-below : goal.visit_node-requires-clause-below
visit_node-requires-clause-below c = let same = simp length-map at c.loop-k.invariant.added.count in omega (arith, same, c.requires.below)

pub returns-clause-added : goal.returns-clause-added
returns-clause-added c = c.loop-k.invariant.added
