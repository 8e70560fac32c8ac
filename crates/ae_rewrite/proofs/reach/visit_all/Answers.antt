use Rattle.ae_seq.specs.ProgramTree.{program_tree}
use Rattle.ae_rewrite.specs.Planned.{number_lists}
use Rattle.ae_rewrite.proofs.Budgets.{all-more, all-end, number-at}
use Rattle.ae_rewrite.proofs.reach.visit_all.Goals as goal

pub visit-requires-clause-time : goal.visit-requires-clause-time
visit-requires-clause-time c =
    c.requires.positive _ (record {
      own = c.deref-budget-items.result.now;
      here = c.loop-j.invariant.mine;
      at = c.loop-j.j;
      is = number-at c.deref-budget-items.result.now c.loop-j.j c.loop-j-test.true;
    })

pub loop-j-preserved : goal.loop-j-preserved
loop-j-preserved c =
    all-more (program_tree c.args.p.now) c.args.func c.deref-budget-items.result.now (number_lists c.args.needs.now.items)
    (number_lists c.loop-j.needs.items) _ c.loop-j.j _ c.loop-j.invariant
    (number-at c.deref-budget-items.result.now c.loop-j.j c.loop-j-test.true) c.in_ok-visit.ensures.added c.in_ok-visit.ensures.closed

pub returns-clause-closed : goal.returns-clause-closed
returns-clause-closed c =
    all-end (program_tree c.args.p.now) c.args.func c.deref-budget-items.result.now (number_lists c.args.needs.now.items)
    (number_lists c.loop-j.needs.items) c.loop-j.j c.loop-j.invariant c.loop-j-test.false
