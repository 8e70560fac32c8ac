use Rattle.std.proofs.Common.{◌∙◌, arith, ap}
use Rattle.std.proofs.lemmas.List.{take_all}
use Rattle.ae_rewrite.specs.StProgramTree.{st_func_tree}
use Rattle.ae_rewrite.specs.Sound.{item_layouts}
use Rattle.ae_delay.specs.Costs.{slack_load, uses_at}
use Rattle.ae_delay.proofs.UseLaws.{item_below, slack_next, slack_small}
use Rattle.ae_delay.proofs.uses.slack_load.Goals as goal

pub bounds-arrivals-item : goal.bounds-arrivals-item
bounds-arrivals-item c = item_below c.args.items.now _ c.loop-item.item-index c.requires.arrived c.loop-item-test.true

pub item_columns-requires-clause-below : goal.item_columns-requires-clause-below
item_columns-requires-clause-below c = item_below c.args.items.now _ c.loop-item.item-index c.requires.below c.loop-item-test.true

pub overflow_mul-sum : goal.overflow_mul-sum
overflow_mul-sum c =
    let slack = c.from-slack.ensures ∙ c.saturating_sub.ensures in
    omega (arith, slack_small c.from-slack.result c.item_columns.result (omega (arith, slack, c.ranges.start.fits)) c.item_columns.ensures.few)

pub overflow_add-sum : goal.overflow_add-sum
overflow_add-sum c =
    let slack = c.from-slack.ensures ∙ c.saturating_sub.ensures in
    let small = slack_small c.from-slack.result c.item_columns.result (omega (arith, slack, c.ranges.start.fits)) c.item_columns.ensures.few in
    omega (arith, small, c.loop-item.invariant.most, c.loop-item-test.true, c.requires.few)

pub loop-item-preserved : goal.loop-item-preserved
loop-item-preserved c =
    let slack = c.from-slack.ensures ∙ c.saturating_sub.ensures in
    let small = slack_small c.from-slack.result c.item_columns.result (omega (arith, slack, c.ranges.start.fits)) c.item_columns.ensures.few in
    record {
      load = slack_next (item_layouts (st_func_tree c.args.s.now)) c.args.arrivals.now c.args.start c.args.items.now c.loop-item.item-index c.loop-item.sum
          c.from-slack.result c.item_columns.result c.loop-item-test.true c.loop-item.invariant.load slack c.item_columns.ensures.columns;
      most = omega (arith, small, c.loop-item.invariant.most);
    }

pub returns-clause-load : goal.returns-clause-load
returns-clause-load c =
    c.loop-item.invariant.load
    ∙ ap (λ xs. slack_load (item_layouts (st_func_tree c.args.s.now)) (uses_at c.args.arrivals.now c.args.start xs))
    (take_all c.loop-item.item-index c.args.items.now c.loop-item-test.false)
