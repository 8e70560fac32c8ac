use Rattle.std.proofs.Common.{◌-◌, ◌∙◌, get_or, arith, ap, length}
use Rattle.std.proofs.lemmas.List.{length-set, take_all}
use Rattle.ae_delay.specs.Costs.{latest, uses_at}
use Rattle.ae_delay.specs.Weighing.{deepened}
use Rattle.ae_delay.proofs.UseLaws.{deepened_next, item_below}
use Rattle.ae_retime.proofs.uses.deepen.Goals as goal

pub bounds-arrivals-item : goal.bounds-arrivals-item
bounds-arrivals-item c = item_below c.args.items.now _ c.loop-item.item-index c.requires.arrived c.loop-item-test.true

pub index-before-requires : goal.index-before-requires
index-before-requires c =
    let below = item_below c.args.items.now (length c.args.chains.now.items) c.loop-item.item-index c.requires.below c.loop-item-test.true in
    omega (arith, below, c.loop-item.invariant.long, c.loop-item.chains.ok)

pub index_mut-requires : goal.index_mut-requires
index_mut-requires c =
    let below = item_below c.args.items.now (length c.args.chains.now.items) c.loop-item.item-index c.requires.below c.loop-item-test.true in
    omega (arith, below, c.loop-item.invariant.long, c.loop-item.chains.ok)

pub loop-item-preserved : goal.loop-item-preserved
loop-item-preserved c =
    let a = get_or c.args.items.now c.loop-item.item-index 0 in
    let below = item_below c.args.items.now (length c.args.chains.now.items) c.loop-item.item-index c.requires.below c.loop-item-test.true in
    let slack = c.saturating_sub-slack.ensures ∙ ap (λ m. m - get_or c.args.arrivals.now a 0) c.requires.most in
    record {
      chains = deepened_next c.args.chains.now.items c.args.arrivals.now (latest c.args.arrivals.now c.args.items.now) c.args.items.now c.loop-item.chains.items
          c.loop-item.item-index c.index-before.result.now c.max.result c.loop-item-test.true (omega (arith, below, c.loop-item.invariant.long))
          c.loop-item.invariant.chains c.index-before.ensures (omega (arith, c.max.ensures, slack));
      long = length-set c.loop-item.chains.items a c.max.result ∙ c.loop-item.invariant.long;
    }

pub returns : goal.returns
returns c =
    c.loop-item.invariant.chains
    ∙ ap (λ xs. deepened c.args.chains.now.items (uses_at c.args.arrivals.now (latest c.args.arrivals.now c.args.items.now) xs))
    (take_all c.loop-item.item-index c.args.items.now c.loop-item-test.false)
