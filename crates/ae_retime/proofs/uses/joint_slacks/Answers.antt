use Rattle.std.proofs.Common.{◌-◌, ◌∙◌, get_or, map, ap}
use Rattle.std.proofs.lemmas.List.{take_all}
use Rattle.ae_delay.specs.Costs.{latest}
use Rattle.ae_delay.proofs.UseLaws.{item_below}
use Rattle.ae_retime.proofs.UseLaws.{slacks_push}
use Rattle.ae_retime.proofs.uses.joint_slacks.Goals as goal

pub bounds-arrivals-item : goal.bounds-arrivals-item
bounds-arrivals-item c = item_below c.args.items.now _ c.loop-item.item-index c.requires.below c.loop-item-test.true

pub loop-item-init : goal.loop-item-init
loop-item-init c = c.new-slacks.ensures.items

pub loop-item-preserved : goal.loop-item-preserved
loop-item-preserved c =
    let a = get_or c.args.items.now c.loop-item.item-index 0 in
    let slack = c.saturating_sub.ensures ∙ ap (λ m. m - get_or c.args.arrivals.now a 0) c.requires.most in
    slacks_push c.args.arrivals.now (latest c.args.arrivals.now c.args.items.now) c.args.items.now c.loop-item.slacks.items c.push.new.self.items
    c.loop-item.item-index
    c.saturating_sub.result c.loop-item-test.true c.loop-item.invariant slack c.in_ok-push.ensures.items

pub returns : goal.returns
returns c =
    c.loop-item.invariant
    ∙ ap (map (λ a. latest c.args.arrivals.now c.args.items.now - get_or c.args.arrivals.now a 0))
    (take_all c.loop-item.item-index c.args.items.now c.loop-item-test.false)
