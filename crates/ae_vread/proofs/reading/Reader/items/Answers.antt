use Rattle.std.proofs.Common.{refl, sym, ◌∙◌, arith}
use Rattle.ae_vread.specs.ItemReading.{with_item}
use Rattle.ae_vread.proofs.Meanings.{extends_by}
use Rattle.ae_vread.proofs.ReadSteps.{held_more, items_end, items_fail, items_next, items_run_out, syntax_is}
use Rattle.ae_vread.proofs.reading.Reader.items.Goals as goal

pub returns-then-is_last : goal.returns-then-is_last
returns-then-is_last c first held =
    let x = c.item.invariant first held in (
      x.0,
      items_end _ _ c.args.most c.item.turn x.0 c.item-test.true x.2 x.1.rest (sym c.is_last.ensures ∙ c.if-is_last.true),
      x.1,
      x.3,
    )

pub returns-in-Err-Syntax : goal.returns-in-Err-Syntax
returns-in-Err-Syntax c first held =
    let x = c.item.invariant first held in
    items_fail _ _ c.args.most c.item.turn x.0 c.item-test.true x.2 x.1.rest (syntax_is _ _ c.in-Err-Syntax.field-0-is c.in-Err-Syntax.ensures.read)
    (sym c.is_last.ensures ∙ c.if-is_last.false)

-- one item more
pub item-preserved : goal.item-preserved
item-preserved c first held =
    let x = c.item.invariant first held in
    let next = c.in-Ok.ensures.read in (
      with_item x.0 next.0,
      held_more _ _ _ _ c.in-Ok.item _ c.item.self c.item_at.new.self x.0 next.0 x.1 refl next.2 next.3 c.in_ok-push-in-Ok.ensures.items,
      items_next _ _ c.args.most c.item.turn x.0 next.0 c.item-test.true x.2 x.1.rest next.1,
      extends_by _ _ _ x.3 next.2.extends,
    )

pub returns : goal.returns
returns c first held =
    let x = c.item.invariant first held in
    items_run_out _ c.args.most c.item.turn x.0 (omega (arith, c.item-test.false)) (omega (arith, c.item.auto.turn-end)) x.2
