use Rattle.std.proofs.Common.{◌+◌, ◌∙◌, arith}
use Rattle.ae_rewrite.specs.StProgramTree.{st_func_tree}
use Rattle.ae_rewrite.specs.Sound.{item_layouts}
use Rattle.ae_delay.proofs.Chains.{next_mems, mems_fit}
use Rattle.ae_delay.proofs.weighing.chain_mems.Goals as goal

pub overflow_add-sum : goal.overflow_add-sum
overflow_add-sum c =
    let n = next_mems (item_layouts (st_func_tree c.args.s.now)) c.args.chains.now c.loop-i.i c.loop-i.sum c.item_columns.result c.from.result
    c.loop-i.invariant c.item_columns.ensures.columns (c.from.ensures ∙ c.rings.ensures) in
    omega (
      arith,
      n,
      mems_fit (item_layouts (st_func_tree c.args.s.now)) c.args.chains.now (c.loop-i.i + 1)
          (omega (arith, c.loop-i-test.true, c.requires.long)),
      c.requires.few,
    )

pub loop-i-preserved : goal.loop-i-preserved
loop-i-preserved c =
    next_mems (item_layouts (st_func_tree c.args.s.now)) c.args.chains.now c.loop-i.i c.loop-i.sum c.item_columns.result c.from.result c.loop-i.invariant
    c.item_columns.ensures.columns (c.from.ensures ∙ c.rings.ensures)
