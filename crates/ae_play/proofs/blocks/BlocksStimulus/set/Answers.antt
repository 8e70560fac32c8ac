use Rattle.std.proofs.Common.{◌++◌, ◌∷◌, [], map, arith, ap, ◌∙◌}
use Rattle.ae_sttype.specs.StTree.{st_tree}
use Rattle.ae_play.proofs.Layouts.{on_ok, row_in_block, row_past_blocks}
use Rattle.ae_play.proofs.blocks.BlocksStimulus.set.Goals as goal

pub returns-then-block-self : goal.returns-then-block-self
returns-then-block-self c =
    let b = c.args.self.now in
    on_ok c.push_block.result _ _
    (row_in_block b.slowdown b.fill (map st_tree b.ins.now) b.count c.args.clock b.words.now c.push.new.self.items c.push_block.new.row.items
    (rw c.clocks-slowdown.ensures.is at c.if-block-self.true) c.requires.1
    (c.in_ok-push.ensures.items ∙ ap (λ xs. xs ++ 0 ∷ []) c.clear.ensures.items))
    (rw c.clocks-slowdown.ensures.is at c.push_block.ensures)

pub returns-else-block-self : goal.returns-else-block-self
returns-else-block-self c =
    let b = c.args.self.now in
    on_ok c.push_fill.result _ _
    (row_past_blocks b.slowdown b.fill (map st_tree b.ins.now) b.count c.args.clock b.words.now c.push.new.self.items c.push_fill.new.row.items
    (omega (arith, rw c.clocks-slowdown.ensures.is at c.if-block-self.false))
    (c.in_ok-push.ensures.items ∙ ap (λ xs. xs ++ 0 ∷ []) c.clear.ensures.items))
    c.push_fill.ensures
