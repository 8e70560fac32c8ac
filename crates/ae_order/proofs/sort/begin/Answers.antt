use Rattle.std.proofs.Common.{◌≡◌, set, ◌++◌, ◌∷◌, []}
use Rattle.ae_order.specs.declared.sort.Mark.TheVariants.{New, At}
use Rattle.ae_order.proofs.GraphWalks.{step_begin, begin_begun}
use Rattle.ae_order.proofs.sort.begin.Goals as goal

pub returns-clause-step : goal.returns-clause-step
returns-clause-step c =
    let pushed : c.keep.new.list.items ≡ c.args.stack.now.items ++ c.args.node ∷ [] = c.in_ok-keep.ensures.ok in
    let marked : c.set_mark.new.marks.items ≡ set c.args.marks.now.items c.args.node (At c.start_at.result) = c.set_mark.ensures in
    rw (pushed, marked) (step_begin c.args.starts.now c.args.targets.now c.requires.graph c.args.marks.now.items c.args.stack.now.items c.args._order.now
    c.args.node c.start_at.result c.requires.walk c.requires.fresh c.start_at.ensures c.requires.top)

pub returns-clause-begun : goal.returns-clause-begun
returns-clause-begun c =
    let marked : c.set_mark.new.marks.items ≡ set c.args.marks.now.items c.args.node (At c.start_at.result) = c.set_mark.ensures in
    rw marked (begin_begun c.args.starts.now c.args.targets.now c.requires.graph c.args.marks.now.items c.args.node c.start_at.result New c.requires.fresh)
