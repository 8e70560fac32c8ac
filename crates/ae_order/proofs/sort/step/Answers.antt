use Rattle.std.proofs.Common.{◌≡◌, ◌+◌, Some, slice_get, set, ◌++◌, ◌∷◌, [], get_or, arith}
use Rattle.std.proofs.lemmas.Option.{slice_get_within, get_or_from_slice_get}
use Rattle.ae_order.specs.declared.sort.Mark.TheVariants.{At, Done}
use Rattle.std.proofs.Math.Facts.{Fits-lt-pow, Fits-of_lt}
use Rattle.ae_order.proofs.GraphWalks.{step_pop, step_advance, walk_loops, next_is, top_needs}
use Rattle.ae_order.proofs.sort.step.Goals as goal

pub returns-then-at-start_at-clause-step : goal.returns-then-at-start_at-clause-step
returns-then-at-start_at-clause-step c =
    let h : slice_get c.args.marks.now.items c.args.top ≡ Some (At c.in-At.at) = rw c.in-At.is at c.mark_at.ensures in
    let parts : c.args.stack.now.items ≡ c.drop_top.new.stack.items ++ c.args.top ∷ [] = c.drop_top.ensures in
    let pushed : c.keep.new.list.items ≡ c.args.order.now.items ++ c.args.top ∷ [] = c.in_ok-keep.ensures.ok in
    let marked : c.set_mark.new.marks.items ≡ set c.args.marks.now.items c.args.top Done = c.set_mark.ensures in
    let ends : slice_get c.args.starts.now (c.args.top + 1) ≡ Some c.in-At.at = rw (← c.if-at-start_at.true) at c.start_at.ensures in
    rw (pushed, marked) (step_pop c.args.starts.now c.args.targets.now c.requires.graph c.args.marks.now.items c.drop_top.new.stack.items
    c.args.order.now.items c.args.top c.in-At.at (rw parts at c.requires.walk) h ends)

pub number_at-next-requires : goal.number_at-next-requires
number_at-next-requires c =
    let h : slice_get c.args.marks.now.items c.args.top ≡ Some (At c.in-At.at) = rw c.in-At.is at c.mark_at.ensures in
    (next_is c.args.starts.now c.args.targets.now c.requires.graph c.args.marks.now.items c.args.stack.now.items c.args.order.now.items c.args.top c.in-At.at
    c.start_at.result c.requires.walk h c.start_at.ensures c.if-at-start_at.false).1

pub overflow_add-at : goal.overflow_add-at
overflow_add-at c =
    let h : slice_get c.args.marks.now.items c.args.top ≡ Some (At c.in-At.at) = rw c.in-At.is at c.mark_at.ensures in
    let n = (next_is c.args.starts.now c.args.targets.now c.requires.graph c.args.marks.now.items c.args.stack.now.items c.args.order.now.items c.args.top
    c.in-At.at c.start_at.result c.requires.walk h c.start_at.ensures c.if-at-start_at.false).0 in
    let e : get_or c.args.starts.now (c.args.top + 1) 0 ≡ c.start_at.result = get_or_from_slice_get c.args.starts.now
    (c.args.top + 1) c.start_at.result 0 c.start_at.ensures in
    let f = Fits-lt-pow (rw e at (c.type_inv.starts (c.args.top + 1))) in
    Fits-of_lt (omega arith)

pub set_mark-requires-in-Done-mark_at : goal.set_mark-requires-in-Done-mark_at
set_mark-requires-in-Done-mark_at c =
    let h : slice_get c.args.marks.now.items c.args.top ≡ Some (At c.in-At.at) = rw c.in-At.is at c.mark_at.ensures in
    slice_get_within c.args.marks.now.items c.args.top _ h

pub begin-requires-clause-top : goal.begin-requires-clause-top
begin-requires-clause-top c =
    let h : slice_get c.args.marks.now.items c.args.top ≡ Some (At c.in-At.at) = rw c.in-At.is at c.mark_at.ensures in
    top_needs c.args.starts.now c.args.targets.now c.requires.graph c.args.marks.now.items c.requires.top.0 c.args.stack.now.items c.args.order.now.items
    c.args.top c.in-At.at c.start_at.result c.number_at-next.result
    c.requires.walk c.requires.top.1 h c.start_at.ensures c.if-at-start_at.false c.number_at-next.ensures

pub returns-in-Done-mark_at-clause-step : goal.returns-in-Done-mark_at-clause-step
returns-in-Done-mark_at-clause-step c =
    let h : slice_get c.args.marks.now.items c.args.top ≡ Some (At c.in-At.at) = rw c.in-At.is at c.mark_at.ensures in
    let marked : c.set_mark-in-Done-mark_at.new.marks.items ≡ set c.args.marks.now.items c.args.top
    (At (c.in-At.at + 1)) = c.set_mark-in-Done-mark_at.ensures in
    rw marked (step_advance c.args.starts.now c.args.targets.now c.requires.graph c.args.marks.now.items c.args.stack.now.items c.args.order.now.items
    c.args.top c.in-At.at c.number_at-next.result c.start_at.result
    c.requires.walk h c.start_at.ensures c.if-at-start_at.false c.number_at-next.ensures (rw c.in-Done-mark_at.is at c.mark_at-2.ensures))

pub returns-in-At-mark_at-clause-fault : goal.returns-in-At-mark_at-clause-fault
returns-in-At-mark_at-clause-fault c =
    let h : slice_get c.args.marks.now.items c.args.top ≡ Some (At c.in-At.at) = rw c.in-At.is at c.mark_at.ensures in
    walk_loops c.args.starts.now c.args.targets.now c.requires.graph c.args.marks.now.items c.requires.top.0 c.args.order.now.items c.args.top c.in-At.at
    c.number_at-next.result c.in-At-mark_at.field-0 c.start_at.result
    (rw c.requires.top.1 at c.requires.walk) h c.start_at.ensures c.if-at-start_at.false c.number_at-next.ensures (rw c.in-At-mark_at.is at c.mark_at-2.ensures)
