-- The mark, the tree and the loops, one after another.
use Rattle.std.proofs.Common.{◌≤◌, ◌≡◌, ◌+◌, ◌-◌, ◌*◌, length, refl, arith, ap, ◌∙◌, Option}
use Rattle.ae_gates.proofs.Adding.{grows_trans}
use Rattle.ae_clocked.proofs.Belonging.{belongs_grows}
use Rattle.ae_fold.proofs.Looping.{overs_grow, nets_grow}
use Rattle.ae_fold.proofs.Marking.{marks_grow, marks_net, marks_place, marks_turn, marks_wait}
use Rattle.ae_fold.proofs.Ending.{ends_long, ends_scan}
use Rattle.ae_reduce.proofs.Counting.{reduce_adds}
use Rattle.std.proofs.Math.Nat.{mod-eq_of_lt}
use Rattle.ae_fold.specs.declared.plan.Plan.{Plan}
use Rattle.ae_fold.specs.declared.marks.SlotMark.{SlotMark}
use Rattle.ae_fold.specs.Rows.{marks_in, wait_of}
use Rattle.ae_reduce.specs.Reduces.{reduce_cells}
use Rattle.ae_reduce.proofs.reducing.reduced.Goals as goal

-- the loops have room behind the mark and the tree
loops_room : (plan : Plan) (mark : Option SlotMark) → marks_in mark ≡ wait_of plan.slots
    → wait_of plan.slots * 33 + (9 * (plan.lanes * plan.stride) + plan.levels * plan.stride) + marks_in mark * (plan.stride * (plan.inner + 9) + 0 * 10)
    ≤ reduce_cells plan
loops_room plan mark w =
    let s : plan.stride * (plan.inner + 9) + 0 * 10 ≡ plan.stride * (plan.inner + 9) = omega arith in
    let cells : marks_in mark * (plan.stride * (plan.inner + 9) + 0 * 10) ≡ wait_of plan.slots * (plan.stride * (plan.inner + 9)) =
    ap (λ k. marks_in mark * k) s ∙ ap (λ k. k * (plan.stride * (plan.inner + 9))) w in
    omega arith

pub over_slots-requires-clause-mark : goal.over_slots-requires-clause-mark
over_slots-requires-clause-mark c =
    marks_net _ _ _ _ _ _ c.in_ok-found.found (marks_grow _ _ _ _ _ _ _ c.in_ok-found.found c.in_ok-sums.ensures.adds.grows.extends c.in_ok-found.ensures.marks)

pub over_slots-requires-clause-place : goal.over_slots-requires-clause-place
over_slots-requires-clause-place c =
    marks_place _ _ _ _ _ _ c.in_ok-found.found (marks_grow _ _ _ _ _ _ _ c.in_ok-found.found c.in_ok-sums.ensures.adds.grows.extends
    c.in_ok-found.ensures.marks)

pub returns-clause-belongs : goal.returns-clause-belongs
returns-clause-belongs c = belongs_grows _ _ _ (grows_trans c.in_ok-sums.ensures.adds.grows c.in_ok-outs.ensures.adds.grows) c.in_ok-found.ensures.belongs

pub returns-clause-adds : goal.returns-clause-adds
returns-clause-adds c =
    reduce_adds _ _ _ _ c.args.plan c.in_ok-found.found _ _
    (marks_wait _ _ _ _ _ _ c.in_ok-found.found c.in_ok-found.ensures.marks) c.in_ok-sums.ensures.long c.in_ok-found.ensures.adds c.in_ok-sums.ensures.adds
    c.in_ok-outs.ensures.adds

pub returns-clause-long : goal.returns-clause-long
returns-clause-long c =
    let turned = marks_grow _ _ _ _ _ _ _ c.in_ok-found.found c.in_ok-sums.ensures.adds.grows.extends c.in_ok-found.ensures.marks in
    let e : length c.in_ok-outs.outs.items ≡ 0 + c.args.plan.stride = ends_long _ c.args.clocks.now.rst _ c.in_ok-sums.sums.items 0 c.args.plan.stride _
    c.in_ok-found.found
    c.in_ok-outs.outs.items (omega (arith, c.in_ok-sums.ensures.long)) (c.in_ok-outs.ensures.ends _ (marks_turn _ _ _ _ _ _ c.in_ok-found.found turned)) in
    omega arith

pub returns-clause-scans : goal.returns-clause-scans
returns-clause-scans c =
    let turned = marks_grow _ _ _ _ _ _ _ c.in_ok-found.found c.in_ok-sums.ensures.adds.grows.extends c.in_ok-found.ensures.marks in
    let later = grows_trans c.in_ok-sums.ensures.adds.grows c.in_ok-outs.ensures.adds.grows in
    ends_scan _ _ c.args.folds.now c.args.ins.now c.args.plan c.args.arrival ((c.args.plan.lanes - 1) * c.args.plan.stride) 0
    (c.args.plan.lanes - 1) 0 c.in_ok-sums.sums.items c.in_ok-found.found c.in_ok-outs.outs.items c.requires.plan c.requires.folds c.requires.whole
    refl (omega arith) (omega (arith, c.requires.plan.wide)) (omega (arith, c.in_ok-sums.ensures.long))
    (overs_grow c.in_ok-outs.ensures.adds.grows.extends (rw c.in_ok-nets.ensures.ok at c.in_ok-sums.ensures.words))
    (marks_grow _ _ _ _ _ _ _ c.in_ok-found.found later.extends c.in_ok-found.ensures.marks)
    (c.in_ok-outs.ensures.ends _ (marks_turn _ _ _ _ _ _ c.in_ok-found.found turned))

pub mark-requires-clause-plan : goal.mark-requires-clause-plan
mark-requires-clause-plan c = c.requires.plan

pub mark-requires-clause-belongs : goal.mark-requires-clause-belongs
mark-requires-clause-belongs c = c.requires.belongs

pub returns-clause-keeps : goal.returns-clause-keeps
returns-clause-keeps c = c.in_ok-found.ensures.keeps

pub tree-requires-clause-folds : goal.tree-requires-clause-folds
tree-requires-clause-folds c = c.requires.folds

pub tree-requires-clause-nets : goal.tree-requires-clause-nets
tree-requires-clause-nets c = rw c.in_ok-nets.ensures.ok (nets_grow c.in_ok-found.ensures.adds.grows.extends c.requires.nets)

pub tree-requires-clause-long : goal.tree-requires-clause-long
tree-requires-clause-long c = rw c.in_ok-nets.ensures.ok c.requires.long

pub tree-requires-clause-some : goal.tree-requires-clause-some
tree-requires-clause-some c = c.requires.plan.wide

pub tree-requires-clause-few : goal.tree-requires-clause-few
tree-requires-clause-few c = c.requires.plan.few

pub tree-requires-clause-deep : goal.tree-requires-clause-deep
tree-requires-clause-deep c = c.requires.plan.deep

pub tree-requires-clause-placed : goal.tree-requires-clause-placed
tree-requires-clause-placed c = c.requires.plan.placed

pub tree-requires-clause-small : goal.tree-requires-clause-small
tree-requires-clause-small c = c.requires.plan.small

pub tree-requires-clause-whole : goal.tree-requires-clause-whole
tree-requires-clause-whole c = c.requires.whole

pub over_slots-requires-clause-folds : goal.over_slots-requires-clause-folds
over_slots-requires-clause-folds c = c.requires.folds

pub over_slots-requires-clause-nets : goal.over_slots-requires-clause-nets
over_slots-requires-clause-nets c = c.in_ok-sums.ensures.nets

pub over_slots-requires-clause-lasting : goal.over_slots-requires-clause-lasting
over_slots-requires-clause-lasting c = c.requires.plan.lasting

pub over_slots-requires-clause-placed : goal.over_slots-requires-clause-placed
over_slots-requires-clause-placed c = c.requires.plan.placed

pub over_slots-requires-clause-whole : goal.over_slots-requires-clause-whole
over_slots-requires-clause-whole c = c.requires.whole

pub over_slots-requires-clause-last : goal.over_slots-requires-clause-last
over_slots-requires-clause-last c = omega (arith, c.in_ok-sums.ensures.long)

pub over_slots-requires-clause-lanes : goal.over_slots-requires-clause-lanes
over_slots-requires-clause-lanes c = mod-eq_of_lt (omega (arith, c.requires.plan.placed))

pub mark-requires-clause-room : goal.mark-requires-clause-room
mark-requires-clause-room c = omega (arith, c.requires.room)

pub tree-requires-clause-room : goal.tree-requires-clause-room
tree-requires-clause-room c = omega (arith, c.requires.room, c.in_ok-found.ensures.adds.cells, c.in_ok-found.ensures.adds.grows.limit)

pub over_slots-requires-clause-room : goal.over_slots-requires-clause-room
over_slots-requires-clause-room c =
    let part = loops_room c.args.plan c.in_ok-found.found (marks_wait _ _ _ _ _ _ c.in_ok-found.found c.in_ok-found.ensures.marks) in
    omega (
      arith,
      c.requires.room,
      part,
      c.in_ok-found.ensures.adds.cells,
      c.in_ok-found.ensures.adds.grows.limit,
      c.in_ok-sums.ensures.adds.cells,
      c.in_ok-sums.ensures.adds.grows.limit,
    )
