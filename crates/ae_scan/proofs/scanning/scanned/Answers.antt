-- The mark, the sweep and the loops, one after another.
use Rattle.std.proofs.Common.{◌-◌, ◌*◌, ◌∙◌, refl, arith, ℕ, ◌≤◌}
use Rattle.ae_gates.proofs.Adding.{grows_trans}
use Rattle.ae_clocked.proofs.Belonging.{belongs_grows}
use Rattle.ae_fold.proofs.Looping.{overs_grow, nets_grow}
use Rattle.ae_fold.proofs.Marking.{marks_grow, marks_net, marks_place, marks_turn, marks_wait}
use Rattle.ae_fold.proofs.Ending.{ends_long, ends_scan}
use Rattle.ae_scan.proofs.Counting.{last_lane, last_lane_is, scan_adds, whole_lanes, loops_room}
use Rattle.std.proofs.Math.Nat.{mul-le-mul_right}
use Rattle.ae_scan.proofs.scanning.scanned.Goals as goal

last_small : (lanes stride : ℕ) → lanes ≤ 4096 → stride ≤ 16384 → (lanes - 1) * stride ≤ 67108864
last_small lanes stride few small =
    let up : (lanes - 1) * stride ≤ 4096 * stride = mul-le-mul_right stride (let n : lanes - 1 ≤ 4096 = omega arith in n) in
    omega arith

pub over_slots-requires-clause-mark : goal.over_slots-requires-clause-mark
over_slots-requires-clause-mark c =
    marks_net _ _ _ _ _ _ c.in_ok-found.found (marks_grow _ _ _ _ _ _ _ c.in_ok-found.found c.in_ok-sums.ensures.adds.grows.extends c.in_ok-found.ensures.marks)

pub over_slots-requires-clause-place : goal.over_slots-requires-clause-place
over_slots-requires-clause-place c =
    marks_place _ _ _ _ _ _ c.in_ok-found.found (marks_grow _ _ _ _ _ _ _ c.in_ok-found.found c.in_ok-sums.ensures.adds.grows.extends
    c.in_ok-found.ensures.marks)

pub returns-clause-belongs : goal.returns-clause-belongs
returns-clause-belongs c = belongs_grows _ _ _ (grows_trans c.in_ok-sums.ensures.adds.grows c.in_ok-outs.ensures.adds.grows) c.in_ok-found.ensures.belongs

pub returns-clause-adds : goal.returns-clause-adds
returns-clause-adds c =
    scan_adds _ _ _ _ c.args.plan c.in_ok-found.found _ _ _
    (marks_wait _ _ _ _ _ _ c.in_ok-found.found c.in_ok-found.ensures.marks) c.in_ok-sums.ensures.long refl c.in_ok-found.ensures.adds
    c.in_ok-sums.ensures.adds c.in_ok-outs.ensures.adds

pub over_slots-requires-clause-last : goal.over_slots-requires-clause-last
over_slots-requires-clause-last c = last_lane c.args.plan.lanes c.args.plan.stride _ c.requires.plan.wide c.in_ok-sums.ensures.long

pub over_slots-requires-clause-lanes : goal.over_slots-requires-clause-lanes
over_slots-requires-clause-lanes c = whole_lanes (c.args.plan.lanes - 1) c.args.plan.stride c.requires.plan.placed

pub returns-clause-long : goal.returns-clause-long
returns-clause-long c =
    let turned = marks_grow _ _ _ _ _ _ _ c.in_ok-found.found c.in_ok-sums.ensures.adds.grows.extends c.in_ok-found.ensures.marks in
    let last = last_lane c.args.plan.lanes c.args.plan.stride _ c.requires.plan.wide c.in_ok-sums.ensures.long in
    ends_long _ c.args.clocks.now.rst _ c.in_ok-sums.sums.items
    ((c.args.plan.lanes - 1) * c.args.plan.stride) c.args.plan.stride _ c.in_ok-found.found c.in_ok-outs.outs.items last
    (c.in_ok-outs.ensures.ends _ (marks_turn _ _ _ _ _ _ c.in_ok-found.found turned)) ∙ last_lane_is c.args.plan.lanes c.args.plan.stride c.requires.plan.wide

pub returns-clause-scans : goal.returns-clause-scans
returns-clause-scans c =
    let turned = marks_grow _ _ _ _ _ _ _ c.in_ok-found.found c.in_ok-sums.ensures.adds.grows.extends c.in_ok-found.ensures.marks in
    let later = grows_trans c.in_ok-sums.ensures.adds.grows c.in_ok-outs.ensures.adds.grows in
    let last = last_lane c.args.plan.lanes c.args.plan.stride _ c.requires.plan.wide c.in_ok-sums.ensures.long in
    ends_scan _ _ c.args.folds.now c.args.ins.now c.args.plan c.args.arrival 0 ((c.args.plan.lanes - 1) * c.args.plan.stride) 0
    (c.args.plan.lanes - 1) c.in_ok-sums.sums.items c.in_ok-found.found c.in_ok-outs.outs.items c.requires.plan c.requires.folds c.requires.whole
    (omega arith) refl (omega (arith, c.requires.plan.wide)) last
    (overs_grow c.in_ok-outs.ensures.adds.grows.extends (rw c.in_ok-nets.ensures.ok at c.in_ok-sums.ensures.words))
    (marks_grow _ _ _ _ _ _ _ c.in_ok-found.found later.extends c.in_ok-found.ensures.marks)
    (c.in_ok-outs.ensures.ends _ (marks_turn _ _ _ _ _ _ c.in_ok-found.found turned))

pub mark-requires-clause-plan : goal.mark-requires-clause-plan
mark-requires-clause-plan c = c.requires.plan

pub mark-requires-clause-belongs : goal.mark-requires-clause-belongs
mark-requires-clause-belongs c = c.requires.belongs

pub returns-clause-keeps : goal.returns-clause-keeps
returns-clause-keeps c = c.in_ok-found.ensures.keeps

pub sweep-requires-clause-folds : goal.sweep-requires-clause-folds
sweep-requires-clause-folds c = c.requires.folds

pub sweep-requires-clause-nets : goal.sweep-requires-clause-nets
sweep-requires-clause-nets c = rw c.in_ok-nets.ensures.ok (nets_grow c.in_ok-found.ensures.adds.grows.extends c.requires.nets)

pub sweep-requires-clause-long : goal.sweep-requires-clause-long
sweep-requires-clause-long c = rw c.in_ok-nets.ensures.ok c.requires.long

pub sweep-requires-clause-some : goal.sweep-requires-clause-some
sweep-requires-clause-some c = c.requires.plan.wide

pub sweep-requires-clause-few : goal.sweep-requires-clause-few
sweep-requires-clause-few c = c.requires.plan.few

pub sweep-requires-clause-deep : goal.sweep-requires-clause-deep
sweep-requires-clause-deep c = c.requires.plan.deep

pub sweep-requires-clause-placed : goal.sweep-requires-clause-placed
sweep-requires-clause-placed c = c.requires.plan.placed

pub sweep-requires-clause-small : goal.sweep-requires-clause-small
sweep-requires-clause-small c = c.requires.plan.small

pub sweep-requires-clause-whole : goal.sweep-requires-clause-whole
sweep-requires-clause-whole c = c.requires.whole

pub over_slots-requires-clause-folds : goal.over_slots-requires-clause-folds
over_slots-requires-clause-folds c = c.requires.folds

pub over_slots-requires-clause-nets : goal.over_slots-requires-clause-nets
over_slots-requires-clause-nets c = c.in_ok-sums.ensures.nets

pub over_slots-requires-clause-lasting : goal.over_slots-requires-clause-lasting
over_slots-requires-clause-lasting c = c.requires.plan.lasting

pub over_slots-requires-clause-placed : goal.over_slots-requires-clause-placed
over_slots-requires-clause-placed c = c.requires.plan.placed

pub over_slots-requires-clause-whole : goal.over_slots-requires-clause-whole
over_slots-requires-clause-whole c = c.requires.whole

pub sweep-requires-clause-least : goal.sweep-requires-clause-least
sweep-requires-clause-least c = c.requires.plan.least

pub overflow_sub-last : goal.overflow_sub-last
overflow_sub-last c = omega (arith, c.requires.plan.wide)

pub overflow_mul-last : goal.overflow_mul-last
overflow_mul-last c = omega (arith, last_small c.args.plan.lanes c.args.plan.stride c.requires.plan.few c.requires.plan.small)

pub mark-requires-clause-room : goal.mark-requires-clause-room
mark-requires-clause-room c = omega (arith, c.requires.room)

pub sweep-requires-clause-room : goal.sweep-requires-clause-room
sweep-requires-clause-room c = omega (arith, c.requires.room, c.in_ok-found.ensures.adds.cells, c.in_ok-found.ensures.adds.grows.limit)

pub over_slots-requires-clause-room : goal.over_slots-requires-clause-room
over_slots-requires-clause-room c =
    let part = loops_room c.args.plan c.in_ok-found.found ((c.args.plan.lanes - 1) * c.args.plan.stride)
    (marks_wait _ _ _ _ _ _ c.in_ok-found.found c.in_ok-found.ensures.marks) refl in
    omega (
      arith,
      c.requires.room,
      part,
      c.in_ok-found.ensures.adds.cells,
      c.in_ok-found.ensures.adds.grows.limit,
      c.in_ok-sums.ensures.adds.cells,
      c.in_ok-sums.ensures.adds.grows.limit,
    )
