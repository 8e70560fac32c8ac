-- The netlist with room, its marks, and what is put around them.
use Rattle.std.proofs.lemmas.Result.{err_from_is_err_and}
use Rattle.std.proofs.Common.{◌≡◌, ◌+◌, ◌/◌, ◌∙◌, inl, inr, Some, slice_get, length, map, refl, ap, arith}
use Rattle.ae_sttype.specs.StTree.{st_tree}
use Rattle.ae_netlist.specs.Circuit.{Circuit}
use Rattle.ae_stall.specs.Copies.{reset_cell}
use Rattle.ae_streamed.proofs.Between.{blocks_few, is_stream, same_stream, wait_few, wait_long}
use Rattle.ae_streamed.proofs.Within.{some_columns, within}
use Rattle.ae_streamed.proofs.Counted.{marks_few, marks_some}
use Rattle.ae_streamed.proofs.streaming.stream.Goals as goal
use Rattle.ae_streamed.proofs.streaming.stream.Goals.{then-len-gt-MARKED_LIMIT-via-then-len-gt-MARKED_LIMIT, then-len-gt-MARKED_LIMIT-via-else-len-gt-MARKED_LIMIT+then-inputs-gt-MOST_LAYOUTS, then-len-gt-MARKED_LIMIT-via-else-len-gt-MARKED_LIMIT+else-inputs-gt-MOST_LAYOUTS+then-outputs-gt-MOST_LAYOUTS}

first_is : (a b : Circuit) → a.cells ≡ b.cells → slice_get b.cells 0 ≡ Some reset_cell → slice_get a.cells 0 ≡ Some reset_cell
first_is a b e h = ap (λ v. slice_get v 0) e ∙ h

pub add_marks-requires-clause-reset : goal.add_marks-requires-clause-reset
add_marks-requires-clause-reset c =
    record {
      sized = reset_cell;
      found = first_is c.in_ok-marked.marked c.args.nl.now
          (ap (λ (v : Circuit). v.cells) c.in_ok-marked.ensures) c.requires.reset;
      plain = tt;
      wide = refl;
    }

pub add_marks-requires-clause-room : goal.add_marks-requires-clause-room
add_marks-requires-clause-room c =
    let few = marks_few c.args.inputs.now c.args.outputs.now (λ k s found. (c.requires.inputs.each k s found).0.in_depth)
    (λ k s found. (c.requires.outputs.each k s found).0.in_depth) in
    rw c.in_ok-marked.ensures (omega (arith, few))

pub wrap-requires-clause-reset : goal.wrap-requires-clause-reset
wrap-requires-clause-reset c =
    c.in_ok-m.ensures.adds.grows.extends.keeps 0 reset_cell
    (first_is c.in_ok-marked.marked c.args.nl.now (ap (λ (v : Circuit). v.cells) c.in_ok-marked.ensures) c.requires.reset)

pub wrap-requires-clause-most : goal.wrap-requires-clause-most
wrap-requires-clause-most c =
    omega arith

pub wrap-requires-clause-outlets : goal.wrap-requires-clause-outlets
wrap-requires-clause-outlets c =
    omega (arith, ap length c.in_ok-m.ensures.adds.grows.outlets, ap (λ (v : Circuit). length v.outlets) c.in_ok-marked.ensures, c.requires.few)

pub wrap-requires-clause-marks : goal.wrap-requires-clause-marks
wrap-requires-clause-marks c =
    let m = c.in_ok-m.ensures.marks in
    record { first = m.first.net; last = m.last.net; wants = m.wants.net; late = m.late.net; behind = m.behind.net }

pub wrap-requires-clause-few : goal.wrap-requires-clause-few
wrap-requires-clause-few c = omega (arith, blocks_few c.args.latency c.clocks-period.result c.clocks-period.ensures.some, c.requires.late)

pub wrap-requires-clause-waits : goal.wrap-requires-clause-waits
wrap-requires-clause-waits c =
    omega (
      arith,
      wait_few c.args.latency c.clocks-period.result c.last_beat.result c.clocks-period.ensures.some
          (rw (← c.clocks-period.ensures.is) at c.last_beat.ensures.below),
      blocks_few c.args.latency c.clocks-period.result c.clocks-period.ensures.some,
    )

pub returns-clause-stream : goal.returns-clause-stream
returns-clause-stream c =
    rw (← c.clocks-period.ensures.is)
    (same_stream c.args.nl.now c.in_ok-new.new c.clocks-period.result c.args.latency _ (map st_tree c.args.inputs.now) (map st_tree c.args.outputs.now)
    (is_stream _ c.add_marks.new.nl c.in_ok-new.new c.in_ok-m.m c.clocks-period.result c.args.latency
    ((c.args.latency + c.last_beat.result) / c.clocks-period.result)
    (map st_tree c.args.inputs.now) (map st_tree c.args.outputs.now)
    c.clocks-period.ensures.some c.formed.ensures.cells c.formed.ensures.outlets c.has_one_run.ensures
    (rw c.in_ok-marked.ensures at c.in_ok-m.ensures.adds) c.formed-2.ensures.cells
    (rw (← c.clocks-period.ensures.is) at c.in_ok-m.ensures.marks) c.in_ok-new.ensures.wrapped
    (λ k y. wait_long c.args.latency c.clocks-period.result c.last_beat.result k c.clocks-period.ensures.some (c.last_beat.ensures.last.greatest k y))
    (within c.args.inputs.now c.clocks-period.result (rw (← c.clocks-period.ensures.is) at c.requires.inputs))
    (within c.args.outputs.now c.clocks-period.result (rw (← c.clocks-period.ensures.is) at c.requires.outputs)) c.requires.ins c.requires.outs
    (some_columns c.args.outputs.now c.clocks-period.result (rw (← c.clocks-period.ensures.is) at c.requires.outputs))
    c.held_circuits_are_inside.ensures c.held_marks_are_seen.ensures c.wired_controls_are_driven.ensures c.driven_circuits_stream.ensures
    c.driven_circuits_keep_words.ensures c.driven_circuits_go_on.ensures
    c.wired_controls_have_no_paths.ensures))

pub returns-in_err-new-clause-full : goal.returns-in_err-new-clause-full
returns-in_err-new-clause-full c =
    let full = rw c.clocks-period.ensures.is at c.in_err-new.ensures.full in
    let p = err_from_is_err_and c.from_residual-in_err-new.result c.from_residual-in_err-new.ensures.1 in
    rw (p.1, p.2) (λ e.
    let adds = c.in_ok-m.ensures.adds in
    let long : length c.in_ok-marked.marked.cells ≡ length c.args.nl.now.cells = ap (λ (v : Circuit). length v.cells) c.in_ok-marked.ensures in
    let shown : length c.in_ok-marked.marked.outlets ≡ length c.args.nl.now.outlets = ap (λ (v : Circuit). length v.outlets) c.in_ok-marked.ensures in
    inr (omega (arith, full e, adds.cells, ap length adds.grows.outlets, long, shown)))

pub returns-then-len-gt-MARKED_LIMIT-clause-full : goal.returns-then-len-gt-MARKED_LIMIT-clause-full
returns-then-len-gt-MARKED_LIMIT-clause-full c =
    let some = marks_some c.args.inputs.now c.args.outputs.now in
    λ e. inl (elim c.then-len-gt-MARKED_LIMIT.branch [
      | then-len-gt-MARKED_LIMIT-via-then-len-gt-MARKED_LIMIT w ↦ omega (arith, w.if-len-gt-MARKED_LIMIT)
      | then-len-gt-MARKED_LIMIT-via-else-len-gt-MARKED_LIMIT+then-inputs-gt-MOST_LAYOUTS w ↦ omega (arith, w.if-inputs-gt-MOST_LAYOUTS, some)
      | then-len-gt-MARKED_LIMIT-via-else-len-gt-MARKED_LIMIT+else-inputs-gt-MOST_LAYOUTS+then-outputs-gt-MOST_LAYOUTS
          w ↦ omega (arith, w.if-outputs-gt-MOST_LAYOUTS, some)
    ])
