-- The marks, one behind the other.
use Rattle.std.proofs.Common.{◌<◌, ◌%◌, map, ap, arith}
use Rattle.std.proofs.lemmas.Nat.{mod_below}
use Rattle.ae_sttype.specs.StTree.{st_tree}
use Rattle.ae_clocked.specs.Phases.{Kept}
use Rattle.ae_streamed.proofs.Counted.{marks5}
use Rattle.ae_streamed.proofs.Gained.{belongs_new, has_marks}
use Rattle.ae_streamed.proofs.marking.add_marks.Goals as goal

pub period_bit-requires-clause-belongs : goal.period_bit-requires-clause-belongs
period_bit-requires-clause-belongs c = belongs_new c.new-clocks.result c.args.nl.now.cells c.new-clocks.ensures c.requires.reset

pub returns-clause-adds : goal.returns-clause-adds
returns-clause-adds c =
    marks5 (map st_tree c.args.inputs.now) (map st_tree c.args.outputs.now) c.in_ok-first.ensures.adds c.in_ok-last.ensures.adds c.in_ok-wants.ensures.adds
    c.in_ok-late.ensures.adds c.in_ok-behind.ensures.adds

pub returns-clause-marks : goal.returns-clause-marks
returns-clause-marks c =
    let period = c.clocks-period.result in
    let low : c.args.latency % period < period = mod_below c.args.latency period c.clocks-period.ensures.some in
    rw (← c.clocks-period.ensures.is)
    (has_marks c.args.nl.now c.period_bit.new.nl c.period_bit-2.new.nl c.beat.new.nl c.beat-2.new.nl c.period_bit-3.new.nl
    c.new-clocks.result c.period_bit.new.clocks c.period_bit-2.new.clocks c.beat.new.clocks c.beat-2.new.clocks c.period_bit-3.new.clocks
    (record { first = c.in_ok-first.first; last = c.in_ok-last.last; wants = c.in_ok-wants.wants; late = c.in_ok-late.late; behind = c.in_ok-behind.behind })
    period (c.args.latency % period) (map st_tree c.args.inputs.now) (map st_tree c.args.outputs.now) c.clocks-period.ensures.some low
    (ap (λ (k : Kept). k.rst) c.new-clocks.ensures) c.in_ok-first.ensures.gains c.in_ok-last.ensures.gains c.in_ok-wants.ensures.gains
    c.in_ok-late.ensures.gains c.in_ok-behind.ensures.gains)

pub period_bit-requires-2-clause-room : goal.period_bit-requires-2-clause-room
period_bit-requires-2-clause-room c = omega (arith, c.requires.room, c.in_ok-first.ensures.adds.cells, c.in_ok-first.ensures.adds.grows.limit)

pub beat-requires-clause-room : goal.beat-requires-clause-room
beat-requires-clause-room c =
    omega (
      arith,
      c.requires.room,
      c.in_ok-first.ensures.adds.cells,
      c.in_ok-first.ensures.adds.grows.limit,
      c.in_ok-last.ensures.adds.cells,
      c.in_ok-last.ensures.adds.grows.limit,
    )

pub beat-requires-2-clause-room : goal.beat-requires-2-clause-room
beat-requires-2-clause-room c =
    omega (
      arith,
      c.requires.room,
      c.in_ok-first.ensures.adds.cells,
      c.in_ok-first.ensures.adds.grows.limit,
      c.in_ok-last.ensures.adds.cells,
      c.in_ok-last.ensures.adds.grows.limit,
      c.in_ok-wants.ensures.adds.cells,
      c.in_ok-wants.ensures.adds.grows.limit,
    )

pub period_bit-requires-3-clause-room : goal.period_bit-requires-3-clause-room
period_bit-requires-3-clause-room c =
    omega (
      arith,
      c.requires.room,
      c.in_ok-first.ensures.adds.cells,
      c.in_ok-first.ensures.adds.grows.limit,
      c.in_ok-last.ensures.adds.cells,
      c.in_ok-last.ensures.adds.grows.limit,
      c.in_ok-wants.ensures.adds.cells,
      c.in_ok-wants.ensures.adds.grows.limit,
      c.in_ok-late.ensures.adds.cells,
      c.in_ok-late.ensures.adds.grows.limit,
    )
