-- A mark decides between two words.
use Rattle.std.proofs.Common.{get_or, arith}
use Rattle.std.proofs.lemmas.Option.{slice_get-get_or}
use Rattle.ae_gates.proofs.Adding.{grows_trans}
use Rattle.ae_clocked.proofs.Belonging.{belongs_grows}
use Rattle.ae_columns.specs.declared.steps.Step.{Step}
use Rattle.ae_moves.specs.declared.trip.Choice.TheVariants.{Delayed}
use Rattle.ae_columns.proofs.Choosing.{columns_two, phase_grows, ready_grows}
use Rattle.ae_netlist.proofs.Growing.{net_later}
use Rattle.ae_columns.proofs.choices.select_two.Goals as goal

abbrev no_step : Step
no_step = record { from = 0; take = Delayed 0 0; tap = 0 }

pub source-requires-clause-ready : goal.source-requires-clause-ready
source-requires-clause-ready c = c.requires.ready.ready 0 _ (slice_get-get_or c.args.steps.now 0 no_step (omega (arith, c.requires.two)))

pub marked-requires-clause-belongs : goal.marked-requires-clause-belongs
marked-requires-clause-belongs c = belongs_grows _ _ _ c.in_ok-first.ensures.adds.grows c.requires.belongs

pub marked-requires-clause-phase : goal.marked-requires-clause-phase
marked-requires-clause-phase c = phase_grows c.in_ok-first.ensures.adds.grows.extends c.requires.phase

pub marked-requires-clause-within : goal.marked-requires-clause-within
marked-requires-clause-within c =
    let below = c.requires.ready.within 1 _ (slice_get-get_or c.args.steps.now 1 no_step (omega (arith, c.requires.two))) in
    omega (arith, below, c.requires.phase.limited)

pub choose_by-requires-clause-ready : goal.choose_by-requires-clause-ready
choose_by-requires-clause-ready c =
    rw c.in_ok-early.ensures.keeps.rst
    (ready_grows _ _ _ _ _ _ _ _ (grows_trans c.in_ok-first.ensures.adds.grows c.in_ok-early.ensures.adds.grows).extends
    (c.requires.ready.ready 1 _ (slice_get-get_or c.args.steps.now 1 no_step (omega (arith, c.requires.two)))))

pub returns-clause-belongs : goal.returns-clause-belongs
returns-clause-belongs c = belongs_grows _ _ _ c.in_ok-y.ensures.adds.grows c.in_ok-early.ensures.belongs

pub returns-clause-column : goal.returns-clause-column
returns-clause-column c =
    columns_two _ _ _ _ _ c.args.phase.net.0 c.args.phase.limit c.args.ins.now c.args.steps.now
    (get_or c.args.steps.now 0 no_step) (get_or c.args.steps.now 1 no_step) c.in_ok-first.first c.in_ok-early.early _ c.requires.two
    (slice_get-get_or c.args.steps.now 0 no_step (omega (arith, c.requires.two)))
    (slice_get-get_or c.args.steps.now 1 no_step (omega (arith, c.requires.two)))
    c.in_ok-early.ensures.adds.grows.extends c.in_ok-first.ensures.source c.in_ok-early.ensures.marks
    (rw c.in_ok-early.ensures.keeps.rst at c.in_ok-y.ensures.column)

pub marked-requires-clause-room : goal.marked-requires-clause-room
marked-requires-clause-room c = omega (arith, c.requires.room, c.in_ok-first.ensures.adds.cells, c.in_ok-first.ensures.adds.grows.limit)

pub choose_by-requires-clause-room : goal.choose_by-requires-clause-room
choose_by-requires-clause-room c =
    omega (
      arith,
      c.requires.room,
      c.in_ok-first.ensures.adds.cells,
      c.in_ok-first.ensures.adds.grows.limit,
      c.in_ok-early.ensures.adds.cells,
      c.in_ok-early.ensures.adds.grows.limit,
    )

pub choose_by-requires-clause-before : goal.choose_by-requires-clause-before
choose_by-requires-clause-before c = net_later c.in_ok-early.ensures.adds.grows.extends c.in_ok-first.ensures.source.net
