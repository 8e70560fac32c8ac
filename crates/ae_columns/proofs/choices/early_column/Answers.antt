use Rattle.std.proofs.Common.{arith, get_or}
use Rattle.std.proofs.lemmas.Option.{slice_get-get_or}
use Rattle.ae_gates.proofs.Adding.{adds_trans, net_added}
use Rattle.ae_clocked.proofs.Belonging.{belongs_grows}
use Rattle.ae_moves.specs.declared.trip.Choice.TheVariants.{Delayed}
use Rattle.ae_columns.specs.declared.steps.Step.{Step}
use Rattle.ae_columns.specs.Plans.{choice_in}
use Rattle.ae_columns.specs.Early.{first_phase}
use Rattle.ae_columns.proofs.Registered.{early_of}
use Rattle.ae_columns.proofs.choices.early_column.Goals as goal

abbrev no_step : Step
no_step = record { from = 0; take = Delayed 0 0; tap = 0 }

pub returns-clause-column : goal.returns-clause-column
returns-clause-column c =
    let there = slice_get-get_or c.args.steps.now c.step_in-first.result no_step c.step_in-first.ensures.within in
    early_of _ _ _ _ c.args.phase.net.0 c.args.phase.limit (first_phase c.args.phase) c.args.ins.now (λ p. choice_in p c.args.steps.now) _ _
    (get_or c.args.steps.now c.step_in-first.result no_step).take
    (c.step_in-first.ensures.is _ there) c.in_ok-net.ensures.column (rw c.in_ok-net.ensures.keeps.rst at c.in_ok-y.ensures.column)

pub returns-clause-adds : goal.returns-clause-adds
returns-clause-adds c = adds_trans c.in_ok-net.ensures.adds c.in_ok-y.ensures.adds

pub registered-requires-clause-reset : goal.registered-requires-clause-reset
registered-requires-clause-reset c = rw c.in_ok-net.ensures.keeps.rst (net_added c.in_ok-net.ensures.adds c.requires.phase.reset)

pub registered-requires-clause-net : goal.registered-requires-clause-net
registered-requires-clause-net c = c.in_ok-net.ensures.column.net

pub returns-clause-belongs : goal.returns-clause-belongs
returns-clause-belongs c = belongs_grows _ _ _ c.in_ok-y.ensures.adds.grows c.in_ok-net.ensures.belongs

pub registered-requires-clause-fits : goal.registered-requires-clause-fits
registered-requires-clause-fits c = λ w is.
    rw is at (c.requires.ready.ready c.step_in-first.result _ (slice_get-get_or c.args.steps.now c.step_in-first.result no_step c.step_in-first.ensures.within))

pub registered-requires-clause-room : goal.registered-requires-clause-room
registered-requires-clause-room c = omega (arith, c.requires.room, c.in_ok-net.ensures.adds.cells, c.in_ok-net.ensures.adds.grows.limit)
