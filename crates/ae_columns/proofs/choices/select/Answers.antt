use Rattle.std.proofs.Common.{get_or, arith}
use Rattle.std.proofs.lemmas.Option.{slice_get-get_or}
use Rattle.ae_gates.proofs.Adding.{adds_most, adds_trans}
use Rattle.ae_columns.specs.declared.steps.Step.{Step}
use Rattle.ae_moves.specs.declared.trip.Choice.TheVariants.{Delayed}
use Rattle.ae_columns.proofs.Choosing.{first_column, next_column, whole_column, phase_grows, ready_grows}
use Rattle.ae_columns.proofs.Counted.{counted_most, counted_trans}
use Rattle.ae_columns.proofs.choices.select.Goals as goal

no_step : Step
no_step = record { from = 0; take = Delayed 0 0; tap = 0 }

pub loop-k-init : goal.loop-k-init
unfolding no_step
loop-k-init c =
    record {
      adds = c.in_ok-net.ensures.adds;
      counted = c.in_ok-net.ensures.counted;
      within = c.requires.begun;
      column = first_column _ _ _ _ _ _ c.args.steps.now (get_or c.args.steps.now 0 no_step) _
          (slice_get-get_or c.args.steps.now 0 no_step c.requires.begun) c.in_ok-net.ensures.source;
    }

pub choose_from-requires-clause-phase : goal.choose_from-requires-clause-phase
choose_from-requires-clause-phase c = phase_grows c.loop-k.invariant.adds.grows.extends c.requires.phase

pub choose_from-requires-clause-within : goal.choose_from-requires-clause-within
unfolding no_step
choose_from-requires-clause-within c = c.requires.ready.within c.loop-k.k _ (slice_get-get_or c.args.steps.now c.loop-k.k no_step c.loop-k-test.true)

pub choose_from-requires-clause-ready : goal.choose_from-requires-clause-ready
unfolding no_step
choose_from-requires-clause-ready c =
    ready_grows _ _ _ _ _ _ _ _ c.loop-k.invariant.adds.grows.extends
    (c.requires.ready.ready c.loop-k.k _ (slice_get-get_or c.args.steps.now c.loop-k.k no_step c.loop-k-test.true))

pub loop-k-preserved : goal.loop-k-preserved
unfolding no_step
loop-k-preserved c =
    record {
      adds = adds_most _ (omega (arith, c.loop-k.auto.k)) (adds_trans c.loop-k.invariant.adds c.in_ok-net-2.ensures.adds);
      counted = counted_most _ _ (omega arith) (omega (arith, c.loop-k.auto.k)) (counted_trans c.loop-k.invariant.counted c.in_ok-net-2.ensures.counted);
      within = omega (arith, c.loop-k-test.true);
      column = next_column _ _ _ _ _ _ c.args.steps.now c.loop-k.k (get_or c.args.steps.now c.loop-k.k no_step) _ c.loop-k.auto.k c.loop-k-test.true
          (slice_get-get_or c.args.steps.now c.loop-k.k no_step c.loop-k-test.true) (c.in_ok-net-2.ensures.column _ c.loop-k.invariant.column);
    }

pub returns-clause-adds : goal.returns-clause-adds
returns-clause-adds c = adds_most _ (omega (arith, c.loop-k-test.false, c.loop-k.invariant.within)) c.loop-k.invariant.adds

pub returns-clause-column : goal.returns-clause-column
returns-clause-column c = whole_column _ _ _ _ _ _ c.args.steps.now c.loop-k.k _ (omega (arith, c.loop-k-test.false)) c.loop-k.invariant.column

pub returns-clause-counted : goal.returns-clause-counted
returns-clause-counted c = counted_most _ _ (omega arith) (omega (arith, c.loop-k-test.false, c.loop-k.invariant.within)) c.loop-k.invariant.counted

pub choose_from-requires-clause-room : goal.choose_from-requires-clause-room
choose_from-requires-clause-room c =
    omega (arith, c.requires.room, c.loop-k.invariant.adds.cells, c.loop-k.invariant.adds.grows.limit, c.loop-k.auto.k, c.loop-k-test.true)
