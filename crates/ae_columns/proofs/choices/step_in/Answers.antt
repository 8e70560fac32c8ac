use Rattle.std.proofs.Common.{◌≡◌, Some, slice_get, get_or, ap, arith, ◌∙◌}
use Rattle.std.proofs.lemmas.Option.{slice_get-get_or, get_or_from_slice_get}
use Rattle.ae_moves.specs.declared.trip.Choice.TheVariants.{Delayed}
use Rattle.ae_columns.specs.declared.steps.Step.{Step}
use Rattle.ae_columns.specs.Plans.{choice_in}
use Rattle.ae_columns.proofs.Choosing.{choice_more, choice_one, first_take}
use Rattle.ae_columns.proofs.Later.{later_after, later_before}
use Rattle.ae_columns.proofs.choices.step_in.Goals as goal
use Rattle.ae_columns.proofs.choices.step_in.Goals.{then-steps-place, else-steps-place}

abbrev no_step : Step
no_step = record { from = 0; take = Delayed 0 0; tap = 0 }

pub loop-place-init : goal.loop-place-init
loop-place-init c = record {
  before = omega arith;
  within = c.requires.begun;
  is = λ step f. ap (choice_in c.args.phase) (first_take c.args.steps.now step f) ∙ choice_one c.args.phase step;
}

pub loop-place-preserved : goal.loop-place-preserved
loop-place-preserved c = elim c.if-steps-place.branch [
  | then-steps-place w ↦ record {
    before = omega (arith, w.at-is);
    within = omega (arith, c.loop-place-test.true);
    is = λ step f.
        let there : slice_get c.args.steps.now c.loop-place.place ≡ Some step = rw w.at-is at f in
        let same = ap (λ (s : Step). s.from) (get_or_from_slice_get c.args.steps.now c.loop-place.place step no_step there) in
        choice_more c.args.phase c.args.steps.now c.loop-place.place step c.loop-place.auto.place c.loop-place-test.true there ∙
        later_after c.args.phase _ step (omega (arith, same, w.if-steps-place.true));
  }
  | else-steps-place w ↦ record {
    before = omega (arith, w.at-is, c.loop-place.invariant.before);
    within = omega (arith, c.loop-place-test.true);
    is = λ step f.
        let there = slice_get-get_or c.args.steps.now c.loop-place.place no_step c.loop-place-test.true in
        let before : slice_get c.args.steps.now c.loop-place.at ≡ Some step = rw w.at-is at f in
        choice_more c.args.phase c.args.steps.now c.loop-place.place
        (get_or c.args.steps.now c.loop-place.place no_step) c.loop-place.auto.place c.loop-place-test.true there
        ∙ later_before c.args.phase _ (get_or c.args.steps.now c.loop-place.place no_step) w.if-steps-place.false
        ∙ c.loop-place.invariant.is step before;
  }
]
