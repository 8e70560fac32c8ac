use Rattle.std.proofs.Common.{◌≡◌, subst, arith}
use Rattle.ae_vcd.specs.TextWords.{text_words}
use Rattle.ae_vcd.specs.Machine.{step}
use Rattle.ae_vcd.specs.Readings.{IsBadWord}
use Rattle.ae_vcd.specs.Held.{Answers}
use Rattle.ae_vcd.proofs.Endings.{ends_bad, ends_large, ends_wave}
use Rattle.ae_vcd.proofs.Loops.{few_numbers, reach_bad, reach_end, reach_more}
use Rattle.ae_vcd.proofs.read.read_vcd.Goals as goal

pub returns-in-Ok-false-clause-bad : goal.returns-in-Ok-false-clause-bad
returns-in-Ok-false-clause-bad c = λ at e.
    let q : c.loop-word.at ≡ at = cc in
    subst (λ k. IsBadWord (text_words c.args.text.now) k) q
    (reach_bad c.args.text.now c.loop-word.at c.loop-word.rest.now c.in-Some.word.now c.in-Some.after.now c.loop-word.reader c.step.new.self
    c.loop-word.invariant.reached c.in-Some.ensures.cases
    (λ s f. subst (λ b. Answers b c.step.new.self (step s c.in-Some.word.now)) c.in-Ok-false.field-0-test (c.in-Ok-false.ensures.answer s f)))

pub loop-word-preserved : goal.loop-word-preserved
loop-word-preserved c = record {
  reached = reach_more c.args.text.now c.loop-word.at c.loop-word.rest.now c.in-Some.word.now c.in-Some.after.now c.loop-word.reader c.step.new.self
      c.loop-word.invariant.reached c.in-Some.ensures.cases
      (λ s f. subst (λ b. Answers b c.step.new.self (step s c.in-Some.word.now)) c.in-Ok-true.field-0-test (c.in-Ok-true.ensures.answer s f));
  room = omega (arith, c.loop-word.invariant.room, c.in-Some.ensures.shorter);
  count = omega (arith, c.loop-word.invariant.count, c.in-Ok-true.ensures.count);
}

pub finish-requires-clause-variables : goal.finish-requires-clause-variables
finish-requires-clause-variables c =
    let h = reach_end c.args.text.now c.loop-word.at c.loop-word.rest.now c.loop-word.reader c.loop-word.invariant.reached c.in_default.ensures.cases in
    few_numbers (text_words c.args.text.now) c.loop-word.reader h.state h.read h.follows

pub returns-clause-wave : goal.returns-clause-wave
returns-clause-wave c =
    let h = reach_end c.args.text.now c.loop-word.at c.loop-word.rest.now c.loop-word.reader c.loop-word.invariant.reached c.in_default.ensures.cases in
    ends_wave c.args.text.now c.finish.result (c.finish.ensures c.args.text.now h.state h.read h.follows h.all)

pub returns-clause-bad : goal.returns-clause-bad
returns-clause-bad c =
    let h = reach_end c.args.text.now c.loop-word.at c.loop-word.rest.now c.loop-word.reader c.loop-word.invariant.reached c.in_default.ensures.cases in
    ends_bad c.args.text.now c.finish.result (c.finish.ensures c.args.text.now h.state h.read h.follows h.all)

pub returns-clause-large : goal.returns-clause-large
returns-clause-large c =
    let h = reach_end c.args.text.now c.loop-word.at c.loop-word.rest.now c.loop-word.reader c.loop-word.invariant.reached c.in_default.ensures.cases in
    ends_large c.args.text.now c.finish.result (c.finish.ensures c.args.text.now h.state h.read h.follows h.all)
