use Rattle.ae_vcd.proofs.BodySteps.{time_answer, time_numbers, time_refused}
use Rattle.ae_vcd.proofs.reader.Reader.time.Goals as goal

pub returns-in_default-clause-answer : goal.returns-in_default-clause-answer
returns-in_default-clause-answer c = λ s f. time_refused c.args.self.now s c.args.digits.now f c.requires.here c.in_default.ensures

pub advance-requires-clause-known : goal.advance-requires-clause-known
advance-requires-clause-known c = time_numbers c.args.self.now c.deref.result.now c.deref.ensures.value c.requires.reader c.requires.here

pub returns-clause-answer : goal.returns-clause-answer
returns-clause-answer c =
    λ s f. time_answer c.args.self.now s c.args.digits.now c.in-Some.time c.advance.new.self c.deref.result.now c.in_ok-taken.taken c.deref.ensures.value f
    c.requires.here c.in-Some.ensures.0 c.in-Some.ensures.1 c.in_ok-taken.ensures.answer
