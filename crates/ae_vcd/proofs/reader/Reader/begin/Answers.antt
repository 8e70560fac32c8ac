use Rattle.std.proofs.Common.{◌++◌, replicate, sym, ap, ◌∙◌}
use Rattle.ae_vcd.proofs.Steps.{begin_refused, begin_taken}
use Rattle.ae_vcd.proofs.reader.Reader.begin.Goals as goal

pub returns-then-not-is_end-clause-answer : goal.returns-then-not-is_end-clause-answer
returns-then-not-is_end-clause-answer c = λ s f. begin_refused c.args.self.now s c.args.word.now f c.requires (sym c.is_end.ensures ∙ c.if-not-is_end.true)

pub returns-clause-answer : goal.returns-clause-answer
returns-clause-answer c = λ s f. begin_taken c.args.self.now s c.args.word.now c.begin.new.self f c.requires (sym c.is_end.ensures ∙ c.if-not-is_end.false)
    (c.in_ok-begin.ensures.now ∙ ap (λ n. c.args.self.now.recorded.latest.items ++ replicate n 0) c.len.ensures) c.begin.ensures.count c.begin.ensures.last
    c.begin.ensures.times c.begin.ensures.words
