use Rattle.std.proofs.Common.{◌≡◌, Some, None, length, sym, ap, ◌∙◌, arith}
use Rattle.ae_vcd.specs.Held.{behind}
use Rattle.ae_vcd.proofs.Steps.{pass_answer}
use Rattle.ae_vcd.proofs.reader.Reader.pass.Goals as goal

pub returns-in-Some-clause-answer : goal.returns-in-Some-clause-answer
returns-in-Some-clause-answer c = λ s f.
    let n : c.len.result ≡ length c.args.self.now.declared.numbers.items = omega (arith, c.len.ensures, c.args.self.now.declared.numbers.ok.0) in
    pass_answer c.args.self.now s c.args.word.now (Some c.in-Some.next) f c.requires
    (sym c.in-Some.is ∙ c.behind.ensures ∙ ap (λ k. behind c.args.self.now.expected k c.args.word.now) n)

pub returns-in-None-clause-answer : goal.returns-in-None-clause-answer
returns-in-None-clause-answer c = λ s f.
    let n : c.len.result ≡ length c.args.self.now.declared.numbers.items = omega (arith, c.len.ensures, c.args.self.now.declared.numbers.ok.0) in
    pass_answer c.args.self.now s c.args.word.now None f c.requires
    (sym c.in-None.is ∙ c.behind.ensures ∙ ap (λ k. behind c.args.self.now.expected k c.args.word.now) n)
