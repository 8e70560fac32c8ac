use Rattle.std.proofs.Common.{ap, ◌∙◌, ◌++◌}
use Rattle.std.specs.Prelude.{bytes_eq}
use Rattle.ae_vmodule.specs.Words.{words_of}
use Rattle.ae_vmodule.proofs.WordLaws.{number_extends, number_there}
use Rattle.ae_vmodule.proofs.words.Words.number.Goals as goal

pub returns-clause-number : goal.returns-clause-number
returns-clause-number c =
    let s = c.in_ok-number.ensures.stored in
    number_there c.insert_full.new.self.keys c.args.word s.0 c.in_ok-number.number s.1 s.2

pub returns-clause-extends : goal.returns-clause-extends
returns-clause-extends c =
    let e = number_extends (λ x y. bytes_eq x.now y.now) c.self.inside.numbers.keys c.args.word in
    (e.0, ap words_of c.in_ok-number.ensures.keys ∙ e.1 ∙ ap (λ ws. ws ++ e.0) c.self.view_is)
