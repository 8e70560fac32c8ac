use Rattle.std.proofs.Common.{refl, sym, ap, ◌∙◌}
use Rattle.ae_vtoken.specs.Ahead.{ahead}
use Rattle.ae_vmodule.specs.ModuleTree as m
use Rattle.ae_vmodule.specs.Numbered as n
use Rattle.ae_vmodule.specs.Held.{held}
use Rattle.ae_vread.specs.TokenTests.{after_mark}
use Rattle.ae_vread.specs.Reading.{found}
use Rattle.ae_vread.proofs.Meanings.{extends_same, extends_to}
use Rattle.ae_vread.proofs.StmtSteps.{value_is}
use Rattle.ae_vread.proofs.reading.Reader.value_then.Goals as goal

pub returns-clause-read : goal.returns-clause-read
returns-clause-read c =
    let x = c.in_ok-depth.ensures.read in
    let step = c.in_ok-want_mark.ensures in (
      found x.0.tree x.0.depth (ahead c.want_mark.new.self.tokens),
      value_is c.args.sign (ahead c.args.self.now.tokens) x.0 _ x.1 (ap (after_mark c.args.sign) (sym x.2.rest) ∙ step.read),
      record {
        top = x.2.top;
        pieces = ap held step.stack ∙ x.2.pieces;
        means = λ ws g. x.2.means ws (extends_same _ _ ws g (sym step.words));
        deep = x.2.deep;
        rest = refl;
      },
      extends_to _ _ _ x.3 step.words,
    )
