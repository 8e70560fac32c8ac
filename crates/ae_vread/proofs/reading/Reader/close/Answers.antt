use Rattle.std.proofs.Common.{refl, sym, ap, ◌∙◌}
use Rattle.ae_vmodule.specs.ModuleTree as m
use Rattle.ae_vmodule.specs.Numbered as n
use Rattle.ae_vmodule.specs.Held.{held}
use Rattle.ae_vread.specs.Reading.{found}
use Rattle.ae_vread.proofs.Meanings.{no_more, extends_same}
use Rattle.ae_vread.specs.TokenTests.{after_mark}
use Rattle.ae_vtoken.specs.declared.token.Sign.TheVariants.{Close}
use Rattle.ae_vread.proofs.ExprSteps.{closed_is}
use Rattle.ae_vread.proofs.reading.Reader.close.Goals as goal

pub returns-clause-read : goal.returns-clause-read
returns-clause-read c x below h =
    let step = c.in_ok-want_mark.ensures in (
      found x.tree c.in_ok-depth.depth _,
      closed_is x _ c.args.depth c.in_ok-depth.depth (ap (after_mark Close) (sym h.rest) ∙ step.read) h.deep c.in_ok-depth.ensures,
      record {
        top = h.top;
        pieces = ap held step.stack ∙ h.pieces;
        means = λ ws g. h.means ws (extends_same _ _ ws g (sym step.words));
        deep = refl;
        rest = refl;
      },
      extends_same _ _ _ (no_more _) (sym step.words),
    )
