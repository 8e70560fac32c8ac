use Rattle.std.proofs.Common.{refl, sym, ap, ◌∙◌}
use Rattle.ae_vmodule.specs.ModuleTree as m
use Rattle.ae_vmodule.specs.Numbered as n
use Rattle.ae_vmodule.specs.Held.{held}
use Rattle.ae_vread.specs.Reading.{found}
use Rattle.ae_vread.proofs.Meanings.{no_more, extends_same, named_kept}
use Rattle.ae_vread.specs.TokenTests.{after_mark}
use Rattle.ae_vtoken.specs.declared.token.Sign.TheVariants.{CloseBracket}
use Rattle.ae_vread.proofs.ExprSteps.{indexed_is}
use Rattle.ae_vread.proofs.reading.Reader.index.Goals as goal

pub returns-clause-read : goal.returns-clause-read
returns-clause-read c name x below word h =
    let step = c.in_ok-want_mark.ensures in (
      found (m.index name x.tree) c.in_ok-depth.depth _,
      indexed_is name x _ c.args.depth c.in_ok-depth.depth (ap (after_mark CloseBracket) (sym h.rest) ∙ step.read) h.deep c.in_ok-depth.ensures,
      record {
        top = n.index c.args.name h.top;
        pieces = c.in_ok-index.ensures.pieces h.top below (ap held step.stack ∙ h.pieces);
        means = λ ws g.
            let all = extends_same _ _ ws g (sym step.words) in
            λ i. m.index (named_kept _ ws c.args.name name word all i) (h.means ws all i);
        deep = refl;
        rest = refl;
      },
      extends_same _ _ _ (no_more _) (sym step.words),
    )
