use Rattle.std.proofs.Common.{◌∷◌, refl, sym, ap, ◌∙◌}
use Rattle.ae_vtoken.specs.Ahead.{ahead}
use Rattle.ae_vtoken.specs.declared.token.Sign.TheVariants.{CloseBracket}
use Rattle.ae_vmodule.specs.ModuleTree as m
use Rattle.ae_vmodule.specs.Numbered as n
use Rattle.ae_vmodule.specs.Held.{held}
use Rattle.ae_vread.specs.TokenTests.{after_mark}
use Rattle.ae_vread.specs.Reading.{found}
use Rattle.ae_vread.proofs.Meanings.{no_more, extends_same, named_kept}
use Rattle.ae_vread.proofs.ExprSteps.{part_is, place_is}
use Rattle.ae_vread.proofs.reading.Reader.placed.Goals as goal

pub returns-then-mark-clause-read : goal.returns-then-mark-clause-read
returns-then-mark-clause-read c name word =
    let old = c.args.self.now in
    let number = c.in-Some.ensures in
    let last = c.in_ok-want_mark.ensures in
    let words = last.words ∙ number.words ∙ c.mark.ensures.words in
    let stack = last.stack ∙ number.stack ∙ c.mark.ensures.stack in (
      found (m.part name c.args.value c.in-Some.low) 2 (ahead c.want_mark.new.self.tokens),
      part_is name c.args.value c.in-Some.low (ahead old.tokens) _ _ _ (c.mark.ensures.there c.if-mark.true) number.there last.read,
      record {
        top = n.part c.args.name c.args.value c.in-Some.low;
        pieces = c.in_ok-part.ensures.pieces ∙ ap (λ s. n.expr (n.part c.args.name c.args.value c.in-Some.low) ∷ held s) stack;
        means = λ ws g. ap (λ w. m.part w c.args.value c.in-Some.low) (named_kept old.words ws c.args.name name word (extends_same _ _ ws g (sym words)));
        deep = refl;
        rest = refl;
      },
      extends_same _ _ _ (no_more _) (sym words),
    )

pub returns-clause-read : goal.returns-clause-read
returns-clause-read c name word =
    let old = c.args.self.now in
    let last = c.in_ok-want_mark-2.ensures in
    let words = last.words ∙ c.mark.ensures.words in
    let stack = last.stack ∙ c.mark.ensures.stack in
    let tokens = c.mark.ensures.tokens c.if-mark.false in (
      found (m.index name (m.place c.args.value)) 2 (ahead c.want_mark-2.new.self.tokens),
      place_is name c.args.value (ahead old.tokens) _ (c.mark.ensures.none c.if-mark.false)
          (ap (λ ts. after_mark CloseBracket (ahead ts)) (sym tokens) ∙ last.read),
      record {
        top = n.index c.args.name (n.place c.args.value);
        pieces = c.in_ok-index.ensures.pieces (n.place c.args.value) _ (c.in_ok-place.ensures.pieces ∙ ap (λ s. n.expr (n.place c.args.value) ∷ held s) stack);
        means = λ ws g. ap (λ w. m.index w (m.place c.args.value)) (named_kept old.words ws c.args.name name word (extends_same _ _ ws g (sym words)));
        deep = refl;
        rest = refl;
      },
      extends_same _ _ _ (no_more _) (sym words),
    )
