use Rattle.std.proofs.Common.{◌∷◌, sym, ap, ◌∙◌}
use Rattle.ae_vtoken.specs.Ahead.{ahead}
use Rattle.ae_vmodule.specs.ModuleTree as m
use Rattle.ae_vmodule.specs.Numbered as n
use Rattle.ae_vmodule.specs.Held.{held}
use Rattle.ae_vread.specs.StmtReading.{assigned}
use Rattle.ae_vread.proofs.Meanings.{extends_by, extends_same, named_later}
use Rattle.ae_vread.proofs.ExprSteps.{means_later}
use Rattle.ae_vread.proofs.StmtSteps.{put_place_is, put_is, reads_from}
use Rattle.ae_vread.proofs.reading.Reader.put_by.Goals as goal

pub returns-in_ok-depth-in-Some-clause-read : goal.returns-in_ok-depth-in-Some-clause-read
returns-in_ok-depth-in-Some-clause-read c name word =
    let number = c.in-Some.ensures in
    let step = c.in_ok-want_mark-in-Some.ensures in
    let x = c.in_ok-depth-in-Some.ensures.read in
    let to_x = extends_same _ _ _ x.3 (sym (step.words ∙ number.words)) in
    reads_from _ _ _ c.put_place.new.self c.put_place.result _ _
    (put_place_is name c.in-Some.place (ahead c.args.self.now.tokens) _ _ x.0 number.there step.read x.1)
    to_x (c.put_place.ensures.read name x.0 _ (named_later _ _ c.args.name name word to_x) (record {
      value = x.2.top;
      pieces = x.2.pieces ∙ ap (λ ps. n.expr x.2.top ∷ ps) (ap held step.stack ∙ c.in_ok-place-in-Some.ensures.pieces
          ∙ ap (λ s. n.expr (n.place c.in-Some.place) ∷ held s) number.stack);
      means = x.2.means;
      deep = x.2.deep;
      rest = x.2.rest;
    }))

pub returns-in_ok-value-in-None-clause-read : goal.returns-in_ok-value-in-None-clause-read
returns-in_ok-value-in-None-clause-read c name word =
    let none = c.in-None.ensures in
    let x = c.in_ok-at-in-None.ensures.read in
    let y = c.in_ok-value-in-None.ensures.read in
    let to_x = extends_same _ _ _ x.3 (sym none.words) in
    let to_y = extends_by _ _ _ to_x y.3 in
    reads_from _ _ _ c.put.new.self c.put.result _ _
    (put_is name (ahead c.args.self.now.tokens) _ x.0 y.0 none.none (sym (ap ahead none.tokens)) x.1 (ap assigned (sym x.2.rest) ∙ y.1))
    to_y (c.put.ensures.read name x.0 y.0 _ (named_later _ _ c.args.name name word to_y) (record {
      first = x.2.top;
      second = y.2.top;
      pieces = y.2.pieces ∙ ap (λ ps. n.expr y.2.top ∷ ps) (x.2.pieces ∙ ap (λ s. n.expr x.2.top ∷ held s) none.stack);
      means_x = means_later _ _ x.2.top x.0.tree y.3 x.2.means;
      means_y = y.2.means;
      is_x = x.2.deep;
      is_y = y.2.deep;
      rest = y.2.rest;
    }))
