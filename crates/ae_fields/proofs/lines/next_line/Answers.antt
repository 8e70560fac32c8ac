use Rattle.std.proofs.Common.{refl, ◌++◌, ◌∷◌, ◌+◌, ◌∙◌, ap, sym, arith, eq-eqb, take}
use Rattle.std.proofs.lemmas.Grind.{common_steps}
use Rattle.ae_fields.specs.Cut.{lines}
use Rattle.ae_fields.specs.Cut.IsFirstLine.{ended, alone}
use Rattle.ae_fields.proofs.PartLemmas.{free-more, at-lf}
use Rattle.ae_fields.proofs.CutLemmas.{line-goes-on, line-ends, whole_rest, last-line}
use Rattle.ae_fields.proofs.lines.next_line.Goals as goal

pub returns-then-text-end-eq10-clause-cases : goal.returns-then-text-end-eq10-clause-cases
returns-then-text-end-eq10-clause-cases c =
    let text = c.args.text.now in
    let k = c.loop-end.end in
    line-ends text k c.loop-end-test.true (eq-eqb _ _ c.if-text-end-eq10.true) c.loop-end.invariant.1 ∙
    ap (λ l. take k text ∷ lines l) (sym (whole_rest text (k + 1)))

pub returns-then-text-end-eq10-clause-bytes : goal.returns-then-text-end-eq10-clause-bytes
returns-then-text-end-eq10-clause-bytes c =
    let text = c.args.text.now in
    let k = c.loop-end.end in
    ended (at-lf text k c.loop-end-test.true c.if-text-end-eq10.true ∙ ap (λ l. take k text ++ 10 ∷ l) (sym (whole_rest text (k + 1)))) c.loop-end.invariant.2

pub loop-end-preserved : goal.loop-end-preserved
loop-end-preserved c =
    let text = c.args.text.now in
    let k = c.loop-end.end in (
      grind (arith, common_steps),
      line-goes-on text k c.loop-end-test.true (grind (arith, common_steps)) c.loop-end.invariant.1,
      free-more 10 text k c.loop-end-test.true c.loop-end.invariant.2 (grind (arith, common_steps)),
    )

pub returns-clause-cases : goal.returns-clause-cases
returns-clause-cases c =
    let text = c.args.text.now in
    let k = c.loop-end.end in
    last-line text k (grind (arith, common_steps)) (grind (arith, common_steps)) c.loop-end.invariant.1 ∙ ap (λ l. text ∷ lines l) (sym (whole_rest text k))

pub returns-clause-bytes : goal.returns-clause-bytes
returns-clause-bytes c = alone refl (grind (arith, common_steps))
