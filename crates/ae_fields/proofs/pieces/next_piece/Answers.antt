use Rattle.std.proofs.Common.{◌∷◌, ◌+◌, ◌∙◌, ap, sym, arith, eq-eqb, take}
use Rattle.std.proofs.lemmas.Grind.{common_steps}
use Rattle.ae_fields.specs.Cut.{pieces}
use Rattle.ae_fields.proofs.CutLemmas.{piece-goes-on, piece-ends, whole_rest, last-piece}
use Rattle.ae_fields.proofs.pieces.next_piece.Goals as goal

pub returns-then-bytes-end-clause-cases : goal.returns-then-bytes-end-clause-cases
returns-then-bytes-end-clause-cases c =
    let bytes = c.args.bytes.now in
    let k = c.loop-end.end in
    piece-ends c.args.mark bytes k c.loop-end-test.true (eq-eqb _ _ c.if-bytes-end.true) c.loop-end.invariant.1 ∙
    ap (λ l. take k bytes ∷ pieces c.args.mark l) (sym (whole_rest bytes (k + 1)))

pub loop-end-preserved : goal.loop-end-preserved
loop-end-preserved c =
    let bytes = c.args.bytes.now in
    let k = c.loop-end.end in
    (grind (arith, common_steps), piece-goes-on c.args.mark bytes k c.loop-end-test.true (grind (arith, common_steps)) c.loop-end.invariant.1)

pub returns-clause-cases : goal.returns-clause-cases
returns-clause-cases c = last-piece c.args.mark c.args.bytes.now c.loop-end.end (grind (arith, common_steps)) c.loop-end.invariant.1
