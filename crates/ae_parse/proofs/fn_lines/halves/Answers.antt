use Rattle.std.proofs.Common.{sym, ◌∙◌}
use Rattle.ae_fields.specs.Cut.{pieces}
use Rattle.ae_parse.proofs.HalfLemmas.{too-many, with-rest}
use Rattle.ae_parse.proofs.fn_lines.halves.Goals as goal

pub returns-then-is_some : goal.returns-then-is_some
returns-then-is_some c =
    let r = c.in-Some.rest in
    too-many (pieces c.args.mark c.args.bytes.now) c.next_piece.result.0.now c.next_piece-2.result.0.now c.next_piece-2.result.1 c.args.mark r.now
    c.next_piece-2.ensures.cases (sym c.is_some.ensures ∙ c.if-is_some.true)
    (with-rest (pieces c.args.mark c.args.bytes.now) c.next_piece.result.0.now c.next_piece.result.1 c.args.mark r c.next_piece.ensures.cases c.in-Some.is)
