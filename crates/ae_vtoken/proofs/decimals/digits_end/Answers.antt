use Rattle.std.proofs.Common.{arith, sym, ◌∙◌}
use Rattle.std.specs.Char.{is_ascii_digit}
use Rattle.ae_vtoken.proofs.Spans.{span_more}
use Rattle.ae_vtoken.proofs.decimals.digits_end.Goals as goal

pub digit-preserved : goal.digit-preserved
digit-preserved c = (
  omega (arith, c.digit.invariant.0),
  omega (arith, c.digit-test.true),
  span_more is_ascii_digit c.args.text.now c.args.from c.digit.i c.digit.invariant.0 c.digit-test.true c.digit.invariant.2
      (sym c.is_ascii_digit.ensures.value ∙ c.if-not-is_ascii_digit.false),
)
