use Rattle.std.proofs.Common.{arith, sym, ◌∙◌}
use Rattle.ae_vtoken.specs.Scan.{is_based}
use Rattle.ae_vtoken.proofs.Spans.{span_more}
use Rattle.ae_vtoken.proofs.sized.based_end.Goals as goal

pub based-preserved : goal.based-preserved
based-preserved c = (
  omega (arith, c.based.invariant.0),
  omega (arith, c.based-test.true),
  span_more (is_based c.args.base) c.args.text.now c.args.from c.based.i c.based.invariant.0 c.based-test.true c.based.invariant.2
      (sym c.is_based.ensures ∙ c.if-not-is_based.false),
)
