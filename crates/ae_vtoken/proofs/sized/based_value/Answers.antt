use Rattle.std.proofs.Common.{◌^◌}
use Rattle.ae_vtoken.proofs.SizedLemmas.{based_more}
use Rattle.ae_vtoken.proofs.sized.based_value.Goals as goal

pub digit-preserved : goal.digit-preserved
digit-preserved c =
    based_more c.args.base (2 ^ 64) c.args.digits.now c.digit.c-index c.digit.value _ c.digit-test.true c.digit.invariant c.more-value.ensures.kept
    c.more-value.ensures.grown
