use Rattle.std.proofs.Common.{◌-◌, ◌∙◌, get_or}
use Rattle.std.specs.Char.{is_ascii_digit}
use Rattle.ae_vtoken.proofs.DecimalLemmas.{capped_more, digit_is, pass_at}
use Rattle.ae_vtoken.proofs.decimals.capped.Goals as goal

pub loop-d-preserved : goal.loop-d-preserved
loop-d-preserved c =
    c.min-value.ensures ∙ capped_more c.args.digits.now c.loop-d.d-index c.loop-d.value (get_or c.args.digits.now c.loop-d.d-index 0 - 48) c.loop-d-test.true
    (digit_is _ (pass_at is_ascii_digit c.args.digits.now c.loop-d.d-index c.loop-d-test.true c.requires)) c.loop-d.invariant
