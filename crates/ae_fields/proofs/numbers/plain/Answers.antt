use Rattle.std.proofs.Common.{arith}
use Rattle.ae_fields.proofs.PlainOf.{plain-answer}
use Rattle.ae_fields.proofs.numbers.plain.Goals as goal

pub returns : goal.returns
returns c = plain-answer c.args.low c.args.high c.args.digits.now c.plain_number.result (omega arith) c.plain_number.ensures
