use Rattle.ae_vread.specs.Reading.{whole_expression}
use Rattle.ae_vread.proofs.reading.Reader.whole_expression.Goals as goal

pub returns-clause-read : goal.returns-clause-read
unfolding whole_expression
returns-clause-read c = c.expression.ensures.read
