use Rattle.ae_vread.specs.StmtReading.{whole_statement}
use Rattle.ae_vread.proofs.reading.Reader.whole_statement.Goals as goal

pub returns-clause-read : goal.returns-clause-read
unfolding whole_statement
returns-clause-read c = c.statement.ensures.read
