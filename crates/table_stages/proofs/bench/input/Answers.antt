use Rattle.table_stages.proofs.Gaining.{gains_cell}
use Rattle.table_stages.proofs.bench.input.Goals as goal

pub returns-clause-gains : goal.returns-clause-gains
returns-clause-gains c = gains_cell _ _ _ c.in_ok-net.ensures.added
