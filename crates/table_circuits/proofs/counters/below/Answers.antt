use Rattle.ae_clocked.proofs.Belonging.{belongs_grows}
use Rattle.table_circuits.proofs.counters.below.Goals as goal

pub returns-clause-belongs : goal.returns-clause-belongs
returns-clause-belongs c = belongs_grows c.args.clocks.now c.args.nl.now c.below_of.new.nl c.in_ok-net.ensures c.requires.belongs
