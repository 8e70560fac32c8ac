use Rattle.ae_reordered.proofs.Orders.{netlist_runs, same_runs}
use Rattle.ae_reordered.proofs.laws.orders_are_alike.Goals as goal

pub returns-clause-runs : goal.returns-clause-runs
returns-clause-runs c m items run ok p = same_runs m items ok p run

pub returns-clause-netlists : goal.returns-clause-netlists
returns-clause-netlists c m items n ok p h = netlist_runs m items ok p n h
