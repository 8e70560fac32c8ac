use Rattle.table_circuits.proofs.counters.output.Goals as goal

pub returns-in-None-clause-belongs : goal.returns-in-None-clause-belongs
returns-in-None-clause-belongs c = rw c.show_output.ensures.cells c.requires

pub returns-in-Some-Ok-clause-belongs : goal.returns-in-Some-Ok-clause-belongs
returns-in-Some-Ok-clause-belongs c = rw c.show_output.ensures.cells c.requires
