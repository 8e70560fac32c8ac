use Rattle.ae_jobs.proofs.cost_table.write_cost.Goals as goal

pub returns : goal.returns
returns c = rw (c.as_str.ensures.value, c.op_name.ensures.word) at c.write_row.ensures.text
