use Rattle.ae_rewrite.proofs.calls.plain_op.Goals as goal

pub returns-in-Shift : goal.returns-in-Shift
returns-in-Shift c = rw (c.in-Shift.is, ← c.deref-in-Shift.ensures.value) (c.shift_op.ensures c.args.budget)
