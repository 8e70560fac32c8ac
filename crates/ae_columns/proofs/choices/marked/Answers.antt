use Rattle.ae_columns.proofs.Choosing.{marked_marks}
use Rattle.ae_columns.proofs.choices.marked.Goals as goal

pub returns-clause-marks : goal.returns-clause-marks
returns-clause-marks c = marked_marks _ _ c.args.phase.limit _ c.args.phase.net _ c.in_ok-y.ensures.marks
