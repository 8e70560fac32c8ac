use Rattle.ae_netlist.specs.Circuit.{IsNet}
use Rattle.ae_ops.proofs.Combining.{fold_operands, fold_range, fold_width}
use Rattle.ae_ops.proofs.combine.combined.Goals as goal

pub compute-requires-clause-range : goal.compute-requires-clause-range
compute-requires-clause-range c = fold_range c.args.op c.requires.folds

pub compute-requires-clause-operands : goal.compute-requires-clause-operands
compute-requires-clause-operands c =
    fold_operands c.args.op (IsNet c.args.nl.now.cells) c.args.a c.args.b c.args.width c.requires.folds c.requires.left c.requires.right

pub returns-clause-net : goal.returns-clause-net
returns-clause-net c = rw (fold_width c.args.op c.args.width c.requires.folds) at c.in_ok-y.ensures.net
