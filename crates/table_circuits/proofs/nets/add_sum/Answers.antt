use Rattle.ae_gates.proofs.Added.{sum_operation}
use Rattle.table_circuits.proofs.nets.add_sum.Goals as goal

pub add-requires : goal.add-requires
add-requires c = sum_operation _ c.args.a c.args.b c.args.width c.requires.left c.requires.right
