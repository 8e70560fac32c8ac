use Rattle.ae_vmodule.specs.Held.{held}
use Rattle.ae_vmodule.proofs.StackLaws.{then_operator}
use Rattle.ae_vmodule.proofs.stack.Stack.then.Goals as goal

pub operator-requires : goal.operator-requires
operator-requires c = record { operator = then_operator c.top_size-size.result (held c.args.self.now) c.requires.some c.top_size-size.ensures }
