use Rattle.ae_vmodule.specs.Held.{held}
use Rattle.ae_vmodule.proofs.StackLaws.{when_operator}
use Rattle.ae_vmodule.proofs.stack.Stack.when.Goals as goal

pub operator-requires : goal.operator-requires
operator-requires c = record { operator = when_operator c.top_size-size.result (held c.args.self.now) c.requires.some c.top_size-size.ensures }
