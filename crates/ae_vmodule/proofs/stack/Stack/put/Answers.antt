use Rattle.ae_vmodule.specs.Held.{held}
use Rattle.ae_vmodule.proofs.StackLaws.{put_operator}
use Rattle.ae_vmodule.proofs.stack.Stack.put.Goals as goal

pub operator-requires : goal.operator-requires
operator-requires c = record { operator = put_operator c.args.k c.top_size-size.result (held c.args.self.now) c.requires.some c.top_size-size.ensures }
