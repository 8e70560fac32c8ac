use Rattle.ae_vmodule.specs.Held.{held}
use Rattle.ae_vmodule.proofs.StackLaws.{either_operator}
use Rattle.ae_vmodule.proofs.stack.Stack.either.Goals as goal

pub operator-requires : goal.operator-requires
operator-requires c =
    record {
      operator = either_operator c.second_size-size_a.result c.top_size-size_b.result
          (held c.args.self.now) c.requires.some c.second_size-size_a.ensures c.top_size-size_b.ensures;
    }
