use Rattle.ae_vmodule.specs.Held.{held}
use Rattle.ae_vmodule.proofs.StackLaws.{choice_operator}
use Rattle.ae_vmodule.proofs.stack.Stack.choice.Goals as goal

pub operator-requires : goal.operator-requires
operator-requires c =
    record {
      operator = choice_operator c.second_size-size_a.result c.top_size-size_b.result
          (held c.args.self.now) c.requires.some c.second_size-size_a.ensures c.top_size-size_b.ensures;
    }
