use Rattle.std.proofs.Common.{◌∙◌, ap, arith}
use Rattle.ae_netlist.specs.Circuit.{Circuit}
use Rattle.table_circuits.proofs.There.{belongs_new, same_limit}
use Rattle.table_circuits.proofs.counters.built.Goals as goal

pub loop-text-init : goal.loop-text-init
loop-text-init c = record {
  belongs = rw c.new-clocks.ensures (belongs_new c.add.new.self.cells c.in-Some.rst.0 c.in-Some.ensures);
  limit =
      same_limit c.new-nl.result c.add.new.self c.add.result _ c.add.ensures.added c.add.ensures.err ∙ ap (λ (n : Circuit). n.limit) c.new-nl.ensures;
}

pub overflow_sub-limit : goal.overflow_sub-limit
overflow_sub-limit c = omega (arith, c.len-before.ensures, c.formed.ensures.limit, c.loop-text.invariant.limit)

pub answer-answer-requires-clause-room : goal.answer-answer-requires-clause-room
answer-answer-requires-clause-room c = omega (arith, c.len-before.ensures, c.formed.ensures.limit, c.loop-text.invariant.limit)
