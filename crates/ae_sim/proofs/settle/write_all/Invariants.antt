use Rattle.ae_sim.proofs.Edges.{AreAfter}
use Rattle.ae_sim.proofs.settle.write_all.Given as goal

abbrev pub invariant-loop-k : goal.invariant-loop-k
invariant-loop-k l = AreAfter l.words l.fn.memories.items l.memories.items l.k
