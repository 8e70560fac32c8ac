use Rattle.std.proofs.Common.{ℕ}
use Rattle.ae_order.specs.Walks.{IsWalk, Begins}
use Rattle.ae_order.specs.Walks.{left}
use Rattle.ae_order.proofs.sort.visit.Given as goal

abbrev pub invariant-loop-top : goal.invariant-loop-top
invariant-loop-top l = record {
  walk : IsWalk l.starts l.targets l.marks.items l.stack.items l.order.items;
  root : Begins l.marks.items l.root;
  begun : (a : ℕ) → Begins l.fn.marks.items a → Begins l.marks.items a;
}

abbrev pub decreases-loop-top : goal.decreases-loop-top
decreases-loop-top l = left l.starts l.marks.items
