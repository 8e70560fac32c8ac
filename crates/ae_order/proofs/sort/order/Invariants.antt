use Rattle.std.proofs.Common.{ℕ, ◌<◌, []}
use Rattle.ae_order.specs.Walks.{IsWalk, Begins}
use Rattle.ae_order.proofs.sort.order.Given as goal

abbrev pub invariant-loop-root : goal.invariant-loop-root
invariant-loop-root l = record {
  walk : IsWalk l.starts l.targets l.marks.items [] l.order.items;
  begun : (a : ℕ) → a < l.root → Begins l.marks.items a;
}
