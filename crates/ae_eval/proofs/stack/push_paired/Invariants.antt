use Rattle.std.proofs.Common.{◌≡◌, ◌++◌, drop}
use Rattle.ae_eval.specs.Stack.{paired}
use Rattle.ae_eval.proofs.stack.push_paired.Given as goal

abbrev pub invariant-loop-piece : goal.invariant-loop-piece
invariant-loop-piece l = l.stack.items ≡ l.fn.stack.items ++ paired l.piece l.size l.other (drop l.first l.fn.stack.items) (drop l.second l.fn.stack.items)
