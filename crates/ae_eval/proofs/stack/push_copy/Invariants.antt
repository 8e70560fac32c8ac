use Rattle.std.proofs.Common.{◌≡◌, ◌++◌, take, drop}
use Rattle.ae_eval.proofs.stack.push_copy.Given as goal

abbrev pub invariant-loop-index : goal.invariant-loop-index
invariant-loop-index l = l.stack.items ≡ l.fn.stack.items ++ take l.index (drop l.start l.fn.stack.items)
