use Rattle.std.proofs.Common.{◌≡◌, ◌++◌, replicate}
use Rattle.ae_eval.proofs.stack.push_zeros.Given as goal

abbrev pub invariant-loop-index : goal.invariant-loop-index
invariant-loop-index l = l.stack.items ≡ l.fn.stack.items ++ replicate l._index 0
