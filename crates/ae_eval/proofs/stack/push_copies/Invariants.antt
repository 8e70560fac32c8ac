use Rattle.std.proofs.Common.{◌≡◌, ◌++◌, take, drop}
use Rattle.ae_seqtype.specs.SeqTree.{repeated}
use Rattle.ae_eval.proofs.stack.push_copies.Given as goal

abbrev pub invariant-loop-turn : goal.invariant-loop-turn
invariant-loop-turn l = l.stack.items ≡ l.fn.stack.items ++ repeated l._turn (take l.count (drop l.start l.fn.stack.items))
