use Rattle.std.proofs.Common.{◌≡◌, ◌++◌, map, take}
use Rattle.ae_fold.specs.declared.feedback.Loop.{Loop}
use Rattle.ae_fold.proofs.loops.append_loops.Given as goal

abbrev pub invariant-loop-one : goal.invariant-loop-one
invariant-loop-one l = l.nets.items ≡ l.fn.nets.items ++ map (λ (one : Loop). one.word) (take l.one-index l.loops)
