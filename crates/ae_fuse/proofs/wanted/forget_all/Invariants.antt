use Rattle.std.proofs.Common.{map}
use Rattle.ae_fuse.specs.Wanted.{KeepWanted}
use Rattle.ae_fuse.proofs.wanted.forget_all.Given as goal

abbrev pub invariant-loop-k : goal.invariant-loop-k
invariant-loop-k l = KeepWanted l.last l.j (map (λ w. w.items) l.initial.labels.items) (map (λ w. w.items) l.labels.items)
