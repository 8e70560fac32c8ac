use Rattle.std.proofs.Common.{◌≡◌, ◌+◌, ◌++◌, map, take}
use Rattle.ae_fuse.proofs.clocks.add_later.Given as goal

abbrev pub invariant-loop-clock : goal.invariant-loop-clock
invariant-loop-clock l = l.clocks.items ≡ l.initial.clocks.items ++ map (λ k. l.by + k) (take l.clock-index l.one)
