use Rattle.std.proofs.Common.{◌≡◌, ◌++◌, map, take, drop}
use Rattle.ae_sim.specs.Planned.{turned}
use Rattle.ae_sim.proofs.settle.turn.Given as goal

abbrev pub invariant-loop-k : goal.invariant-loop-k
invariant-loop-k l = l.registers.items ≡ map (turned l.words) (take l.k l.fn.registers.items) ++ drop l.k l.fn.registers.items
