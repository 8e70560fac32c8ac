use Rattle.std.proofs.Common.{◌≡◌, map, take}
use Rattle.ae_netlist.specs.Counts.{is_memory, cells_of}
use Rattle.ae_sim.specs.Planned.{memory_for, memory_tree}
use Rattle.ae_sim.proofs.plan.memories_of.Given as goal

abbrev pub invariant-loop-n : goal.invariant-loop-n
invariant-loop-n l = map memory_tree l.memories.items ≡ map (memory_for l.fill) (cells_of is_memory (take l.n l.nl.cells))
