use Rattle.std.proofs.Common.{◌≡◌, map, take}
use Rattle.ae_netlist.specs.Counts.{is_register, cells_of}
use Rattle.ae_sim.specs.Planned.{register_for}
use Rattle.ae_sim.proofs.plan.registers_of.Given as goal

abbrev pub invariant-loop-n : goal.invariant-loop-n
invariant-loop-n l = l.registers.items ≡ map (register_for l.fill) (cells_of is_register (take l.n l.nl.cells))
