use Rattle.std.proofs.Common.{◌≡◌, length}
use Rattle.ae_netlist.specs.Counts.{is_input, is_register, number_of}
use Rattle.ae_netlist.proofs.Given.{store_in, word_in}
use Rattle.ae_sim.specs.Planned.{held_of}
use Rattle.ae_sim.proofs.Making.{IsMade}
use Rattle.ae_sim.proofs.settle.settle.Given as goal

abbrev pub invariant-loop-n : goal.invariant-loop-n
invariant-loop-n l = record {
  taken : l.taken ≡ number_of is_input l.nl.cells l.n;
  kept : l.kept ≡ number_of is_register l.nl.cells l.n;
  long : length l.words.items ≡ length l.nl.cells;
  made : IsMade l.nl.cells (word_in l.nl.cells (held_of l.registers l.memories) l.inputs)
      (store_in l.nl.cells (held_of l.registers l.memories)) l.words.items l.n;
}
