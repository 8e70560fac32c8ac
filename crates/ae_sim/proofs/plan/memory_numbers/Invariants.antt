use Rattle.std.proofs.Common.{ℕ, ◌≡◌, ◌<◌, length, get_or}
use Rattle.ae_netlist.specs.Counts.{is_memory, number_of}
use Rattle.ae_sim.proofs.plan.memory_numbers.Given as goal

abbrev pub invariant-loop-n : goal.invariant-loop-n
invariant-loop-n l = record {
  long : length l.numbers.items ≡ l.n;
  before : l.before ≡ number_of is_memory l.nl.cells l.n;
  counts : (i : ℕ) → i < l.n → get_or l.numbers.items i 0 ≡ number_of is_memory l.nl.cells i;
}
