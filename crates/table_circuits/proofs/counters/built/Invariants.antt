use Rattle.std.proofs.Common.{◌≡◌}
use Rattle.ae_clocked.specs.Phases.{Belongs}
use Rattle.table_circuits.proofs.counters.built.Given as goal

abbrev pub invariant-loop-text : goal.invariant-loop-text
invariant-loop-text l = record { belongs : Belongs l.clocks l.nl.cells; limit : l.nl.limit ≡ l.limit }
