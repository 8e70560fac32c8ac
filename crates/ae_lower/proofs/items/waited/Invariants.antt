use Rattle.std.proofs.Common.{◌*◌}
use Rattle.ae_clocked.specs.Phases.{Belongs, KeepsCounters}
use Rattle.ae_clocked.specs.KeptRings.{AddsRings, RingsBelong}
use Rattle.ae_ops.proofs.Lateness.{AreTapping}
use Rattle.ae_lower.proofs.items.waited.Given as goal

abbrev pub invariant-loop-net : goal.invariant-loop-net
invariant-loop-net l = record {
  belongs : Belongs l.clocks l.nl.cells;
  keeps : KeepsCounters l.fn.clocks l.clocks;
  rings : RingsBelong l.kept l.fn.clocks.rst l.nl.cells;
  adds : AddsRings l.fn.nl l.nl (16 * (l.slack * l.net-index)) l.fn.kept.left l.kept.left;
  taps : AreTapping l.fn.nl.cells l.nl.cells l.fn.clocks.rst l.slack l.net-index l.nets l.late.items;
}
