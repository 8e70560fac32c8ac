use Rattle.std.proofs.Common.{take}
use Rattle.ae_clocked.specs.Phases.{Belongs, KeepsCounters}
use Rattle.ae_clocked.specs.KeptRings.{RingsBelong}
use Rattle.ae_lower.specs.Growth.{GrowsBy, Spends}
use Rattle.ae_lower.specs.Delaying.{AreDelayed, delay_load}
use Rattle.ae_lower.proofs.items.joined.Given as goal

abbrev pub invariant-loop-r : goal.invariant-loop-r
invariant-loop-r l = record {
  belongs : Belongs l.clocks l.nl.cells;
  keeps : KeepsCounters l.fn.clocks l.clocks;
  grows : GrowsBy l.fn.nl l.nl (delay_load l.items l.waits (take l.r l.chosen));
  rings : RingsBelong l.kept l.fn.clocks.rst l.nl.cells;
  spends : Spends l.fn.nl l.nl 0 0 l.fn.kept.left l.kept.left;
  delayed : AreDelayed l.fn.nl.cells l.nl.cells l.fn.clocks.rst l.items l.waits (take l.r l.chosen) l.late.items;
}
