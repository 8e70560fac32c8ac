use Rattle.std.proofs.Common.{◌*◌, take}
use Rattle.ae_clocked.specs.Phases.{Belongs, KeepsCounters, made_of}
use Rattle.ae_columns.specs.Counts.{Counted}
use Rattle.ae_clocked.specs.Rings.{AddsMemories}
use Rattle.ae_gather.specs.Readers.{AreRings}
use Rattle.ae_gather.specs.Reads.{ring_count}
use Rattle.ae_gather.proofs.reading.all_rings.Given as goal

abbrev pub invariant-loop-q : goal.invariant-loop-q
invariant-loop-q l = record {
  belongs : Belongs l.clocks l.nl.cells;
  keeps : KeepsCounters l.fn.clocks l.clocks;
  adds : AddsMemories l.fn.nl l.nl (14 * ring_count (take l.q l.reads.rings.items)) (ring_count (take l.q l.reads.rings.items));
  counted : Counted l.fn.nl l.nl (made_of l.fn.clocks) (made_of l.clocks) 0 0;
  rings : AreRings l.q l.nl.cells l.fn.clocks.rst l.reads l.ins l.rings.items;
}
