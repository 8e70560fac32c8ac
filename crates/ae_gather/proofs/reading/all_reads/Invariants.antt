use Rattle.std.proofs.Common.{◌*◌, ℕ, length, sum_by, take}
use Rattle.ae_columns.specs.Counts.{Counted}
use Rattle.ae_gather.specs.Counts.{reader_registers}
use Rattle.ae_gates.specs.Cells.{Adds}
use Rattle.ae_gather.specs.Readers.{AreReads, AreRings}
use Rattle.ae_gather.proofs.reading.all_reads.Given as goal

abbrev pub invariant-loop-q : goal.invariant-loop-q
invariant-loop-q l = record {
  adds : Adds l.fn.nl l.nl (3 * l.q) 0;
  counted : Counted l.fn.nl l.nl 0 0 (sum_by (reader_registers l.reads.rings.items) (take l.q l.reads.from.items)) 0;
  reads : (rst : ℕ) → AreRings (length l.ins) l.fn.nl.cells rst l.reads l.ins l.rings → AreReads l.q l.nl.cells rst l.reads l.ins l.places l.all.items;
}
