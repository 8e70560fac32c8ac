-- What is planned where output columns read from rings.
use Rattle.std.specs.Prelude.{◌≡◌, ℕ, ◌+◌, ◌*◌, ◌≤◌, List, length, map, sum_by, Some, slice_get}
use Rattle.ae_clocked.specs.Delays.{line_cells}
use Rattle.ae_moves.specs.declared.trip.Trip.{Trip}
use Rattle.ae_gather.specs.declared.reading.Reading.{Reading}
use Rattle.ae_gather.specs.declared.early.Schedule.{Schedule}
use Rattle.ae_gather.specs.Counts.{IsSpare}
use Rattle.ae_columns.specs.Early.{AreInTime, hastened}
use Rattle.ae_columns.specs.Plans.{IsPlan, line_mems, steps_cells}
use Rattle.ae_gather.specs.Reads.{ArePlaced, read_trip, ring_count}

-- the trips from what is read, their plan, and that of the places, for so many input and output columns
pub record IsReading (d ins outs : ℕ) (trips : List Trip) (r : Reading) : Type 0 where
  pub from : length r.reads.from.items ≡ outs
  pub rings : length r.reads.rings.items ≡ ins
  pub low : 3 ≤ r.reads.bits
  pub high : r.reads.bits ≤ 12
  pub taken : r.trips.items ≡ map (read_trip d r.reads) trips
  pub early : length r.schedule.early.items ≡ outs
  pub time : AreInTime d r.schedule.early.items r.trips.items
  pub moved : r.schedule.moved.items ≡ map (hastened r.schedule.early.items) r.trips.items
  pub lines : length r.schedule.plan.lines.items ≡ ins + outs
  pub columns : length r.schedule.plan.columns.items ≡ outs
  pub plan : IsPlan d r.schedule.moved.items r.schedule.plan.lines.items r.schedule.plan.columns.items
  pub few : (q : ℕ) (ages : List ℕ) → slice_get r.schedule.plan.lines.items q ≡ Some ages → length ages ≤ length trips
  pub places : ArePlaced (length trips) d r.reads trips r.places.items
  pub none : length r.plan.lines.items ≡ 0
  pub shown : length r.plan.columns.items ≡ outs
  pub shows : IsPlan d r.places.items r.plan.lines.items r.plan.columns.items

-- it takes no more cells and no more memories than the schedule without rings, and no more than its registers and comparisons may be
pub record IsNoDearer (outs spare : ℕ) (r : Reading) (s : Schedule) : Type 0 where
  pub cells : 12 + 14 * ring_count r.reads.rings.items + 6 * outs + sum_by steps_cells r.plan.columns.items + sum_by
      line_cells r.schedule.plan.lines.items + sum_by steps_cells r.schedule.plan.columns.items
      ≤ sum_by line_cells s.plan.lines.items + sum_by steps_cells s.plan.columns.items
  pub memories : ring_count r.reads.rings.items + sum_by line_mems r.schedule.plan.lines.items ≤ sum_by line_mems
      s.plan.lines.items
  pub counts : IsSpare spare r s
