-- How many registers and comparisons a move takes.
use Rattle.std.specs.Prelude.{ℕ, ◌+◌, ◌≤◌, Bool, false, if◌then◌else◌, List, length, min, sum_by, Option, Some, None, get_or}
use Rattle.ae_clocked.specs.Delays.{greatest_of}
use Rattle.ae_columns.specs.Counts.{early_count, steps_tests}
use Rattle.ae_gather.specs.declared.early.Schedule.{Schedule}
use Rattle.ae_gather.specs.declared.reading.Reading.{Reading}
use Rattle.ae_gather.specs.declared.reads.Reads.{Reads}

-- the most registers of an input column's line, beside those of its counters: as many as its greatest age, and 7
abbrev pub line_registers : List ℕ → ℕ
line_registers ages = min 7 (greatest_of ages)

-- those of the lines of a plan, and of its columns that are chosen early
abbrev pub schedule_registers : Schedule → ℕ
schedule_registers s = sum_by line_registers s.plan.lines.items + early_count s.early.items

-- an output column that reads a ring keeps what it reads in a register
abbrev pub reader_registers : List Bool → Option ℕ → ℕ
reader_registers rings (Some x) = if get_or rings x false then 1 else 0
reader_registers rings None = 0

abbrev pub reader_count : Reads → ℕ
reader_count reads = sum_by (reader_registers reads.rings.items) reads.from.items

-- what is read from rings takes no more registers than so many, and no more comparisons than the schedule without rings has steps
pub record IsSpare (spare : ℕ) (r : Reading) (s : Schedule) : Type 0 where
  pub registers : reader_count r.reads + schedule_registers r.schedule ≤ spare
  pub tests : sum_by steps_tests r.plan.columns.items + sum_by steps_tests r.schedule.plan.columns.items
      ≤ sum_by length s.plan.columns.items
