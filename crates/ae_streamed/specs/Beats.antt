-- Bits that tell which clocks after reset pass a test, and those that mark the clocks of a circuit.
use Rattle.std.specs.Prelude.{◌≡◌, ℕ, ◌-◌, ◌%◌, ◌<◌, ◌≤◌, ◌==◌, Bool, true, List, length, Some, slice_get, if◌then◌else◌, nat_lt}
use Rattle.ae_sttype.specs.declared.st_type.StType.{StType}
use Rattle.ae_sttype.specs.StTree.{StTree, st_tree, time}
use Rattle.ae_sttype.specs.Size.{IsInSize}
use Rattle.ae_netlist.specs.declared.cell.SizedCell.{SizedCell}
use Rattle.ae_netlist.specs.Circuit.{Circuit, IsNet}
use Rattle.ae_netlist.specs.Runs.{HasWords, InEveryResetRun}
use Rattle.ae_clocked.specs.Phases.{Belongs, Kept}
use Rattle.ae_gates.specs.Cells.{Grows}
use Rattle.ae_stream.specs.Streams.{is_beat}
use Rattle.ae_stream.specs.Driven.{late_clock}
use Rattle.ae_streamed.specs.declared.marking.Marks.{Marks}

-- net y is a bit that is 1 in the clocks after reset that pass a test, and else 0
pub record IsBitOf (cells : List SizedCell) (rst y : ℕ) (passes : ℕ → Bool) : Type 0 where
  pub net : IsNet cells y 1
  pub words : InEveryResetRun cells rst (λ run start. HasWords run start y (λ c. if passes c then 1 else 0))

-- a netlist that has grown, and has such a bit; its clocks still belong to it
pub record GainsBit (old new : Circuit) (before after : Kept) (y : ℕ) (passes : ℕ → Bool) : Type 0 where
  pub grows : Grows old new
  pub belongs : Belongs after new.cells
  pub rst : after.rst ≡ before.rst
  pub told : IsBitOf new.cells before.rst y passes

-- layouts, at least one, that take so many clocks
pub record AreLayouts (slowdown : ℕ) (layouts : List StType) : Type 0 where
  pub some : 0 < length layouts
  pub each : (k : ℕ) (layout : StType) → slice_get layouts k ≡ Some layout
      → IsInSize (st_tree layout) × (time (st_tree layout) ≡ slowdown)

-- the marks of a circuit whose blocks take so many clocks, and whose latency is some blocks and r clocks: the first
-- clock of each block, the last, those in which elements of the parameters stand, and, late by the latency, those in
-- which elements of the results do, and those in which these are of the block before
pub record HasMarks (cells : List SizedCell) (m : Marks) (slowdown r : ℕ) (inputs outputs : List StTree) : Type 0 where
  pub first : IsBitOf cells 0 m.first.0 (λ t. t % slowdown == 0)
  pub last : IsBitOf cells 0 m.last.0 (λ t. t % slowdown == slowdown - 1)
  pub wants : IsBitOf cells 0 m.wants.0 (λ t. is_beat inputs (t % slowdown))
  pub late : IsBitOf cells 0 m.late.0 (λ t. is_beat outputs (late_clock slowdown r (t % slowdown)))
  pub behind : IsBitOf cells 0 m.behind.0 (λ t. nat_lt (t % slowdown) r)

-- the last of the clocks of a block in which an element of one of these layouts stands
pub record IsLastBeat (layouts : List StTree) (clock : ℕ) : Type 0 where
  pub stands : is_beat layouts clock ≡ true
  pub greatest : (c : ℕ) → is_beat layouts c ≡ true → c ≤ clock
