-- Counters of the clocks after reset.
use Rattle.std.specs.Prelude.{◌≡◌, ℕ, ◌+◌, ◌-◌, ◌%◌, ◌^◌, ◌<◌, ◌≤◌, ◌==◌, ◌&&◌, if◌then◌else◌, nat_lt, Bool, List, length, Option, Some}
use Rattle.std.specs.Map.{lookup}
use Rattle.ae_netlist.specs.declared.cell.NetId.{NetId}
use Rattle.ae_netlist.specs.declared.cell.SizedCell.{SizedCell}
use Rattle.ae_netlist.specs.Circuit.{IsNet}
use Rattle.ae_netlist.specs.Runs.{Clock, word_at, InEveryResetRun, HasWords}
use Rattle.ae_clocked.specs.declared.clocks.Phase.{Phase}
use Rattle.ae_clocked.specs.declared.clocks.Mark.{Mark}

-- what contracts see of the clocks: the reset net, and the nets of the counters and of the marks that were made
pub record Kept : Type 0 where
  pub rst : ℕ
  pub counters : List (Phase × NetId)
  pub marks : List (Mark × NetId)

-- how many counters and marks are kept
abbrev pub made_of : Kept → ℕ
made_of kept = length kept.counters + length kept.marks

-- two phases with the same numbers
abbrev pub same_phase : Phase → Phase → Bool
same_phase a b = (a.period == b.period) && (a.offset == b.offset)

-- the net of the counter of a phase, where it was made
abbrev pub kept_at : Kept → Phase → Option NetId
kept_at kept phase = lookup (same_phase phase) kept.counters

-- two marks with the same numbers
abbrev pub same_mark : Mark → Mark → Bool
same_mark a b = (a.period == b.period) && ((a.offset == b.offset) && (a.from == b.from))

-- the net of a mark, where it was made
abbrev pub mark_at : Kept → Mark → Option NetId
mark_at kept mark = lookup (same_mark mark) kept.marks

-- the word of a phase in a clock
unfoldable pub phase_of : (period offset c : ℕ) → ℕ
phase_of period offset c = (c + period - offset) % period

-- the width is the least one, from 1 on, that holds all words of a phase
pub record HoldsPhases (width period : ℕ) : Type 0 where
  pub low : 1 ≤ width
  pub enough : period ≤ 2 ^ width
  pub least : (v : ℕ) → 1 ≤ v → period ≤ 2 ^ v → width ≤ v

-- a net that is no memory and counts the clocks of every reset run
pub record IsCounter (cells : List SizedCell) (rst : ℕ) (phase : Phase) (net : ℕ) : Type 0 where
  pub width : ℕ
  pub holds : HoldsPhases width phase.period
  pub is_net : IsNet cells net width
  pub words : InEveryResetRun cells rst (λ run start. HasWords run start net (phase_of phase.period phase.offset))

-- from the first clock after reset on, y is 1 in the clocks whose phase is below a number, and else 0
abbrev pub MarksPhases : List Clock → (start y period offset from : ℕ) → Type 0
MarksPhases run start y period offset from =
    HasWords run start y (λ c. if nat_lt (phase_of period offset c) from then 1 else 0)

-- a net of one bit that marks, in every reset run, the first clocks of each period
pub record IsPhaseMark (cells : List SizedCell) (rst : ℕ) (mark : Mark) (net : ℕ) : Type 0 where
  pub is_net : IsNet cells net 1
  pub words : InEveryResetRun cells rst (λ run start. MarksPhases run start net mark.period mark.offset mark.from)

-- these clocks belong to a netlist
pub record Belongs (clocks : Kept) (cells : List SizedCell) : Type 0 where
  pub rst : IsNet cells clocks.rst 1
  pub counters : (phase : Phase) (net : NetId) → kept_at clocks phase ≡ Some net
      → IsCounter cells clocks.rst phase net.0
  pub marks : (mark : Mark) (net : NetId) → mark_at clocks mark ≡ Some net → IsPhaseMark cells clocks.rst mark net.0

-- clocks with the same reset that go on to keep each counter
pub record KeepsCounters (old new : Kept) : Type 0 where
  pub rst : new.rst ≡ old.rst
  pub counters : (phase : Phase) (net : NetId) → kept_at old phase ≡ Some net → kept_at new phase ≡ Some net

-- from the first clock after reset on, y is 1 where the phase that a net shows is below a number, and else 0
abbrev pub IsMark : List Clock → (start y phase from : ℕ) → Type 0
IsMark run start y phase from =
    (c : ℕ) → start + c < length run → word_at run
    (start + c) y ≡ (if nat_lt (word_at run (start + c) phase) from then 1 else 0)
