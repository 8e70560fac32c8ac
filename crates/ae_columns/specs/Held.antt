-- Registers that keep a word for a period, and trips that take it from there.
use Rattle.std.specs.Prelude.{◌≡◌, ℕ, ◌+◌, ◌-◌, ◌%◌, ◌<◌, ◌≤◌, ◌==◌, ◌&&◌, Bool, if◌then◌else◌, is_some, nat_lt, List, length, Option, Some, None, get_or, sum_by}
use Rattle.std.specs.List.{range_with_len}
use Rattle.ae_netlist.specs.declared.cell.NetId.{NetId}
use Rattle.ae_netlist.specs.declared.cell.SizedCell.{SizedCell}
use Rattle.ae_netlist.specs.Circuit.{IsNet}
use Rattle.ae_netlist.specs.Runs.{Clock, word_at, InEveryResetRun}
use Rattle.ae_clocked.specs.Phases.{phase_of}
use Rattle.ae_moves.specs.declared.trip.Source.{Source}
use Rattle.ae_moves.specs.declared.trip.Source.TheVariants.{Place, Fixed}
use Rattle.ae_moves.specs.declared.trip.Trip.{Trip}
use Rattle.ae_columns.specs.Columns.{net_of}

-- register y takes the word of x in each clock in which r has this word, and else keeps its own
abbrev pub IsKept : List Clock → (y r q x : ℕ) → Type 0
IsKept run y r q x =
    (t : ℕ) → t + 1 < length run → word_at run
    (t + 1) y ≡ (if word_at run t r == q then word_at run t x else word_at run t y)

-- in each of the clocks of a period after one of phase q, y has the word that x had in that clock
abbrev pub Holds : List Clock → (start y x period offset q : ℕ) → Type 0
Holds run start y x period offset q =
    (c a : ℕ) → phase_of period offset c ≡ q → 1 ≤ a → a ≤ period → start + (c + a) < length run
    → word_at run (start + (c + a)) y ≡ word_at run (start + c) x

-- a net that holds, for a period, the word that x has in the clocks of phase q
pub record IsHeld (cells : List SizedCell) (rst width period offset q x y : ℕ) : Type 0 where
  pub net : IsNet cells y width
  pub words : InEveryResetRun cells rst (λ run start. Holds run start y x period offset q)

-- the phase of clock k of a block among the clocks of blocks that are d clocks later
abbrev pub held_phase : (period d k : ℕ) → ℕ
held_phase period d k = (k + period - d % period) % period

-- net y keeps the word of x from its clock in the blocks on, where there is such a clock; and it is as wide
pub record Keeps (cells : List SizedCell) (rst period d arrival : ℕ) (held : Option ℕ) (x y : ℕ) : Type 0 where
  pub width : ℕ
  pub from : IsNet cells x width
  pub net : IsNet cells y width
  pub words : (k : ℕ) → held ≡ Some k → InEveryResetRun cells rst
      (λ run start. Holds run start y x period ((arrival + d) % period) (held_phase period d k))

-- the input columns, and behind them a net for each that keeps its word
pub record AreKept (cells : List SizedCell) (rst period d arrival : ℕ) (ins : List NetId) (held : List (Option ℕ))
    (all : List NetId) : Type 0 where
  pub long : length all ≡ length ins + length held
  pub first : (q : ℕ) → q < length ins → net_of all q ≡ net_of ins q
  pub each : (q : ℕ) → q < length held → Keeps cells rst period d arrival (get_or held q None) (net_of ins q)
      (net_of all (length held + q))

abbrev pub is_kept : List (Option ℕ) → ℕ → Bool
is_kept held q = is_some (get_or held q None)

-- how many of the first columns have a register
abbrev pub kept_count : List (Option ℕ) → ℕ → ℕ
kept_count held n = sum_by (λ q. if is_kept held q then 1 else 0) (range_with_len 0 n)

-- a word that is due later than it comes is taken from the register of its column, in the clock in which it is due
abbrev pub settled_place : List (Option ℕ) → (due k column : ℕ) → Source
settled_place held due k column =
    if is_kept held column && nat_lt k due then Place due (length held + column) else Place k column

abbrev pub settled_source : List (Option ℕ) → (due : ℕ) → Source → Source
settled_source held due (Place k column) = settled_place held due k column
settled_source held due (Fixed w) = Fixed w

abbrev pub settled : (d : ℕ) → List (Option ℕ) → Trip → Trip
settled d held trip =
    record { clock = trip.clock; column = trip.column; source = settled_source held (trip.clock + d) trip.source }
