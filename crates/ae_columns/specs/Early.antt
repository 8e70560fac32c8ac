-- Columns that are chosen a clock early, and then put in a register.
use Rattle.std.specs.Prelude.{◌≡◌, ℕ, ◌+◌, ◌-◌, ◌%◌, ◌<◌, ◌≤◌, Bool, true, false, if◌then◌else◌, List, length, get_or, Some, slice_get}
use Rattle.ae_netlist.specs.declared.cell.NetId.{NetId}
use Rattle.ae_netlist.specs.declared.cell.SizedCell.{SizedCell}
use Rattle.ae_netlist.specs.Circuit.{IsNet}
use Rattle.ae_netlist.specs.Runs.{word_at, InEveryResetRun}
use Rattle.ae_moves.specs.declared.trip.Source.{Source}
use Rattle.ae_moves.specs.declared.trip.Source.TheVariants.{Place, Fixed}
use Rattle.ae_moves.specs.declared.trip.Choice.{Choice}
use Rattle.ae_moves.specs.declared.trip.Choice.TheVariants.{Delayed, Constant}
use Rattle.ae_moves.specs.declared.trip.Trip.{Trip}
use Rattle.ae_columns.specs.declared.steps.PhaseNet.{PhaseNet}
use Rattle.ae_columns.specs.declared.steps.Counters.{Counters}
use Rattle.ae_columns.specs.declared.steps.Step.{Step}
use Rattle.ae_columns.specs.Plans.{IsReached}
use Rattle.ae_columns.specs.Columns.{age_of, taken, IsColumn, IsPhaseNet}

-- the choice takes no word of its own clock
abbrev pub ComesLate : Choice → Type 0
ComesLate (Delayed column age) = 1 ≤ age
ComesLate (Constant w) = Unit {0}

pub record AllComeLate (steps : List Step) : Type 0 where
  pub each : (k : ℕ) (step : Step) → slice_get steps k ≡ Some step → ComesLate step.take

-- a source one clock later in its block, where it is at none
abbrev pub next_source : Source → Source
next_source (Place k column) = Place (k + 1) column
next_source (Fixed w) = Fixed w

-- to choose a column a clock early is to take its words where they come one clock later
abbrev pub hastened_source : Bool → Source → Source
hastened_source early source = if early then next_source source else source

abbrev pub is_early : List Bool → (column : ℕ) → Bool
is_early early column = get_or early column false

abbrev pub hastened : List Bool → Trip → Trip
hastened early trip =
    record {
      clock = trip.clock;
      column = trip.column;
      source = hastened_source (is_early early trip.column) trip.source;
    }

-- the words of the trips are there in time, also where their columns are chosen early
pub record AreInTime (d : ℕ) (early : List Bool) (trips : List Trip) : Type 0 where
  pub each : (n : ℕ) (trip : Trip) → slice_get trips n ≡ Some trip → IsReached d trip.clock (hastened early trip).source

-- the phase in which blocks begin that arrive in a clock, and the one for columns that are chosen a clock early
abbrev pub offset_for : Bool → (begin period : ℕ) → ℕ
offset_for early begin period = if early then (begin % period + (period - 1)) % period else begin % period

abbrev pub counter_for : Bool → Counters → PhaseNet
counter_for early counters = if early then counters.sooner else counters.later

-- the counter of the columns that are chosen early, or of the others
pub record HasCounter (cells : List SizedCell) (rst begin period limit : ℕ) (counters : Counters)
    (early : Bool) : Type 0 where
  pub counts : IsPhaseNet cells rst (counter_for early counters)
  pub periodic : (counter_for early counters).period ≡ period
  pub limits : (counter_for early counters).limit ≡ limit
  pub offsets : (counter_for early counters).offset ≡ offset_for early begin period

-- the phase of the clock before the first one after reset
abbrev pub first_phase : PhaseNet → ℕ
first_phase phase = phase.period - 1 - phase.offset

-- a net that has, one clock after each phase below a limit, the word of the choice in that phase; and a fixed word in the first clock, where that is chosen
pub record IsEarlyColumn (cells : List SizedCell) (rst width phase limit first : ℕ) (ins : List NetId)
    (choice : ℕ → Choice) (y : ℕ) : Type 0 where
  pub net : IsNet cells y width
  pub words : InEveryResetRun cells rst (λ run start.
      (c : ℕ) → word_at run (start + c) phase < limit → age_of (choice (word_at run (start + c) phase)) ≤ c
      → start + (c + 1) < length run
      → word_at run (start + (c + 1)) y ≡ taken run start c ins (choice (word_at run (start + c) phase)))
  pub begins : InEveryResetRun cells rst (λ run start. (w : ℕ) → choice first ≡ Constant w → start < length run
      → word_at run start y ≡ w)

-- a column as it is built
abbrev pub IsMade : Bool → (cells : List SizedCell) (rst width : ℕ) (phase : PhaseNet) (ins : List NetId)
    (choice : ℕ → Choice) (y : ℕ) → Type 0
IsMade true cells rst width phase ins choice y =
    IsEarlyColumn cells rst width phase.net.0 phase.limit (first_phase phase) ins choice y
IsMade false cells rst width phase ins choice y = IsColumn cells rst width phase.net.0 phase.limit ins choice y
