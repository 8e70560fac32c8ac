-- What an output column holds, by the phase of the clock.
use Rattle.std.specs.Prelude.{◌≡◌, ℕ, ◌+◌, ◌-◌, ◌<◌, ◌≤◌, ◌^◌, nat_lt, if◌then◌else◌, List, length, get_or, Some, slice_get}
use Rattle.ae_netlist.specs.declared.cell.NetId.{NetId}
use Rattle.ae_netlist.specs.declared.cell.SizedCell.{SizedCell}
use Rattle.ae_netlist.specs.Circuit.{IsNet}
use Rattle.ae_netlist.specs.Runs.{Clock, word_at, InEveryResetRun}
use Rattle.ae_clocked.specs.Delays.{IsTap}
use Rattle.ae_clocked.specs.Phases.{IsCounter}
use Rattle.ae_moves.specs.declared.trip.Choice.{Choice}
use Rattle.ae_moves.specs.declared.trip.Choice.TheVariants.{Delayed, Constant}
use Rattle.ae_columns.specs.declared.steps.PhaseNet.{PhaseNet}
use Rattle.ae_columns.specs.declared.steps.Step.{Step}

-- the net of a column
abbrev pub net_of : List NetId → ℕ → ℕ
net_of ins column = (get_or ins column (record { 0 = 0 })).0

abbrev pub age_of : Choice → ℕ
age_of (Delayed column age) = age
age_of (Constant w) = 0

-- the word that a choice takes in clock c after reset
abbrev pub taken : List Clock → (start c : ℕ) → List NetId → Choice → ℕ
taken run start c ins (Delayed column age) = word_at run (start + (c - age)) (net_of ins column)
taken run start c ins (Constant w) = w

-- a net that has the word of a choice
pub record IsSource (cells : List SizedCell) (rst width : ℕ) (ins : List NetId) (choice : Choice) (y : ℕ) : Type 0 where
  pub net : IsNet cells y width
  pub words : InEveryResetRun cells rst (λ run start. (c : ℕ) → age_of choice ≤ c → start + c < length run
      → word_at run (start + c) y ≡ taken run start c ins choice)

-- the line of a column has the tap of a choice
pub record HasTap (cells : List SizedCell) (rst width : ℕ) (ins : List NetId) (lines : List (List NetId))
    (column age tap : ℕ) : Type 0 where
  pub nets : List NetId
  pub y : NetId
  pub line : slice_get lines column ≡ Some nets
  pub found : slice_get nets tap ≡ Some y
  pub taps : IsTap cells rst width (net_of ins column) age y.0

abbrev pub IsReady : (cells : List SizedCell) (rst width : ℕ) (ins : List NetId) (lines : List (List NetId)) (tap : ℕ)
    → Choice → Type 0
IsReady cells rst width ins lines tap (Delayed column age) = HasTap cells rst width ins lines column age tap
IsReady cells rst width ins lines tap (Constant w) = w < 2 ^ width

-- the steps can be built
pub record AreReady (cells : List SizedCell) (rst width limit : ℕ) (ins : List NetId) (lines : List (List NetId))
    (steps : List Step) : Type 0 where
  pub low : 1 ≤ width
  pub high : width ≤ 64
  pub ready : (k : ℕ) (step : Step) → slice_get steps k ≡ Some step
      → IsReady cells rst width ins lines step.tap step.take
  pub within : (k : ℕ) (step : Step) → slice_get steps k ≡ Some step → step.from < limit

-- the net of a counter of phases, where there is a reset
pub record IsPhaseNet (cells : List SizedCell) (rst : ℕ) (phase : PhaseNet) : Type 0 where
  pub reset : IsNet cells rst 1
  pub counts : IsCounter cells rst (record { period = phase.period; offset = phase.offset }) phase.net.0
  pub low : phase.offset < phase.period
  pub high : phase.period ≤ 4096
  pub limited : phase.limit ≤ phase.period

-- in the phases below a limit, y is 1 where the phase is below a number, and else 0
abbrev pub IsMarkTo : (limit : ℕ) → List Clock → (start y phase from : ℕ) → Type 0
IsMarkTo limit run start y phase from =
    (c : ℕ) → start + c < length run → word_at run (start + c) phase < limit
    → word_at run (start + c) y ≡ (if nat_lt (word_at run (start + c) phase) from then 1 else 0)

-- a net that has, in the phases below a limit, the word of the choice in the phase that the net `phase` shows
pub record IsColumn (cells : List SizedCell) (rst width phase limit : ℕ) (ins : List NetId) (choice : ℕ → Choice)
    (y : ℕ) : Type 0 where
  pub net : IsNet cells y width
  pub words : InEveryResetRun cells rst (λ run start.
      (c : ℕ) → word_at run (start + c) phase < limit → age_of (choice (word_at run (start + c) phase)) ≤ c
      → start + c < length run
      → word_at run (start + c) y ≡ taken run start c ins (choice (word_at run (start + c) phase)))
