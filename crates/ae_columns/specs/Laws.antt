-- What a gather does to the words of a block.
use Rattle.std.specs.Prelude.{◌≡◌, ℕ, ◌+◌, ◌*◌, ◌<◌, ◌≤◌, ◌^◌, Bool, List, length, Some, slice_get}
use Rattle.ae_netlist.specs.declared.cell.NetId.{NetId}
use Rattle.ae_netlist.specs.declared.cell.SizedCell.{SizedCell}
use Rattle.ae_netlist.specs.Circuit.{IsNet}
use Rattle.ae_netlist.specs.Runs.{Clock, word_at, InEveryResetRun}
use Rattle.ae_clocked.specs.Delays.{AreTaps}
use Rattle.ae_moves.specs.declared.trip.Source.{Source}
use Rattle.ae_moves.specs.declared.trip.Source.TheVariants.{Place, Fixed}
use Rattle.ae_moves.specs.declared.trip.Trip.{Trip}
use Rattle.ae_columns.specs.declared.steps.Counters.{Counters}
use Rattle.ae_columns.specs.declared.steps.Step.{Step}
use Rattle.ae_columns.specs.Plans.{choice_in}
use Rattle.ae_columns.specs.Columns.{net_of}
use Rattle.ae_columns.specs.Early.{IsMade, counter_for, is_early}

-- the word of a source in the block that arrives a clocks after reset
abbrev pub sourced : List Clock → (start a : ℕ) → List NetId → Source → ℕ
sourced run start a ins (Place k column) = word_at run (start + (a + k)) (net_of ins column)
sourced run start a ins (Fixed w) = w

-- in every reset run of every netlist that extends these cells, and in each block, an output word is d clocks later the word of its source, whatever else the nets hold
abbrev pub MakesTrips : List SizedCell → (rst period d arrival : ℕ) → (ins out : List NetId) → List Trip → Type 0
MakesTrips cells rst period d arrival ins out trips =
    InEveryResetRun cells rst (λ run start.
    (b n : ℕ) (trip : Trip) (y : NetId)
    → slice_get trips n ≡ Some trip → slice_get out trip.column ≡ Some y
    → start + (arrival + d + b * period + trip.clock) < length run
    → word_at run (start + (arrival + d + b * period + trip.clock)) y.0 ≡ sourced run start
    (arrival + b * period) ins trip.source)

-- an input word comes over a net of the width of its output column, and a fixed word fits it
abbrev pub FitsColumn : List SizedCell → (ins : List NetId) → (width : ℕ) → Source → Type 0
FitsColumn cells ins width (Place k column) = IsNet cells (net_of ins column) width
FitsColumn cells ins width (Fixed w) = w < 2 ^ width

-- each output column has a width that its words have
pub record AreFitting (cells : List SizedCell) (ins : List NetId) (widths : List ℕ) (trips : List Trip) : Type 0 where
  pub low : (q w : ℕ) → slice_get widths q ≡ Some w → 1 ≤ w
  pub high : (q w : ℕ) → slice_get widths q ≡ Some w → w ≤ 64
  pub fits : (n w : ℕ) (trip : Trip) → slice_get trips n ≡ Some trip → slice_get widths trip.column ≡ Some w
      → FitsColumn cells ins w trip.source

-- the taps of one input column
pub record HasLine (cells : List SizedCell) (rst x : ℕ) (ages : List ℕ) (nets : List NetId) : Type 0 where
  pub width : ℕ
  pub net : IsNet cells x width
  pub taps : AreTaps cells rst width x ages nets

-- those of each
pub record AreLines (cells : List SizedCell) (rst : ℕ) (ins : List NetId) (ages : List (List ℕ))
    (lines : List (List NetId)) : Type 0 where
  pub long : length lines ≡ length ages
  pub each : (q : ℕ) (as_all : List ℕ) (nets : List NetId) → slice_get ages q ≡ Some as_all
      → slice_get lines q ≡ Some nets → HasLine cells rst (net_of ins q) as_all nets

-- each output column takes by phases what its steps say, a clock early where it is said so
pub record AreColumns (cells : List SizedCell) (rst : ℕ) (counters : Counters) (ins : List NetId) (widths : List ℕ)
    (early : List Bool) (columns : List (List Step)) (out : List NetId) : Type 0 where
  pub long : length out ≡ length columns
  pub each : (q w : ℕ) (steps : List Step) (y : NetId) → slice_get columns q ≡ Some steps → slice_get widths q ≡ Some w
      → slice_get out q ≡ Some y → IsMade (is_early early q) cells rst w (counter_for (is_early early q) counters) ins
      (λ p. choice_in p steps) y.0
