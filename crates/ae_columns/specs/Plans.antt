-- The trips of a move, and the choices by which an output column makes them.
use Rattle.std.specs.Prelude.{◌≡◌, ℕ, ◌+◌, ◌-◌, ◌*◌, ◌<◌, ◌≤◌, List, [], ◌∷◌, ◌++◌, length, fold, set, Some, slice_get, nat_lt, if◌then◌else◌}
use Rattle.ae_clocked.specs.Delays.{greatest_of}
use Rattle.ae_clocked.specs.Rings.{rings}
use Rattle.ae_moves.specs.declared.trip.Source.{Source}
use Rattle.ae_moves.specs.declared.trip.Source.TheVariants.{Place, Fixed}
use Rattle.ae_moves.specs.declared.trip.Choice.{Choice}
use Rattle.ae_moves.specs.declared.trip.Choice.TheVariants.{Delayed, Constant}
use Rattle.ae_moves.specs.declared.trip.Trip.{Trip}
use Rattle.ae_columns.specs.declared.steps.Step.{Step}

-- what the output takes with the latency d: a column so many clocks late, or a fixed word
abbrev pub choice_from : (d c : ℕ) → Source → Choice
choice_from d c (Place k column) = Delayed column (c + d - k)
choice_from d c (Fixed w) = Constant w

abbrev pub choice_of : (d : ℕ) → Trip → Choice
choice_of d trip = choice_from d trip.clock trip.source

-- d clocks are enough for the trip
abbrev pub IsReached : (d c : ℕ) → Source → Type 0
IsReached d c (Place k column) = k ≤ c + d
IsReached d c (Fixed w) = Unit {0}

-- the choice after one more step: in its first phase and later it is the step's
abbrev pub later : (phase : ℕ) → Choice → Step → Choice
later phase before step = if nat_lt phase step.from then before else step.take

-- the most cells of a column: one for its first step, and eleven for each other
abbrev pub steps_cells : List Step → ℕ
steps_cells steps = 1 + 11 * (length steps - 1)

-- the most memories of an input column's line
abbrev pub line_mems : List ℕ → ℕ
line_mems ages = rings (greatest_of ages)

-- the choice in a phase, where the first step goes on from the first clock
unfoldable pub choice_in : (phase : ℕ) → List Step → Choice
choice_in phase [] = Constant 0
choice_in phase (step ∷ steps) = fold (later phase) step.take steps

-- on one column a later trip is in a later clock
pub record AreInOrder (trips : List Trip) : Type 0 where
  pub each : (m n : ℕ) (a b : Trip) → m < n → slice_get trips m ≡ Some a → slice_get trips n ≡ Some b
      → a.column ≡ b.column → a.clock < b.clock

abbrev pub IsIn : (ins : ℕ) → Source → Type 0
IsIn ins (Place k column) = column < ins
IsIn ins (Fixed w) = Unit {0}

-- the trips are within the period and the columns, and d clocks are enough for each
pub record AreWithin (period d ins outs : ℕ) (trips : List Trip) : Type 0 where
  pub clock : (n : ℕ) (trip : Trip) → slice_get trips n ≡ Some trip → trip.clock < period
  pub column : (n : ℕ) (trip : Trip) → slice_get trips n ≡ Some trip → trip.column < outs
  pub reached : (n : ℕ) (trip : Trip) → slice_get trips n ≡ Some trip → IsReached d trip.clock trip.source
  pub source : (n : ℕ) (trip : Trip) → slice_get trips n ≡ Some trip → IsIn ins trip.source

-- the tap of a step is one of those of its column's line, and has its age
abbrev pub HasPlace : List (List ℕ) → (tap : ℕ) → Choice → Type 0
HasPlace lines tap (Delayed column age) =
    (ages : List ℕ) × (slice_get lines column ≡ Some ages) × (slice_get ages tap ≡ Some age)
HasPlace lines tap (Constant w) = Unit {0}

-- in the clock of each trip its column's steps choose its source, and each step has its tap
pub record IsPlan (d : ℕ) (trips : List Trip) (lines : List (List ℕ)) (columns : List (List Step)) : Type 0 where
  pub chosen : (n : ℕ) (trip : Trip) (steps : List Step) → slice_get trips n ≡ Some trip
      → slice_get columns trip.column ≡ Some steps → choice_in trip.clock steps ≡ choice_of d trip
  pub some : (n : ℕ) (trip : Trip) (steps : List Step) → slice_get trips n ≡ Some trip
      → slice_get columns trip.column ≡ Some steps → 1 ≤ length steps
  pub taps : (q k : ℕ) (steps : List Step) (step : Step) → slice_get columns q ≡ Some steps
      → slice_get steps k ≡ Some step → HasPlace lines step.tap step.take
  pub from : (q k : ℕ) (steps : List Step) (step : Step) → slice_get columns q ≡ Some steps
      → slice_get steps k ≡ Some step → (n : ℕ) × (trip : Trip) × (slice_get trips n ≡ Some trip) × (trip.column ≡ q)
      × (step.from ≡ trip.clock) × (step.take ≡ choice_of d trip)

-- the lines with one more tap, for a choice that is late
abbrev pub demanded : List (List ℕ) → Choice → List (List ℕ) → (tap : ℕ) → Type 0
demanded old (Delayed column age) new tap =
    (ages : List ℕ) × (slice_get old column ≡ Some ages) × (new ≡ set old column (ages ++ age ∷ []))
    × (tap ≡ length ages)
demanded old (Constant w) new tap = new ≡ old

abbrev pub IsInLines : List (List ℕ) → Choice → Type 0
IsInLines lines (Delayed column age) =
    (column < length lines) × ((ages : List ℕ) → slice_get lines column ≡ Some ages → length ages < 4294967295)
IsInLines lines (Constant w) = Unit {0}

-- each of so many columns has a trip
pub record AreUsed (outs : ℕ) (trips : List Trip) : Type 0 where
  pub each : (q : ℕ) → q < outs → (n : ℕ) × (trip : Trip) × (slice_get trips n ≡ Some trip) × (trip.column ≡ q)
