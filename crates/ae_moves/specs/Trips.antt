-- Where the trips of the code lie, and what is kept of them.
use Rattle.std.specs.Prelude.{◌≡◌, ℕ, ◌+◌, ◌<◌, ◌-◌, max, List, length, Option, Some, None, Bool, false, get_or, slice_set}
use Rattle.ae_sttype.specs.Moves.{SourceTree, place, constant, TripTree, ChoiceTree, same_choice, column_delay, IsReached}

-- a choice goes on with the run that ends in the last one, if there is one
abbrev pub continues : Option ChoiceTree → ChoiceTree → Bool
continues None y = false
continues (Some x) y = same_choice x y

-- the trip lies in the first 4,096 clocks and in the columns, and d clocks are enough for it
pub record IsWithin (d ins outs : ℕ) (t : TripTree) : Type 0 where
  pub clock_in : t.clock < 4096
  pub column_in : t.column < outs
  pub reached : IsReached d ins t.clock t.source

-- the greatest ages by column, with that of a word in clock c from this source
abbrev pub deepened : (d : ℕ) (ages : List ℕ) (c : ℕ) → SourceTree → List ℕ
deepened d ages c (place k q) = slice_set ages q (max (get_or ages q 0) (c + d - k))
deepened d ages c (constant w) = ages

-- the greatest age of each of so many input columns
pub record AreAges (d columns : ℕ) (trips : List TripTree) (ages : List ℕ) : Type 0 where
  pub long : length ages ≡ columns
  pub each : (q : ℕ) → q < columns → get_or ages q 0 ≡ column_delay d q trips
