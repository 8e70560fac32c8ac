-- The memories of a move's delay lines, and the registers of its columns.
use Rattle.std.specs.Prelude.{◌≡◌, ℕ, ◌+◌, ◌*◌, ◌/◌, ◌<◌, ◌&&◌, List, [], ◌∷◌, length, get_or, Option, Some, None, nat_lt, if◌then◌else◌, sum_by}
use Rattle.std.specs.List.{range_with_len}
use Rattle.ae_sttype.specs.Moves.{TripTree, column_delay, held_count, is_held, source_clock, unheld_count, uses_of}

-- the memories of a delay line of so many clocks: none where it is below 8, else one for each 4,096 clocks or a part of them
abbrev pub rings : (clocks : ℕ) → ℕ
rings a = if nat_lt a 8 then 0 else (a + 4095) / 4096

-- those of an input column: none where one register holds its words
abbrev pub column_mems : (period d column : ℕ) → List TripTree → ℕ
column_mems period d q trips = if is_held period d q trips then 0 else rings (column_delay d q trips)

-- those of so many columns
abbrev pub mems_of : (period d columns : ℕ) → List TripTree → ℕ
mems_of period d columns trips = sum_by (λ q. column_mems period d q trips) (range_with_len 0 columns)

-- the most registers of so many input columns, beside counters and marks: one for each that is held, and 7 for each other that is used
abbrev pub registers_of : (period d columns : ℕ) → List TripTree → ℕ
registers_of period d columns trips = held_count period d columns trips + 7 * unheld_count period d columns trips

-- the clock of the first word that is used
abbrev pub first_clock : List TripTree → ℕ
first_clock [] = 0
first_clock (t ∷ ts) = source_clock t.source

-- the clock of the words of a held column of which one is used later than one clock
abbrev pub held_clock : (period d column : ℕ) → List TripTree → Option ℕ
held_clock period d q trips =
    if is_held period d q trips && nat_lt 1 (column_delay d q trips) then Some (first_clock (uses_of q trips)) else None

-- that of each of so many columns
pub record AreHeld (period d columns : ℕ) (trips : List TripTree) (held : List (Option ℕ)) : Type 0 where
  pub long : length held ≡ columns
  pub each : (q : ℕ) → q < columns → get_or held q None ≡ held_clock period d q trips
