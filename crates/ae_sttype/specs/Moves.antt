-- A move takes each word of its output from a word of one of its inputs, or has a fixed word there. What it costs.
use Rattle.std.specs.Prelude.{ℕ, ◌+◌, ◌-◌, ◌*◌, ◌/◌, ◌%◌, ◌<◌, ◌≤◌, List, [], ◌∷◌, max, Bool, false, not, ◌&&◌, ◌||◌, ◌==◌, nat_le, nat_lt, if◌then◌else◌, map, fold, filter, length, take, sum_by, count_by, slice_get, unwrap_or}
use Rattle.std.specs.List.{range_with_len, list_all}
use Rattle.ae_sttype.specs.declared.st_type.Slot.{Slot}
use Rattle.ae_word.specs.AtomTree.{unsigned_word}
use Rattle.ae_sttype.specs.StTree.{StTree, atom, sseq, lanes, st_atoms, element_words}
use Rattle.ae_sttype.specs.Slots.{slots}

-- where an output word comes from: a word of an element of an input, or it is fixed
pub data OriginTree : Type 0 where
  from_input : (input element word : ℕ) → OriginTree
  fixed : (word : ℕ) → OriginTree

-- the same by clock and column; the columns of all inputs are numbered one after the other
pub data SourceTree : Type 0 where
  place : (clock column : ℕ) → SourceTree
  constant : (word : ℕ) → SourceTree

-- the way of one output word: its clock and column, and where it comes from
pub record TripTree : Type 0 where
  pub clock : ℕ
  pub column : ℕ
  pub source : SourceTree

-- the columns of a layout, by lane and then by word
abbrev pub columns_of : StTree → ℕ
columns_of s = lanes s * element_words s

-- the slot of element e; the default is read of no element of the layout
abbrev pub slot_number : StTree → ℕ → Slot
slot_number s e = unwrap_or (slice_get (slots s) e) (record { clock = 0; lane = 0 })

abbrev pub column_number : StTree → (element word : ℕ) → ℕ
column_number s e j = (slot_number s e).lane * element_words s + j

-- the first column of an input
abbrev pub first_column : List StTree → (input : ℕ) → ℕ
first_column ins i = sum_by columns_of (take i ins)

abbrev pub source_of : List StTree → OriginTree → SourceTree
source_of ins (from_input i e j) =
    let s = unwrap_or (slice_get ins i) (sseq 0 (atom (unsigned_word 1))) in
    place (slot_number s e).clock (first_column ins i + column_number s e j)
source_of ins (fixed w) = constant w

-- the trips of all output words, in element order and then by word; each has its origin, so no default is read
abbrev pub trip_number : (ins : List StTree) (out : StTree) (origins : List OriginTree) (number : ℕ) → TripTree
trip_number ins out origins o =
    let words = element_words out in record {
      clock = (slot_number out (o / words)).clock;
      column = column_number out (o / words) (o % words);
      source = source_of ins (unwrap_or (slice_get origins o) (fixed 0));
    }

abbrev pub trips_of : (ins : List StTree) (out : StTree) (origins : List OriginTree) → List TripTree
trips_of ins out origins = map (trip_number ins out origins) (range_with_len 0 (st_atoms out * element_words out))

-- the greatest value of f, and 0 of no elements
abbrev pub greatest : {X : Type 0} → (X → ℕ) → List X → ℕ
greatest f xs = fold (λ most x. max most (f x)) 0 xs

-- how many clocks a source comes later than the word itself, or 0
abbrev pub lead_from : (clock : ℕ) → SourceTree → ℕ
lead_from c (place k q) = k - c
lead_from c (constant w) = 0

-- the latency of a move: the clocks by which the output has to come later than the inputs
abbrev pub latency_of_trips : List TripTree → ℕ
latency_of_trips trips = greatest (λ (t : TripTree). lead_from t.clock t.source) trips

-- how old a word of the column is when the output takes it with the latency d, and 0 where it takes none of the column
abbrev pub age_from : (d column clock : ℕ) → SourceTree → ℕ
age_from d q c (place k p) = if p == q then c + d - k else 0
age_from d q c (constant w) = 0

-- the greatest age with which a column of the inputs is used
abbrev pub column_delay : (d column : ℕ) → List TripTree → ℕ
column_delay d q trips = greatest (λ (t : TripTree). age_from d q t.clock t.source) trips

-- the words that a move keeps: the sum of these over so many columns
abbrev pub delay_of : (d columns : ℕ) → List TripTree → ℕ
delay_of d columns trips = sum_by (λ q. column_delay d q trips) (range_with_len 0 columns)

-- what the output takes: a column so many clocks late, or a fixed word
pub data ChoiceTree : Type 0 where
  delayed : (column age : ℕ) → ChoiceTree
  always : (word : ℕ) → ChoiceTree

abbrev pub choice_from : (d clock : ℕ) → SourceTree → ChoiceTree
choice_from d c (place k q) = delayed q (c + d - k)
choice_from d c (constant w) = always w

-- the choices of one output column, in the order of its clocks
abbrev pub choices_of : (d column : ℕ) → List TripTree → List ChoiceTree
choices_of d q trips = map (λ (t : TripTree). choice_from d t.clock t.source) (filter (λ (t : TripTree). t.column == q) trips)

abbrev pub same_choice : ChoiceTree → ChoiceTree → Bool
same_choice (delayed p a) (delayed q b) = p == q && (a == b)
same_choice (delayed p a) (always w) = false
same_choice (always v) (delayed q b) = false
same_choice (always v) (always w) = v == w

-- how often neighbours differ after the choice x, where a test says which are the same
abbrev pub changes_after : (ChoiceTree → ChoiceTree → Bool) → ChoiceTree → List ChoiceTree → ℕ
changes_after same x [] = 0
changes_after same x (y ∷ ys) = changes_after same y ys + (if same x y then 0 else 1)

-- the number of longest stretches of the same choice
abbrev pub stretches : (ChoiceTree → ChoiceTree → Bool) → List ChoiceTree → ℕ
stretches same [] = 0
stretches same (x ∷ xs) = changes_after same x xs + 1

-- the runs of one output column, and of so many
abbrev pub column_runs : (d column : ℕ) → List TripTree → ℕ
column_runs d q trips = stretches same_choice (choices_of d q trips)

abbrev pub runs_of : (d columns : ℕ) → List TripTree → ℕ
runs_of d columns trips = sum_by (λ q. column_runs d q trips) (range_with_len 0 columns)

-- d clocks are enough for the source
abbrev pub IsReached : (d columns clock : ℕ) → SourceTree → Type 0
IsReached d columns c (place k q) = (q < columns) × (k ≤ c + d)
IsReached d columns c (constant w) = Unit {0}

-- ---- held columns: one register keeps the word that is used

-- the source is in this column
abbrev pub is_in_column : (column : ℕ) → SourceTree → Bool
is_in_column q (place k p) = p == q
is_in_column q (constant w) = false

abbrev pub source_clock : SourceTree → ℕ
source_clock (place k p) = k
source_clock (constant w) = 0

-- the trips that take a word of a column of the inputs
abbrev pub uses_of : (column : ℕ) → List TripTree → List TripTree
uses_of q trips = filter (λ (t : TripTree). is_in_column q t.source) trips

-- all words that they take stand in one clock, and are taken with ages of at most the period
abbrev pub are_held : (period d : ℕ) → List TripTree → Bool
are_held period d [] = false
are_held period d (first ∷ rest) =
    list_all (λ (t : TripTree). (source_clock t.source == source_clock first.source) && nat_le (t.clock + d - source_clock t.source) period) (first ∷ rest)

-- a used column of the inputs is held
abbrev pub is_held : (period d column : ℕ) → List TripTree → Bool
is_held period d q trips = are_held period d (uses_of q trips)

abbrev pub is_used : (column : ℕ) → List TripTree → Bool
is_used q trips = nat_lt 0 (length (uses_of q trips))

-- how many of so many columns are held, and how many others are used
abbrev pub held_count : (period d columns : ℕ) → List TripTree → ℕ
held_count period d columns trips = count_by (λ q. is_held period d q trips) (range_with_len 0 columns)

abbrev pub unheld_count : (period d columns : ℕ) → List TripTree → ℕ
unheld_count period d columns trips = count_by (λ q. is_used q trips && not (is_held period d q trips)) (range_with_len 0 columns)

-- the same choice, or two choices of one held column with ages of at least 1
abbrev pub same_step : (held : ℕ → Bool) → ChoiceTree → ChoiceTree → Bool
same_step held (delayed p a) (delayed q b) = p == q && (a == b || (held p && nat_le 1 a && nat_le 1 b))
same_step held (delayed p a) (always w) = false
same_step held (always v) (delayed q b) = false
same_step held (always v) (always w) = v == w

-- the steps of one output column, and of so many
abbrev pub column_steps : (period d column : ℕ) → List TripTree → ℕ
column_steps period d q trips = stretches (same_step (λ p. is_held period d p trips)) (choices_of d q trips)

abbrev pub steps_of : (period d columns : ℕ) → List TripTree → ℕ
steps_of period d columns trips = sum_by (λ q. column_steps period d q trips) (range_with_len 0 columns)
