-- That a circuit between two channels goes on, as its ports tell.
use Rattle.std.specs.Prelude.{slice_get, unwrap_or, ◌≡◌, ◌≢◌, ℕ, ◌+◌, ◌-◌, ◌*◌, ◌%◌, ◌<◌, ◌≤◌, ◌&&◌, nat_lt, List, length, take}
use Rattle.ae_sttype.specs.StTree.{StTree}
use Rattle.ae_netlist.specs.Runs.{Clock, no_clock, word_at}
use Rattle.ae_stream.specs.Streams.{Channel, Ends, beats, bit, is_beat, transfers}

-- how many words have passed before a clock
abbrev pub passed_before : Channel → (start : ℕ) → List Clock → (t : ℕ) → ℕ
passed_before x start run t = length (transfers x start (take t run))

-- where the sink takes in as many clocks in a row as a block has, and one more, the source is asked in one of them at least
pub record IsAsked (ends : Ends) (run : List Clock) (start slowdown : ℕ) : Type 0 where
  pub asked : (t : ℕ) → start ≤ t → t + slowdown < length run
      → ((u : ℕ) → t ≤ u → u ≤ t + slowdown → word_at run u ends.sink.ready ≡ 1)
      → (u : ℕ) × (t ≤ u) × (u ≤ t + slowdown) × (word_at run u ends.source.ready ≡ 1)

-- in each of the first so many clocks behind the reset words stand at the source, and the sink takes
abbrev pub BothGo : Ends → List Clock → (start count : ℕ) → Type 0
BothGo ends run start count =
    (u : ℕ) → u < count → (word_at run (start + u) ends.source.valid ≡ 1)
    × (word_at run (start + u) ends.sink.ready ≡ 1)

-- as long as both ends have gone in each clock, so has the circuit: the source is asked in the clocks of each block in which elements
-- of the parameters stand, and words stand at the sink late by the latency and a clock where elements of the results do
pub record IsInStep (ends : Ends) (run : List Clock) (start slowdown latency : ℕ) (inputs outputs : List StTree)
    : Type 0 where
  pub source : (c : ℕ) → start + c < length run → BothGo ends run start c
      → bit ends.source.ready (unwrap_or (slice_get run (start + c)) no_clock) ≡ is_beat inputs (c % slowdown)
  pub sink : (c : ℕ) → start + c < length run → BothGo ends run start c
      → bit ends.sink.valid (unwrap_or (slice_get run (start + c)) no_clock)
      ≡ (nat_lt latency c && is_beat outputs ((c - (latency + 1)) % slowdown))

-- the source does not stop inside a block: asked for words that are not the first of a block, it has them
abbrev pub HasNext : Ends → List Clock → (start block t : ℕ) → Type 0
HasNext ends run start block t =
    passed_before ends.source start run t % block ≢ 0 → word_at run t ends.source.ready ≡ 1
    → word_at run t ends.source.valid ≡ 1

-- it drains: if the words of k blocks have passed at the source before a clock, and from that one on the sink takes and the source
-- does not stop inside a block, the results of all these have passed at the sink once the latency, a block and a clock are over
pub record Drains (ends : Ends) (run : List Clock) (start slowdown latency : ℕ) (inputs outputs : List StTree)
    : Type 0 where
  pub drains : (t k : ℕ) → start ≤ t → t + (latency + slowdown) < length run
      → k * beats inputs slowdown ≤ passed_before ends.source start run t
      → ((u : ℕ) → t ≤ u → u ≤ t + (latency + slowdown)
      → (word_at run u ends.sink.ready ≡ 1) × HasNext ends run start (beats inputs slowdown) u)
      → k * beats outputs slowdown ≤ passed_before ends.sink start run (t + (latency + slowdown) + 1)

pub record GoesOn (ends : Ends) (run : List Clock) (start slowdown latency : ℕ) (inputs outputs : List StTree)
    : Type 0 where
  pub asked : IsAsked ends run start slowdown
  pub in_step : IsInStep ends run start slowdown latency inputs outputs
  pub drains : Drains ends run start slowdown latency inputs outputs
