-- What the control of a circuit between channels does, in one run.
use Rattle.std.specs.Prelude.{unwrap_or, ◌≡◌, ℕ, ◌+◌, ◌-◌, ◌*◌, ◌%◌, ◌<◌, ◌&&◌, nat_lt, not, Bool, true, false, List, length, drop, map, Some, slice_get}
use Rattle.std.specs.List.{filter}
use Rattle.ae_seq.specs.ProgramTree.{ProgramTree}
use Rattle.ae_sttype.specs.declared.st_type.Slot.{Slot}
use Rattle.ae_sttype.specs.StTree.{StTree, element_words}
use Rattle.ae_sttype.specs.Slots.{slots}
use Rattle.ae_sttype.specs.Moves.{first_column}
use Rattle.ae_netlist.specs.Circuit.{Circuit}
use Rattle.ae_netlist.specs.Runs.{Clock, no_clock, IsReset, IsRun}
use Rattle.ae_rewrite.specs.Blocks.{outlet_net}
use Rattle.ae_stream.specs.Passing.{ByNumber, carries, passing}
use Rattle.ae_stream.specs.Queue.{Queue, IsQueue}
use Rattle.ae_stream.specs.Streams.{Ends, MakesBlocksSoFar, bit, is_beat, is_transfer}

-- its nets: the circuit steps; words are wanted in this clock of a block; the block at the inputs is a real one; what is made
-- is a real block's; one word, two words stand in the queue; what is made, and what stands second in the queue
pub record Control : Type 0 where
  pub enable : ℕ
  pub takes : ℕ
  pub here : ℕ
  pub shows : ℕ
  pub one : ℕ
  pub two : ℕ
  pub made : ℕ → ℕ
  pub second : ℕ → ℕ

-- the clocks behind the reset in which the circuit steps
unfoldable pub steps : Control → (start : ℕ) → List Clock → List Clock
steps x start run = filter (bit x.enable) (drop start run)

-- how many of these are before a clock behind the reset
abbrev pub steps_before : Control → (start : ℕ) → List Clock → ℕ → ℕ
steps_before x start run t = passing (λ k. bit x.enable (unwrap_or (slice_get (drop start run) k) no_clock)) t

-- a test of each clock behind the reset says what a test of the number of steps before it says, whether it is a step or not
abbrev pub BySteps : Control → (start : ℕ) → List Clock → (Clock → Bool) → (ℕ → Bool) → Type 0
BySteps x start run pass number =
    (t : ℕ) → t < length (drop start run) → pass (unwrap_or (slice_get (drop start run) t) no_clock) ≡ number
    (steps_before x start run t)

-- whether a block is real, as its first clock says
unfoldable pub is_real : Control → (start slowdown : ℕ) → List Clock → ℕ → Bool
is_real x start slowdown run b = bit x.here (unwrap_or (slice_get (steps x start run) (b * slowdown)) no_clock)

-- the word of a net in a clock
abbrev pub word_in : ℕ → Clock → ℕ
word_in net c = unwrap_or (slice_get c.words net) 0

abbrev pub queue_of : Control → Ends → (column : ℕ) → Queue Clock ℕ
queue_of x ends q = record {
  one = bit x.one;
  two = bit x.two;
  push = λ c. bit x.enable c && bit x.shows c;
  pop = is_transfer ends.sink;
  a = word_in (ends.outs q);
  b = word_in (x.second q);
  made = word_in (x.made q);
}

-- from clock latency on what clock t - latency of the blocks carries
abbrev pub later : (latency : ℕ) → (ℕ → Bool) → ℕ → Bool
later latency f t = not (nat_lt t latency) && f (t - latency)

-- the circuit steps in a clock in which words are wanted, and the block is real
abbrev pub wants : Control → Clock → Bool
wants x c = bit x.enable c && (bit x.takes c && bit x.here c)

pub record IsControlled (x : Control) (ends : Ends) (run : List Clock) (start slowdown latency : ℕ)
    (inputs outputs : List StTree)
    : Type 0 where
  -- in reset it steps
  pub resets : (t : ℕ) → t < start → t < length run → bit x.enable (unwrap_or (slice_get run t) no_clock) ≡ true
  -- words pass at the source where the circuit steps and a real block wants them
  pub asks : ByNumber (is_transfer ends.source) (λ t. wants x (unwrap_or (slice_get (drop start run) t) no_clock))
      (drop start run) no_clock
  pub takes : ByNumber (bit x.takes) (λ t. is_beat inputs (t % slowdown)) (steps x start run) no_clock
  -- a block stays real or not
  pub stays : (b c : ℕ) → c + 1 < slowdown → b * slowdown + (c + 1) < length (steps x start run)
      → bit x.here (unwrap_or (slice_get (steps x start run) (b * slowdown + (c + 1))) no_clock)
      ≡ bit x.here (unwrap_or (slice_get (steps x start run) (b * slowdown + c)) no_clock)
  -- real results are shown, late by the latency
  pub shows : ByNumber (bit x.shows) (later latency (carries (is_beat outputs) (is_real x start slowdown run) slowdown))
      (steps x start run) no_clock
  -- each column has a queue, which is empty at first
  pub any : 0 < ends.columns
  pub queue : (q : ℕ) → q < ends.columns → IsQueue (queue_of x ends q) (drop start run) no_clock
  pub empty : 0 < length (drop start run) → bit x.one (unwrap_or (slice_get (drop start run) 0) no_clock) ≡ false

-- what the circuit inside has in a clock
pub record IsPart (x : Control) (ends : Ends) (n : Circuit) (inner : Clock → Clock) (c : Clock) : Type 0 where
  pub reset : word_in 0 (inner c) ≡ word_in 0 c
  pub ins : (q : ℕ) → q < ends.in_columns → word_in (1 + q) (inner c) ≡ word_in (ends.ins q) c
  pub outs : (q : ℕ) → q < ends.columns → word_in (outlet_net n.outlets q) (inner c) ≡ word_in (x.made q) c

-- the circuit inside: of each clock in which it steps the words of its nets, which are a run of it
pub record IsInside (x : Control) (ends : Ends) (n : Circuit) (inner : Clock → Clock) (run : List Clock) : Type 0 where
  pub runs : IsRun n.cells (map inner (filter (bit x.enable) run))
  pub parts : (t : ℕ) → t < length run → IsPart x ends n inner (unwrap_or (slice_get run t) no_clock)

-- all elements stand in the clocks of a block and on so many columns, and some in the first clock
pub record AreWithin (layouts : List StTree) (slowdown columns : ℕ) : Type 0 where
  pub within : (q : ℕ) (s : StTree) (e : ℕ) (w : Slot) → slice_get layouts q ≡ Some s → slice_get (slots s) e ≡ Some w
      → w.clock < slowdown
  pub small : (q : ℕ) (s : StTree) (e j : ℕ) (w : Slot) → slice_get layouts q ≡ Some s → slice_get (slots s) e ≡ Some w
      → j < element_words s → first_column layouts q + (w.lane * element_words s + j) < columns
  pub first : is_beat layouts 0 ≡ true

-- a circuit with its control, in one run
pub record IsAround (x : Control) (ends : Ends) (n : Circuit) (inner : Clock → Clock) (run : List Clock)
    (start slowdown latency : ℕ) (p : ProgramTree) (inputs outputs : List StTree) : Type 0 where
  pub some : 0 < slowdown
  pub control : IsControlled x ends run start slowdown latency inputs outputs
  pub inside : IsInside x ends n inner run
  pub law : MakesBlocksSoFar n p slowdown latency inputs outputs
  pub reset : IsReset run 0 start
  pub ins : AreWithin inputs slowdown ends.in_columns
  pub outs : AreWithin outputs slowdown ends.columns
