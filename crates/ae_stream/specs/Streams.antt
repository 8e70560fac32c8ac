-- What passes through a circuit between two channels. Each has a bit that says that words stand there, and one that says
-- that they are taken; in a clock in which both are 1 they pass.
use Rattle.std.specs.Prelude.{unwrap_or, ◌≡◌, ◌≢◌, ℕ, ◌+◌, ◌*◌, ◌<◌, ◌≤◌, ◌==◌, ◌&&◌, ◌||◌, Bool, false, List, [], ◌∷◌, length, drop, Some, slice_get}
use Rattle.std.specs.List.{filter}
use Rattle.ae_seqtype.specs.ValueTree.{ValueTree, flat}
use Rattle.ae_seq.specs.ProgramTree.{ProgramTree}
use Rattle.ae_seq.specs.Meaning.{at, mean}
use Rattle.ae_sttype.specs.declared.st_type.Slot.{Slot}
use Rattle.ae_sttype.specs.StTree.{StTree, element_words}
use Rattle.ae_sttype.specs.Slots.{slots}
use Rattle.ae_sttype.specs.Moves.{first_column}
use Rattle.ae_netlist.specs.Circuit.{Circuit}
use Rattle.ae_netlist.specs.Runs.{Clock, IsReset, IsRun, word_at}
use Rattle.ae_rewrite.specs.Interface.{AreValues, parameter_types}
use Rattle.ae_rewrite.specs.Blocks.{outlet_net}
use Rattle.ae_stream.specs.Passing.{passing}

-- ---- transfers

-- the bit of a net in a clock
abbrev pub bit : ℕ → Clock → Bool
bit net c = unwrap_or (slice_get c.words net) 0 == 1

-- the nets of a channel: that words stand there, and that they are taken
pub record Channel : Type 0 where
  pub valid : ℕ
  pub ready : ℕ

-- in a transfer both are 1
abbrev pub is_transfer : Channel → Clock → Bool
is_transfer x c = bit x.valid c && bit x.ready c

-- the transfers of a channel behind the reset, in order
unfoldable pub transfers : Channel → (start : ℕ) → List Clock → List Clock
transfers x start run = filter (is_transfer x) (drop start run)

-- ---- values in transfers

abbrev pub in_clock : List Slot → ℕ → Bool
in_clock [] c = false
in_clock (w ∷ ws) c = (w.clock == c) || in_clock ws c

-- in this clock of a block an element of one of the layouts stands
abbrev pub is_beat : List StTree → ℕ → Bool
is_beat [] c = false
is_beat (s ∷ ss) c = in_clock (slots s) c || is_beat ss c

-- how many such clocks are before a clock of a block: a block takes so many transfers, one for each
abbrev pub beats : List StTree → ℕ → ℕ
beats layouts c = passing (is_beat layouts) c

-- as far as the list goes, the nets of each layout have the words of the value of its number, where the words of clock c of a
-- block stand at place c
pub record AreShown (clocks : List Clock) (place net : ℕ → ℕ) (layouts : List StTree)
    (values : List ValueTree) : Type 0 where
  pub each : (q : ℕ) (s : StTree) → slice_get layouts q ≡ Some s
      → (e j : ℕ) (w : Slot) → slice_get (slots s) e ≡ Some w → j < element_words s → place w.clock < length clocks
      → word_at clocks (place w.clock) (net (first_column layouts q + (w.lane * element_words s + j)))
      ≡ unwrap_or (slice_get (flat (at values q)) (e * element_words s + j)) 0

-- these transfers are, as far as they go, those of the values, block for block
abbrev pub AreBlocks : List Clock → (slowdown : ℕ) → (net : ℕ → ℕ) → List StTree → (b : ℕ) → List ValueTree → Type 0
AreBlocks ts slowdown net layouts b values =
    AreShown ts (λ c. b * beats layouts slowdown + beats layouts c) net layouts values

-- ---- circuits between channels

-- where its ports are: the nets of the columns, so many of each side
pub record Ends : Type 0 where
  pub in_columns : ℕ
  pub columns : ℕ
  pub source : Channel
  pub sink : Channel
  pub ins : ℕ → ℕ
  pub outs : ℕ → ℕ

-- if what was taken is the first part of the transfers of some blocks of arguments, what was given is the first part of the
-- transfers of the results
pub record Streams (ends : Ends) (run : List Clock) (start : ℕ) (p : ProgramTree) (slowdown : ℕ)
    (inputs outputs : List StTree)
    : Type 0 where
  pub streams : (blocks : List (List ValueTree))
      → length (transfers ends.source start run) ≤ length blocks * beats inputs slowdown
      → ((b : ℕ) (block : List ValueTree) → slice_get blocks b ≡ Some block
      → AreValues (parameter_types p) block × AreBlocks
      (transfers ends.source start run) slowdown ends.ins inputs b block)
      → (length (transfers ends.sink start run) ≤ length blocks * beats outputs slowdown)
      × ((b : ℕ) (block : List ValueTree) → slice_get blocks b ≡ Some block
      → AreBlocks (transfers ends.sink start run) slowdown ends.outs outputs b (mean p block))

-- words that are not taken stay
pub record Stays (ends : Ends) (columns : ℕ) (run : List Clock) (start : ℕ) : Type 0 where
  pub valid : (t : ℕ) → start ≤ t → t + 1 < length run → word_at run t ends.sink.valid ≡ 1
      → word_at run t ends.sink.ready ≢ 1 → word_at run (t + 1) ends.sink.valid ≡ 1
  pub words : (t q : ℕ) → start ≤ t → t + 1 < length run → q < columns → word_at run t ends.sink.valid ≡ 1
      → word_at run t ends.sink.ready ≢ 1 → word_at run (t + 1) (ends.outs q) ≡ word_at run t (ends.outs q)

-- ---- the block law, as far as a run goes

pub record MakesBlocksSoFar (n : Circuit) (p : ProgramTree) (slowdown latency : ℕ) (inputs outputs : List StTree)
    : Type 0 where
  pub makes : (run : List Clock) (start b : ℕ) (block : List ValueTree) → IsRun n.cells run → IsReset run 0 start
      → AreValues (parameter_types p) block
      → AreShown run (λ c. start + (b * slowdown + c)) (λ q. 1 + q) inputs block
      → AreShown run (λ c. start + (latency + (b * slowdown + c))) (outlet_net n.outlets) outputs (mean p block)
