-- The clock lines, the sums and the words of a module: what its outputs show, clock by clock, in the run on given blocks.
use Rattle.std.specs.Prelude.{◌≡◌, ℕ, ◌+◌, ◌*◌, ◌%◌, ◌^◌, ◌<◌, List, [], ◌∷◌, length, map, replicate, Option, Some, None, slice_get, unwrap_or}
use Rattle.ae_word.specs.AtomTree.{WordKind, atom_kinds}
use Rattle.ae_seqtype.specs.ValueTree.{ValueTree}
use Rattle.ae_sttype.specs.declared.st_type.Slot.{Slot}
use Rattle.ae_sttype.specs.StTree.{StTree, lanes, element_atom, element_words}
use Rattle.ae_sttype.specs.Slots.{slots}
use Rattle.ae_vmodule.specs.ModuleTree.{NetTree, ModuleTree}
use Rattle.ae_runs.specs.Values.{ModuleClock}
use Rattle.ae_runs.specs.Runs.{clock_at, IsResetRun}
use Rattle.ae_runs.specs.SameRuns.{states_of, kind_depth, held_words, input_words, output_words}
use Rattle.ae_play.specs.Lines.{clock_count, clock_lines}
use Rattle.ae_play.specs.Sums.{AreSums}
use Rattle.ae_play.specs.declared.sums.Sums.{Sums}
use Rattle.ae_play.specs.Words.{port_words}
use Rattle.ae_correct.specs.Correct.{wave, param_ports, BundlesHold}

-- what a register of a width, or a memory of a depth, begins with
abbrev pub first_words : (fill width : ℕ) → (depth : Option ℕ) → List ℕ
first_words fill width None = fill % 2 ^ width ∷ []
first_words fill width (Some depth) = replicate depth (fill % 2 ^ width)

-- in clock t an element of a block stands on the lane
pub record IsTaken (s : StTree) (slowdown blocks lane t : ℕ) : Type 0 where
  pub block : ℕ
  pub element : ℕ
  pub slot : Slot
  pub there : block < blocks
  pub found : slice_get (slots s) element ≡ Some slot
  pub on : slot.lane ≡ lane
  pub now : t ≡ 1 + (block * slowdown + slot.clock)

-- the fill, in the width of a word of an element
abbrev pub fill_word : (fill : ℕ) → StTree → (word : ℕ) → ℕ
fill_word fill s j =
    unwrap_or (slice_get (map (λ (k : WordKind). fill % 2 ^ k.width) (atom_kinds (element_atom s))) j) 0

-- the inputs hold the fill wherever no element of a block stands
pub record AreFilled (run : List ModuleClock) (slowdown fill blocks : ℕ) (inputs : List StTree) : Type 0 where
  pub each : (k l j t : ℕ) (s : StTree) → slice_get inputs k ≡ Some s → l < lanes s → j < element_words s
      → t < length run → (IsTaken s slowdown blocks l t → ⊥)
      → wave run 0 (param_ports k s) t (l * element_words s + j) ≡ fill_word fill s j

-- one clock of reset and then the blocks, one behind the other; all else is the fill, modulo 2 to each width
pub record IsFed (m : ModuleTree) (slowdown fill : ℕ) (inputs : List StTree) (blocks : List (List ValueTree))
    (run : List ModuleClock) : Type 0 where
  pub reset : IsResetRun m run 1
  pub begins : 0 < length run → held_words m (clock_at run 0) ≡ map
      (λ (x : NetTree). first_words fill x.width (kind_depth x.kind)) (states_of m)
  pub holds : (b : ℕ) (block : List ValueTree) → slice_get blocks b ≡ Some block
      → BundlesHold run 1 (b * slowdown) param_ports inputs block
  pub elsewhere : AreFilled run slowdown fill (length blocks) inputs

-- the text shows the run of this module on the blocks: every word of every clock after reset
pub record IsClockText (m : ModuleTree) (slowdown latency fill : ℕ) (inputs outputs : List StTree)
    (blocks : List (List ValueTree)) (text : List ℕ) : Type 0 where
  pub run : List ModuleClock
  pub long : length run ≡ 1 + clock_count slowdown latency (length blocks)
  pub fed : IsFed m slowdown fill inputs blocks run
  pub lines : text ≡ clock_lines slowdown latency outputs (λ c. output_words m (clock_at run (1 + c)))
      (clock_count slowdown latency (length blocks))

-- the sums are those of the run of this module on the blocks
pub record AreClockSums (m : ModuleTree) (slowdown latency fill : ℕ) (inputs outputs : List StTree)
    (blocks : List (List ValueTree)) (sums : Sums) : Type 0 where
  pub run : List ModuleClock
  pub long : length run ≡ 1 + clock_count slowdown latency (length blocks)
  pub fed : IsFed m slowdown fill inputs blocks run
  pub are : AreSums slowdown latency outputs (λ c. output_words m (clock_at run (1 + c)))
      (clock_count slowdown latency (length blocks)) sums

-- the words are those of all inputs but the clock, and of all outputs, in the run of this module on the blocks
pub record AreClockWords (m : ModuleTree) (slowdown latency fill : ℕ) (inputs : List StTree)
    (blocks : List (List ValueTree)) (words : List ℕ) : Type 0 where
  pub run : List ModuleClock
  pub long : length run ≡ 1 + clock_count slowdown latency (length blocks)
  pub fed : IsFed m slowdown fill inputs blocks run
  pub are : words ≡ port_words (λ c. input_words m (clock_at run (1 + c))) (λ c. output_words m (clock_at run (1 + c)))
      (clock_count slowdown latency (length blocks))
