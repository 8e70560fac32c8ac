-- What is proved of the flow of a program's schedule.
use Rattle.std.specs.Prelude.{◌≡◌, ℕ, ◌<◌, List, length, map, take, Some, slice_get}
use Rattle.ae_seqtype.specs.ValueTree.{ValueTree, flat}
use Rattle.ae_seq.specs.ProgramTree.{ProgramTree}
use Rattle.ae_seq.specs.Meaning.{mean}
use Rattle.ae_eval.specs.Stack.{IsTyped}
use Rattle.ae_eval.specs.Lines.{input_types}
use Rattle.ae_rewrite.specs.Interface.{AreValues}
use Rattle.ae_rewrite.specs.StProgramTree.{StFuncTree}
use Rattle.ae_rewrite.specs.Scheduled.{IsSchedule}
use Rattle.ae_rewrite.specs.Sound.{item_layout, item_layouts, IsSound}
use Rattle.ae_ops.specs.Blocks.{AllAreWords, AreWords, stream_of}
use Rattle.ae_flow.specs.Flow.{callees, flow, item_words, words_at}
use Rattle.ae_flow.specs.Fitted.{AreFitted}
use Rattle.ae_ports.specs.Ports.{streams_of}

-- the schedule of a typed program, under a slowdown that there can be, fits
abbrev pub SchedulesFit : Type 0
SchedulesFit =
    (p : ProgramTree) (slowdown : ℕ) (instances : List StFuncTree) → IsTyped p → 0 < slowdown
    → IsSchedule p slowdown instances → AreFitted instances

-- words that fit the layouts of an instance's parameters give each item words that fit its layout
abbrev pub FlowsFit : Type 0
FlowsFit =
    (instances : List StFuncTree) (k : ℕ) (s : StFuncTree) (vs : List (List ℕ)) → IsSound instances
    → AreFitted instances → slice_get instances k ≡ Some s → AllAreWords (streams_of s.ins) vs
    → (i : ℕ) → i < length (item_layouts s)
    → AreWords (stream_of (item_layout (item_layouts s) i)) (words_at (item_words (callees (take k instances)) s vs) i)

-- the schedule of a typed program makes of the words of its arguments the words of its results
abbrev pub FlowsMean : Type 0
FlowsMean =
    (p : ProgramTree) (slowdown : ℕ) (instances : List StFuncTree) (vs : List ValueTree) → IsTyped p
    → IsSchedule p slowdown instances → AreValues (input_types p) vs
    → flow instances (map flat vs) ≡ map flat (mean p vs)
