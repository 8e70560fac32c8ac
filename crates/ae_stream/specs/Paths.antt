-- That no path leads from an input to an output within a clock, as the ports of a circuit between two channels tell.
use Rattle.std.specs.Prelude.{◌≡◌, ℕ, ◌<◌, ◌≤◌, List, length, take}
use Rattle.ae_sttype.specs.StTree.{StTree}
use Rattle.ae_netlist.specs.Runs.{Clock, word_at}
use Rattle.ae_stream.specs.Streams.{Ends}
use Rattle.ae_stream.specs.Control.{Control}
use Rattle.ae_stream.specs.Driven.{Row}
use Rattle.ae_stream.specs.Gates.{Gates}
use Rattle.ae_stream.specs.Wired.{AreQueued, IsMarked, IsWired}

-- in each clock behind the reset the word of a net is settled by the clocks before: two runs that were the same until
-- then have the same there, whatever stands at the inputs in that clock
abbrev pub IsKnownBefore : (a b : List Clock) (start net : ℕ) → Type 0
IsKnownBefore a b start net =
    (t : ℕ) → start ≤ t → t < length a → t < length b → take t a ≡ take t b → word_at a t net ≡ word_at b t net

-- so are the bits that the source is asked and that words stand at the sink, and these words
pub record HasNoPaths (ends : Ends) (a b : List Clock) (start : ℕ) : Type 0 where
  pub asks : IsKnownBefore a b start ends.source.ready
  pub stands : IsKnownBefore a b start ends.sink.valid
  pub words : (q : ℕ) → q < ends.columns → IsKnownBefore a b start (ends.outs q)

-- ---- a control with all that belongs to it

-- a net has a bit in each clock
abbrev pub HasBits : List Clock → (net : ℕ) → Type 0
HasBits run net = (t : ℕ) → t < length run → word_at run t net < 2

-- it is wired, has its queues and its marks, and tells its ends bits
pub record IsComplete (x : Control) (g : Gates) (row : Row) (ends : Ends) (wanted q wait : ℕ) (run : List Clock)
    (start slowdown r : ℕ) (inputs outputs : List StTree) : Type 0 where
  pub wired : IsWired x g row ends wanted q wait run
  pub queued : AreQueued x ends run
  pub marked : IsMarked x g row wanted run start slowdown r inputs outputs
  pub asks : HasBits run ends.source.ready
  pub stands : HasBits run ends.sink.valid
