-- Where a clock stands among the transfers, what passes through a circuit between channels, what stays there, and
-- that it goes on and follows nothing within a clock.
use Rattle.std.specs.Prelude.{slice_get, unwrap_or, ◌≡◌, ℕ, suc, ◌+◌, ◌*◌, ◌<◌, ◌≤◌, Bool, true, List, length, drop, filter}
use Rattle.ae_seq.specs.ProgramTree.{ProgramTree}
use Rattle.ae_sttype.specs.StTree.{StTree}
use Rattle.ae_netlist.specs.Circuit.{Circuit, IsFormed}
use Rattle.ae_netlist.specs.Runs.{Clock, HasOneRun, HasWords, InEveryResetRun, IsReset, IsRun, no_clock}
use Rattle.ae_rewrite.specs.Blocks.{MakesBlocks}
use Rattle.ae_stall.specs.Held.{IsHeld, inner_clock}
use Rattle.ae_stall.specs.Images.{placed}
use Rattle.ae_stream.specs.Passing.{ByNumber, carries, passing}
use Rattle.ae_stream.specs.Streams.{Ends, Stays, Streams, bit, is_beat}
use Rattle.ae_stream.specs.Control.{AreWithin, Control, IsAround, IsInside, steps_before, word_in}
use Rattle.ae_stream.specs.Driven.{IsDriven, Row}
use Rattle.ae_stream.specs.Fed.{CanBeFed}
use Rattle.ae_stream.specs.Gates.{Gates}
use Rattle.ae_stream.specs.Paths.{HasNoPaths, IsComplete}
use Rattle.ae_stream.specs.Inside.{IsHeldInside}
use Rattle.ae_stream.specs.Progress.{GoesOn}
use Rattle.ae_stream.specs.Wired.{AreQueued, IsMarked, IsWired}

abbrev pub BlocksAreTaken : Type 0
BlocksAreTaken =
    (xs : List Clock) (pass : Clock → Bool) (live real : ℕ → Bool) (slowdown b c : ℕ)
    → ByNumber pass (carries live real slowdown) xs no_clock
    → c < slowdown → b * slowdown + c < length xs → real b ≡ true → live c ≡ true
    → (passing real b * passing live slowdown + passing live c < length (filter pass xs))
    × (unwrap_or (slice_get (filter pass xs) (passing real b * passing live slowdown + passing live c)) no_clock
    ≡ unwrap_or (slice_get xs (b * slowdown + c)) no_clock)

abbrev pub ControlledCircuitsStream : Type 0
ControlledCircuitsStream =
    (x : Control) (ends : Ends) (n : Circuit) (inner : Clock → Clock) (run : List Clock) (start slowdown latency : ℕ)
    → (p : ProgramTree) (inputs outputs : List StTree)
    → IsAround x ends n inner run start slowdown latency p inputs outputs
    → Streams ends run start p slowdown inputs outputs

abbrev pub HeldCircuitsAreInside : Type 0
HeldCircuitsAreInside =
    (x : Control) (ends : Ends) (n marked copied new : Circuit) → IsHeldInside x ends n marked copied new
    → (run : List Clock) → IsRun new.cells run → IsInside x ends n (inner_clock 2 (length n.cells)) run

abbrev pub DrivenCircuitsStream : Type 0
DrivenCircuitsStream =
    (x : Control) (g : Gates) (row : Row) (ends : Ends) (n : Circuit) (inner : Clock → Clock) (run : List Clock)
    → (start slowdown q r : ℕ) (p : ProgramTree) (inputs outputs : List StTree) → 0 < slowdown → r < slowdown
    → AreWithin inputs slowdown ends.in_columns → AreWithin outputs slowdown ends.columns
    → HasOneRun n.cells → CanBeFed n.cells p inputs → MakesBlocks n p slowdown (q * slowdown + r) inputs outputs
    → IsReset run 0 start → IsInside x ends n inner run
    → IsDriven x g row ends run start slowdown q r inputs outputs
    → Streams ends run start p slowdown inputs outputs

abbrev pub DrivenCircuitsKeepWords : Type 0
DrivenCircuitsKeepWords =
    (x : Control) (g : Gates) (row : Row) (ends : Ends) (run : List Clock) (start slowdown q r : ℕ)
    (inputs outputs : List StTree)
    → IsDriven x g row ends run start slowdown q r inputs outputs → ends.sink.valid ≡ x.one
    → Stays ends ends.columns run start

abbrev pub DrivenCircuitsGoOn : Type 0
DrivenCircuitsGoOn =
    (x : Control) (g : Gates) (row : Row) (ends : Ends) (run : List Clock) (start slowdown q r : ℕ)
    (inputs outputs : List StTree)
    → 0 < slowdown → r < slowdown → is_beat inputs 0 ≡ true
    → IsDriven x g row ends run start slowdown q r inputs outputs → ends.sink.valid ≡ x.one
    → GoesOn ends run start slowdown (q * slowdown + r) inputs outputs

abbrev pub WiredControlsHaveNoPaths : Type 0
WiredControlsHaveNoPaths =
    (x : Control) (g : Gates) (row : Row) (ends : Ends) (wanted wait : ℕ) (a b : List Clock) (start slowdown q r : ℕ)
    → (inputs outputs : List StTree) → 1 ≤ start
    → IsComplete x g row ends wanted q wait a start slowdown r inputs outputs
    → IsComplete x g row ends wanted q wait b start slowdown r inputs outputs → HasNoPaths ends a b start

abbrev pub WiredControlsAreDriven : Type 0
WiredControlsAreDriven =
    (x : Control) (g : Gates) (row : Row) (ends : Ends) (wanted wait : ℕ) (run : List Clock) (start slowdown q r : ℕ)
    → (inputs outputs : List StTree) → 0 < ends.columns
    → ((c : ℕ) → is_beat outputs c ≡ true → q * slowdown + r + c < suc wait * slowdown)
    → is_beat inputs 0 ≡ true → IsReset run g.reset start
    → IsWired x g row ends wanted q wait run → AreQueued x ends run
    → IsMarked x g row wanted run start slowdown r inputs outputs
    → IsDriven x g row ends run start slowdown q r inputs outputs

abbrev pub HeldMarksAreSeen : Type 0
HeldMarksAreSeen =
    (x : Control) (marked copied new : Circuit) → IsFormed marked.cells → 0 < length marked.cells
    → IsHeld 2 x.enable marked copied new → length marked.cells + 2 ≤ length copied.cells
    → (run : List Clock) (start : ℕ) → IsRun new.cells run → IsReset run 0 start
    → ((t : ℕ) → t < start → t < length run → bit x.enable (unwrap_or (slice_get run t) no_clock) ≡ true)
    → (y : ℕ) (f : ℕ → ℕ) → y < length marked.cells
    → InEveryResetRun marked.cells 0 (λ run start. HasWords run start y f)
    → (t : ℕ) → t < length (drop start run)
    → word_in (placed 2 y) (unwrap_or (slice_get (drop start run) t) no_clock) ≡ f (steps_before x start run t)
