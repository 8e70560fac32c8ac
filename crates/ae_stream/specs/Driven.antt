-- What the registers of the control take.
use Rattle.std.specs.Prelude.{slice_get, unwrap_or, ◌≡◌, ℕ, suc, ◌+◌, ◌-◌, ◌*◌, ◌%◌, ◌<◌, ◌≤◌, ◌==◌, ◌&&◌, nat_lt, if◌then◌else◌, Bool, true, false, List, length, drop}
use Rattle.ae_sttype.specs.StTree.{StTree}
use Rattle.ae_netlist.specs.Runs.{Clock, no_clock}
use Rattle.ae_stream.specs.Streams.{Ends, bit, is_beat}
use Rattle.ae_stream.specs.Queue.{IsQueue}
use Rattle.ae_stream.specs.Control.{BySteps, Control, queue_of}
use Rattle.ae_stream.specs.Gates.{Gates, HasGates}

-- a part of each element that becomes what f makes of the element before, if that one passes, and else stays
pub record Follows {X A : Type 0} (p : X → Bool) (part f : X → A) (d : X) (xs : List X) : Type 0 where
  pub each : (t : ℕ) → t + 1 < length xs
      → part (unwrap_or (slice_get xs (t + 1)) d) ≡ (if p (unwrap_or (slice_get xs t) d) then f
      (unwrap_or (slice_get xs t) d) else part (unwrap_or (slice_get xs t) d))

-- the row of flags, and the marks of the phases by which it moves and is read: the last clock of a block; that results
-- stand, late by the latency; that they are those of the block before
pub record Row : Type 0 where
  pub flag : ℕ → ℕ
  pub last : ℕ
  pub late : ℕ
  pub behind : ℕ

-- the clock of the block of the results, where that of the block at the inputs is c and the latency is so many blocks and r
-- clocks
abbrev pub late_clock : (slowdown r c : ℕ) → ℕ
late_clock slowdown r c = if nat_lt c r then c + slowdown - r else c - r

-- what is made is shown where results stand and their block is real
abbrev pub IsRead : Control → Row → (q : ℕ) → Clock → Type 0
IsRead x row q c =
    bit x.shows c ≡ (bit row.late c && (if bit row.behind c then bit (row.flag (suc q)) c else bit (row.flag q) c))

-- the flag of block j at the inputs becomes that of the block before where the last clock of a block steps
abbrev pub next_flag : Row → (j : ℕ) → Clock → Bool
next_flag row j c = if bit row.last c then bit (row.flag j) c else bit (row.flag (suc j)) c

-- the latency is q blocks and r clocks, and so many flags and one more are there
pub record IsDriven (x : Control) (g : Gates) (row : Row) (ends : Ends) (run : List Clock) (start slowdown q r : ℕ)
    (inputs outputs : List StTree) : Type 0 where
  pub resets : (t : ℕ) → t < start → t < length run → bit x.enable (unwrap_or (slice_get run t) no_clock) ≡ true
  pub low : (t : ℕ) → t < length (drop start run)
      → bit g.reset (unwrap_or (slice_get (drop start run) t) no_clock) ≡ false
  pub gates : (t : ℕ) → t < length (drop start run)
      → HasGates x g ends (unwrap_or (slice_get (drop start run) t) no_clock)
  pub current : Follows (bit x.enable) (bit g.current) (bit x.here) no_clock (drop start run)
  pub flag : (j : ℕ) → j ≤ q → Follows (bit x.enable) (bit (row.flag (suc j))) (next_flag row j) no_clock
      (drop start run)
  pub here : row.flag 0 ≡ x.here
  pub clear : (j : ℕ) → j ≤ q → 0 < length (drop start run)
      → bit (row.flag (suc j)) (unwrap_or (slice_get (drop start run) 0) no_clock) ≡ false
  -- it is busy where a block has begun before that is real, and of whose results some are still to come
  pub busy : (t j c : ℕ) → t < length (drop start run) → is_beat outputs c ≡ true
      → suc j * slowdown ≤ q * slowdown + r + c
      → bit (row.flag (suc j)) (unwrap_or (slice_get (drop start run) t) no_clock) ≡ true
      → bit g.busy (unwrap_or (slice_get (drop start run) t) no_clock) ≡ true
  -- the phases of the clocks by the steps before them
  pub first : BySteps x start run (bit g.first) (λ t. t % slowdown == 0)
  pub last : BySteps x start run (bit row.last) (λ t. t % slowdown == slowdown - 1)
  pub takes : BySteps x start run (bit x.takes) (λ t. is_beat inputs (t % slowdown))
  pub late : BySteps x start run (bit row.late) (λ t. is_beat outputs (late_clock slowdown r (t % slowdown)))
  pub behind : BySteps x start run (bit row.behind) (λ t. nat_lt (t % slowdown) r)
  pub shows : (t : ℕ) → t < length (drop start run) → IsRead x row q (unwrap_or (slice_get (drop start run) t) no_clock)
  pub any : 0 < ends.columns
  pub queue : (column : ℕ) → column < ends.columns → IsQueue (queue_of x ends column) (drop start run) no_clock
  pub empty : 0 < length (drop start run) → bit x.one (unwrap_or (slice_get (drop start run) 0) no_clock) ≡ false
