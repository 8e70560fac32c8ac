-- Registers that take up a word again some clocks later, where that word waits, and the net that marks the first clocks of each block.
use Rattle.std.specs.Prelude.{◌≡◌, ℕ, ◌+◌, ◌*◌, ◌%◌, ◌^◌, ◌<◌, ◌≤◌, List, length, Option, Some, None}
use Rattle.ae_word.specs.declared.op.WordOp.{WordOp}
use Rattle.ae_netlist.specs.declared.cell.SizedCell.{SizedCell}
use Rattle.ae_netlist.specs.Circuit.{Circuit, IsNet}
use Rattle.ae_netlist.specs.Counts.{AreWhole, count_of, is_memory, is_mul}
use Rattle.ae_netlist.specs.Runs.{Clock, word_at, HasWords, InEveryResetRun}
use Rattle.ae_gates.specs.Cells.{Grows}
use Rattle.ae_ops.specs.Folds.{combine}
use Rattle.ae_fold.specs.declared.feedback.RingCounter.{RingCounter}

-- net z takes the word of x where first is 1, and where it is 0, from clock d after reset on, the word that y had d clocks before, combined with that
-- of x; y may be z itself
pub record Continues (run : List Clock) (start z : ℕ) (op : WordOp) (w x first y d : ℕ) : Type 0 where
  pub loads : (t : ℕ) → t + 1 < length run → word_at run t first ≡ 1 → word_at run (t + 1) z ≡ word_at run t x
  pub goes_on : (t : ℕ) → start ≤ t → t + d + 1 < length run → word_at run (t + d) first ≡ 0
      → word_at run (t + d + 1) z ≡ combine op w (word_at run t y) (word_at run (t + d) x)

-- from clock k after reset on, in blocks of so many clocks, y is 1 in the first `inner` clocks of a block, and 0 in the others
pub record Leads (run : List Clock) (start y period k inner : ℕ) : Type 0 where
  pub high : (b m : ℕ) → m < inner → start + (k + b * period + m) < length run
      → word_at run (start + (k + b * period + m)) y ≡ 1
  pub low : (b m : ℕ) → inner ≤ m → m < period → start + (k + b * period + m) < length run
      → word_at run (start + (k + b * period + m)) y ≡ 0

-- net y has, one clock later, the words of two nets combined
abbrev pub IsJoined : List Clock → (y : ℕ) → WordOp → (w a b : ℕ) → Type 0
IsJoined run y op w a b =
    (t : ℕ) → t + 1 < length run → word_at run (t + 1) y ≡ combine op w (word_at run t a) (word_at run t b)

-- a net of as many bits as count the places of a ring that reaches so far back
pub record IsPlace (cells : List SizedCell) (reach : ℕ) (at : RingCounter) : Type 0 where
  pub some : 1 ≤ at.bits
  pub few : at.bits ≤ 12
  pub reaches : reach ≤ 2 ^ at.bits
  pub net : IsNet cells at.net.0 at.bits

abbrev pub MayPlace : List SizedCell → (reach : ℕ) → Option RingCounter → Type 0
MayPlace cells reach None = Unit {0}
MayPlace cells reach (Some at) = IsPlace cells reach at

-- it counts the clocks after reset, round and round
abbrev pub TurnsIn : List Clock → (start : ℕ) → Option RingCounter → Type 0
TurnsIn run start None = Unit {0}
TurnsIn run start (Some at) = HasWords run start at.net.0 (λ c. c % 2 ^ at.bits)

abbrev pub TurnsAlways : List SizedCell → (rst : ℕ) → Option RingCounter → Type 0
TurnsAlways cells rst ring = InEveryResetRun cells rst (λ run start. TurnsIn run start ring)

-- a netlist that has grown by at most so many cells, exactly so many of which multiply and at most so many of which are memories, and in which memories
-- stay whole
pub record AddsStores (old new : Circuit) (most products stores : ℕ) : Type 0 where
  pub grows : Grows old new
  pub cells : length new.cells ≤ length old.cells + most
  pub muls : count_of is_mul new.cells ≡ count_of is_mul old.cells + products
  pub memories : count_of is_memory new.cells ≤ count_of is_memory old.cells + stores
  pub whole : AreWhole old.cells → AreWhole new.cells
