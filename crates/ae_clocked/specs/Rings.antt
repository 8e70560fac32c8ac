-- Rings: memories that are written in every clock, round and round, and what is read from them.
use Rattle.std.specs.Prelude.{◌≡◌, ℕ, ◌+◌, ◌/◌, ◌<◌, ◌≤◌, ◌^◌, ◌%◌, List, length, slice_set, get_or, if◌then◌else◌, nat_lt}
use Rattle.ae_netlist.specs.declared.cell.SizedCell.{SizedCell}
use Rattle.ae_netlist.specs.Circuit.{Circuit, IsNet, IsMemory}
use Rattle.ae_netlist.specs.Counts.{AreWhole, count_of, is_memory, is_mul}
use Rattle.ae_netlist.specs.Runs.{Clock, word_at, store_at, HasWords, InEveryRun, InEveryResetRun}
use Rattle.ae_gates.specs.Cells.{Grows}
use Rattle.ae_clocked.specs.declared.ring.Ring.{Ring}

-- a netlist that has grown by at most so many cells, of which at most so many are memories and none multiplies, and in which memories stay whole
pub record AddsMemories (old new : Circuit) (most stores : ℕ) : Type 0 where
  pub grows : Grows old new
  pub cells : length new.cells ≤ length old.cells + most
  pub muls : count_of is_mul new.cells ≡ count_of is_mul old.cells
  pub memories : count_of is_memory new.cells ≤ count_of is_memory old.cells + stores
  pub whole : AreWhole old.cells → AreWhole new.cells

-- memory m has so many places, and takes the word of x in every clock, at the place that at shows
pub record IsStore (run : List Clock) (m at x depth : ℕ) : Type 0 where
  pub long : (t : ℕ) → t < length run → length (store_at run t m) ≡ depth
  pub takes : (t : ℕ) → t + 1 < length run
      → store_at run (t + 1) m ≡ slice_set (store_at run t m) (word_at run t at) (word_at run t x)

-- net y has the word of memory m at the place that at shows
abbrev pub IsLook : List Clock → ℕ → ℕ → ℕ → Type 0
IsLook run y m at = (t : ℕ) → t < length run → word_at run t y ≡ get_or (store_at run t m) (word_at run t at) 0

-- memory m keeps the last words of x: it takes the word of every clock, at a counter of as many clocks as it has places
pub record IsRing (cells : List SizedCell) (rst bits x counter m : ℕ) : Type 0 where
  pub counts : InEveryResetRun cells rst (λ run start. HasWords run start counter (λ c. c % 2 ^ bits))
  pub takes : InEveryRun cells (λ run. IsStore run m counter x (2 ^ bits))

-- a ring of x whose words reach so far back, and of no more than twice as many words where these are more than eight
pub record HoldsRing (cells : List SizedCell) (rst width x reach : ℕ) (made : Ring) : Type 0 where
  pub low : 3 ≤ made.bits
  pub high : made.bits ≤ 12
  pub reaches : reach ≤ 2 ^ made.bits
  pub least : (v : ℕ) → 3 ≤ v → reach ≤ 2 ^ v → made.bits ≤ v
  pub memory : IsMemory cells made.memory.0 width (2 ^ made.bits)
  pub counter : IsNet cells made.counter.0 made.bits
  pub ring : IsRing cells rst made.bits x made.counter.0 made.memory.0

-- how many rings a delay takes
abbrev pub rings : ℕ → ℕ
rings delay = if nat_lt delay 8 then 0 else (delay + 4095) / 4096
