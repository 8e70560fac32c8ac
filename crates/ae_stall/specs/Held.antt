-- When a copy of a netlist stands still in the clocks in which some net is 0.
use Rattle.std.specs.Prelude.{◌≡◌, ◌≢◌, ℕ, suc, ◌+◌, ◌<◌, ◌≤◌, ◌==◌, Bool, List, [], ◌∷◌, ◌++◌, length, map, take, drop, Some, slice_get, get_or, unwrap_or}
use Rattle.std.specs.List.{filter}
use Rattle.ae_netlist.specs.declared.cell.Cell.{Cell}
use Rattle.ae_netlist.specs.declared.cell.Cell.TheVariants.{Input, Const, Op, Reg, Mem, Peek}
use Rattle.ae_netlist.specs.declared.cell.SizedCell.{SizedCell}
use Rattle.ae_netlist.specs.Circuit.{Circuit, IsNet}
use Rattle.ae_netlist.specs.Runs.{Clock, no_clock, word_at, store_at, IsRun}
use Rattle.ae_stall.specs.Images.{IsApart, placed}
use Rattle.ae_stall.specs.Copies.{HaveSameKinds}

-- in this clock the net is 1
abbrev pub is_one : (net : ℕ) → Clock → Bool
is_one net c = unwrap_or (slice_get c.words net) 0 == 1

-- the first nets without so many inputs behind the first
abbrev pub without_inputs : {X : Type 0} → (more count : ℕ) → List X → List X
without_inputs more count xs = take count (take 1 xs ++ drop (suc more) xs)

abbrev pub inner_clock : (more count : ℕ) → Clock → Clock
inner_clock more count c =
    record { words = without_inputs more count c.words; stores = without_inputs more count c.stores }

-- the clocks in which the net is 1, in order, each with the nets of the netlist that is held alone
unfoldable pub held_part : (more by count : ℕ) → List Clock → List Clock
held_part more by count run = map (inner_clock more count) (filter (is_one by) run)

-- the elements before one that pass, in order, and that one, whether it passes or not
abbrev pub until : {X : Type 0} → (X → Bool) → (t : ℕ) → List X → (d : X) → List X
until pass t xs d = filter pass (take t xs) ++ get_or xs t d ∷ []

-- the clocks before one in which the net is 1, and that one
unfoldable pub seen_part : (more by count t : ℕ) → List Clock → List Clock
seen_part more by count t run = map (inner_clock more count) (until (is_one by) t run no_clock)

-- what a register and a memory hold in a clock is what they hold in the next
abbrev pub Stays : List Clock → (t net : ℕ) → Cell → Type 0
Stays run t net (Input port) = Unit {0}
Stays run t net (Const k) = Unit {0}
Stays run t net (Op op args) = Unit {0}
Stays run t net (Reg next) = word_at run (t + 1) net ≡ word_at run t net
Stays run t net (Mem depth at next enable) = store_at run (t + 1) net ≡ store_at run t net
Stays run t net (Peek mem at) = Unit {0}

-- behind the first cell of the copy stand so many more inputs. The part of each run in which the holding net is 1 is a
-- run of the old netlist, with any clock behind it too; where it is not, the copy's registers and memories stay as they
-- are. All that is no part of the copy is as it was
pub record IsHeld (more by : ℕ) (old copied new : Circuit) : Type 0 where
  pub runs : (run : List Clock) → IsRun new.cells run → IsRun old.cells (held_part more by (length old.cells) run)
  pub sees : (run : List Clock) → IsRun new.cells run → (t : ℕ) → t < length run
      → IsRun old.cells (seen_part more by (length old.cells) t run)
  pub stays : (run : List Clock) → IsRun new.cells run → (t n : ℕ) (sized : SizedCell) → t + 1 < length run
      → word_at run t by ≢ 1 → slice_get old.cells n ≡ Some sized → Stays run t (placed more n) sized.cell
  pub widths : (n : ℕ) (sized : SizedCell) → slice_get old.cells n ≡ Some sized
      → (cell : Cell) × (slice_get new.cells (placed more n) ≡ Some (record { width = sized.width; cell = cell }))
  pub nets : (n width : ℕ) → IsNet old.cells n width → IsNet new.cells (placed more n) width
  pub keeps : (m : ℕ) (sized : SizedCell) → IsApart more (length old.cells) m → slice_get copied.cells m ≡ Some sized
      → slice_get new.cells m ≡ Some sized
  pub longer : length copied.cells ≤ length new.cells
  pub small : length new.cells ≤ length copied.cells + length old.cells
  pub kinds : HaveSameKinds copied.cells new.cells
  pub outlets : new.outlets ≡ copied.outlets
