-- A simulator and the one run that it steps.
use Rattle.std.specs.Prelude.{◌≡◌, ℕ, ◌-◌, ◌<◌, ◌≤◌, true, List, [], length, Some, slice_get, get_or}
use Rattle.ae_netlist.specs.declared.cell.SizedCell.{SizedCell}
use Rattle.ae_netlist.specs.declared.cell.Outlet.{Outlet}
use Rattle.ae_netlist.specs.Counts.{is_register, is_memory, number_of}
use Rattle.ae_netlist.specs.Runs.{Clock, word_at, store_at, IsRun}
use Rattle.ae_netlist.specs.Rows.{Firsts, filled, TakesRows, BeginsWith}

-- what contracts see of a simulator: its netlist, the words of the last clock, and what registers and memories hold now
pub record Simulated : Type 0 where
  pub cells : List SizedCell
  pub outlets : List Outlet
  pub words : List ℕ
  pub held : Firsts

-- a run whose first clocks have these rows as inputs, and whose registers and memories begin as the fill, modulo 2 to each width
pub record Plays (cells : List SizedCell) (fill : ℕ) (rows : List (List ℕ)) (run : List Clock) : Type 0 where
  pub runs : IsRun cells run
  pub long : length rows ≤ length run
  pub takes : TakesRows cells rows run
  pub begins : BeginsWith cells (filled cells fill) run

-- after these rows a simulator has, of every such run, the words of the last clock and what the next one begins with
pub record HasPlayed (sim : Simulated) (fill : ℕ) (rows : List (List ℕ)) : Type 0 where
  pub words : (run : List Clock) (n : ℕ) → Plays sim.cells fill rows run → 1 ≤ length rows → n < length sim.cells
      → get_or sim.words n 0 ≡ word_at run (length rows - 1) n
  pub registers : (run : List Clock) (n : ℕ) (sized : SizedCell) → Plays sim.cells fill rows run
      → length rows < length run → slice_get sim.cells n ≡ Some sized → is_register sized.cell ≡ true
      → get_or sim.held.registers (number_of is_register sim.cells n) 0 ≡ word_at run (length rows) n
  pub memories : (run : List Clock) (n : ℕ) (sized : SizedCell) → Plays sim.cells fill rows run
      → length rows < length run → slice_get sim.cells n ≡ Some sized → is_memory sized.cell ≡ true
      → get_or sim.held.memories (number_of is_memory sim.cells n) [] ≡ store_at run (length rows) n
