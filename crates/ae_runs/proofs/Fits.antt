-- In a run each word fits its width.
use Rattle.std.proofs.Common.{ℕ, ◌^◌, ◌<◌, List, length}
use Rattle.ae_netlist.specs.declared.cell.Cell.{Cell}
use Rattle.ae_netlist.specs.declared.cell.Cell.TheVariants.{Input, Const, Op, Reg, Mem, Peek}
use Rattle.ae_netlist.specs.declared.cell.SizedCell.{SizedCell}
use Rattle.ae_netlist.specs.Circuit.{IsNet, IsPlain}
use Rattle.ae_netlist.specs.Runs.{Clock, word_at, CellHolds, IsRun}
use Rattle.ae_netlist.proofs.ReadAt.{word_got}
use Rattle.ae_netlist.proofs.Shapes.{clock_shaped, cell_holds}

plain_holds : (cell : Cell) (w x : ℕ) (s : List ℕ) → IsPlain cell → CellHolds cell w x s → x < 2 ^ w
plain_holds (Input port) w x s p h = h.0
plain_holds (Const k) w x s p h = h.0
plain_holds (Op op args) w x s p h = h.0
plain_holds (Reg next) w x s p h = h.0
plain_holds (Mem depth at next enable) w x s p h = absurd p
plain_holds (Peek mem at) w x s p h = h.0

-- in a run the word of a net fits its width
pub net_fits : (cells : List SizedCell) (run : List Clock) (t n w : ℕ) → IsNet cells n w → IsRun cells run → t < length run → word_at run t n < 2 ^ w
net_fits cells run t n w p is l =
    rw (← p.wide, word_got run t n) (plain_holds p.sized.cell p.sized.width _ _ p.plain (cell_holds (clock_shaped is t l) n p.sized p.found))
