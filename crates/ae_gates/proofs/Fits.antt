-- In a run each word fits its width.
use Rattle.std.proofs.Common.{ℕ, ◌^◌, ◌<◌, List, length}
use Rattle.ae_netlist.specs.declared.cell.SizedCell.{SizedCell}
use Rattle.ae_netlist.specs.Circuit.{IsNet}
use Rattle.ae_netlist.specs.Runs.{Clock, word_at, IsRun}
use Rattle.ae_netlist.proofs.NextClock.{plain_fits}
use Rattle.ae_netlist.proofs.ReadAt.{word_got}
use Rattle.ae_netlist.proofs.Shapes.{clock_shaped, cell_holds}

-- the word of a net fits its width
pub held_fits : (all : List SizedCell) (run : List Clock) (t n w : ℕ) → IsRun all run → t < length run → IsNet all n w → word_at run t n < 2 ^ w
held_fits all run t n w r l net =
    rw (← net.wide, word_got run t n) (plain_fits net.sized.cell net.sized.width _ _ net.plain (cell_holds (clock_shaped r t l) n net.sized net.found))
