-- Which netlists are written as modules.
use Rattle.std.specs.Prelude.{ℕ, ◌<◌, ◌^◌, List, length, All}
use Rattle.ae_netlist.specs.declared.cell.SizedCell.{SizedCell}
use Rattle.ae_netlist.specs.declared.cell.Outlet.{Outlet}
use Rattle.ae_netlist.specs.Circuit.{IsFormed, HaveNets}
use Rattle.ae_netlist.specs.Counts.{AreWhole}
use Rattle.ae_verilog.specs.NetlistModule.{HavePorts}
use Rattle.ae_verilog.specs.Text.{PortFits, CellPortFits}
use Rattle.ae_verilog.specs.ReportLines.{ReportTree}
use Rattle.ae_verilog.specs.Notes.{NoteTree}

-- a netlist whose cells come before those that read them, whose outputs show its nets, and whose numbers have 32 bits
pub record IsListable (cells : List SizedCell) (outlets : List Outlet) : Type 0 where
  pub formed : IsFormed cells
  pub shown : HaveNets cells outlets
  pub few : length cells < 2 ^ 32
  pub inputs : All (λ (sized : SizedCell). CellPortFits sized.cell) cells
  pub outputs : All (λ (outlet : Outlet). PortFits outlet.port) outlets

-- a report and notes whose numbers have 32 bits
pub record HaveNumbers (r : ReportTree) (notes : List NoteTree) : Type 0 where
  pub slowdown : r.slowdown < 2 ^ 32
  pub latency : r.latency < 2 ^ 32
  pub muls : r.muls < 2 ^ 32
  pub load : r.load < 2 ^ 32
  pub lines : All (λ (n : NoteTree). n.line < 2 ^ 32) notes

-- a netlist whose outputs show its nets, whose ports are distinct and named, and whose memories are whole
pub record IsWritableNetlist (cells : List SizedCell) (outlets : List Outlet) (outs : ℕ) : Type 0 where
  pub formed : IsFormed cells
  pub shown : HaveNets cells outlets
  pub ports : HavePorts cells outlets outs
  pub whole : AreWhole cells
  pub few : length cells < 2 ^ 32
  pub inputs : All (λ (sized : SizedCell). CellPortFits sized.cell) cells
  pub outputs : All (λ (outlet : Outlet). PortFits outlet.port) outlets
