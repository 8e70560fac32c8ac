-- The netlist of a text that was written is listable.
use Rattle.std.proofs.Common.{Result, Ok, Err, IfOk, All, List, ◌<◌, ◌^◌, length}
use Rattle.ae_netlist.specs.declared.cell.SizedCell.{SizedCell}
use Rattle.ae_netlist.specs.declared.cell.Outlet.{Outlet}
use Rattle.ae_netlist.specs.Circuit.{IsFormed, HaveNets}
use Rattle.ae_verilog.specs.Text.{PortFits, CellPortFits}
use Rattle.ae_verilog.specs.Written.{IsListable}

pub returns_listable : {A E : Type 0} (r : Result A E) (cells : List SizedCell) (outlets : List Outlet) → IsFormed cells → HaveNets cells outlets
    → length cells < 2 ^ 32 →
    IfOk r (λ text. All (λ (sized : SizedCell). CellPortFits sized.cell) cells) → IfOk r (λ text. All (λ (outlet : Outlet). PortFits outlet.port) outlets)
    → IfOk r (λ text. IsListable cells outlets)
returns_listable (Ok text) cells outlets formed shown few ins outs = record { formed = formed; shown = shown; few = few; inputs = ins; outputs = outs }
returns_listable (Err x) cells outlets formed shown few ins outs = tt
