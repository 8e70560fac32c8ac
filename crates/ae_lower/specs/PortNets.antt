-- How a netlist grows by ports, and what nets these have.
use Rattle.std.specs.Prelude.{◌≡◌, ℕ, ◌+◌, List, [], ◌∷◌, ◌++◌, length, map}
use Rattle.std.specs.List.{range_with_len}
use Rattle.ae_netlist.specs.declared.cell.NetId.{NetId}
use Rattle.ae_netlist.specs.declared.cell.SizedCell.{SizedCell}
use Rattle.ae_netlist.specs.declared.cell.Outlet.{Outlet}
use Rattle.ae_netlist.specs.Circuit.{Circuit, width_of}
use Rattle.ae_ops.specs.Blocks.{Stream, stream_widths}
use Rattle.ae_ports.specs.Ports.{SizedPort, input_cell, outlet_port}

-- so many nets, one after the other
abbrev pub nets_from : (first count : ℕ) → List NetId
nets_from first n = map (λ (k : ℕ). record { 0 = k }) (range_with_len first n)

-- those of the inputs of each stream in turn
abbrev pub bundles_from : (first : ℕ) → List Stream → List (List NetId)
bundles_from first [] = []
bundles_from first (s ∷ ss) =
    nets_from first (length (stream_widths s)) ∷ bundles_from (first + length (stream_widths s)) ss

-- how wide nets are
abbrev pub net_widths : List SizedCell → List NetId → List ℕ
net_widths cells nets = map (λ (n : NetId). width_of cells n.0) nets

-- an input for each of these ports, behind all other cells; their nets are put behind others
pub record AddsInputs (old new : Circuit) (before after : List NetId) (ports : List SizedPort) : Type 0 where
  pub cells : new ≡ record old { cells = old.cells ++ map input_cell ports }
  pub nets : after ≡ before ++ nets_from (length old.cells) (length ports)

-- an output for each of these ports, each of which shows its net
pub record AddsOutputs (old new : Circuit) (ports : List SizedPort) (nets : List NetId) : Type 0 where
  pub outlets : List Outlet
  pub added : new ≡ record old { outlets = old.outlets ++ outlets }
  pub are : map (outlet_port old.cells) outlets ≡ ports
  pub show : map (λ (o : Outlet). o.net) outlets ≡ nets
