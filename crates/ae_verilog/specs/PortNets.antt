-- The ports of a netlist's module but its clock.
use Rattle.std.specs.Prelude.{◌≡◌, ℕ, List, ◌++◌, map, string_bytes}
use Rattle.std.specs.List.{flat_map}
use Rattle.ae_netlist.specs.declared.cell.SizedCell.{SizedCell}
use Rattle.ae_netlist.specs.declared.cell.Outlet.{Outlet}
use Rattle.ae_vmodule.specs.ModuleTree.{NetTree}
use Rattle.ae_verilog.specs.declared.interface.PortList.{PortList}
use Rattle.ae_verilog.specs.NetlistModule.{input_nets, output_net}

-- the inputs among cells, and then the outputs
abbrev pub input_ports : List SizedCell → List NetTree
input_ports cells = flat_map (λ (sized : SizedCell). input_nets sized.width sized.cell) cells

abbrev pub port_nets : List SizedCell → List Outlet → (outs : ℕ) → List NetTree
port_nets cells outlets outs = input_ports cells ++ map (output_net cells outs) outlets

-- the names and the widths of these nets
pub record HasNets (nets : List NetTree) (ports : PortList) : Type 0 where
  pub names : map string_bytes ports.names.items ≡ map (λ (x : NetTree). x.name) nets
  pub widths : ports.widths.items ≡ map (λ (x : NetTree). x.width) nets
