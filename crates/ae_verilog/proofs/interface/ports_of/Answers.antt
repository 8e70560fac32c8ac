use Rattle.std.proofs.Common.{[], ◌++◌, List, ap, map, subst}
use Rattle.std.specs.Prelude.{string_bytes}
use Rattle.ae_netlist.specs.declared.cell.SizedCell.{SizedCell}
use Rattle.ae_netlist.specs.declared.cell.Outlet.{Outlet}
use Rattle.ae_verilog.specs.declared.interface.PortList.{PortList}
use Rattle.ae_verilog.specs.NetlistModule.{output_net}
use Rattle.ae_verilog.specs.PortNets.{HasNets, input_ports}
use Rattle.ae_verilog.proofs.interface.ports_of.Goals as goal

pub returns : goal.returns
returns c =
    let n = c.args.nl.now in
    let all : PortList = c.push_outputs.new.self in
    let none : HasNets [] (record { names = c.new.result; widths = c.new-2.result }) = record {
      names = ap (map string_bytes) c.new.ensures.items;
      widths = c.new-2.ensures.items;
    } in
    let both = c.in_ok-push_outputs.ensures (input_ports c.cells.result.now) (c.in_ok-push_inputs.ensures [] none) in
    subst (λ (os : List Outlet). HasNets (input_ports n.cells ++ map (output_net n.cells c.args.outs) os) all) c.outlets.ensures
    (subst (λ (cs : List SizedCell). HasNets (input_ports n.cells ++ map (output_net cs c.args.outs) c.outlets.result.now) all) c.cells-2.ensures
    (subst (λ (cs : List SizedCell). HasNets (input_ports cs ++ map (output_net c.cells-2.result.now c.args.outs) c.outlets.result.now) all) c.cells.ensures
    both))
