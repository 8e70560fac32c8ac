-- The ports of a written module but its clock.
use Rattle.std.specs.Prelude.{◌≡◌, ℕ, ◌++◌}
use Rattle.ae_netlist.specs.Circuit.{Circuit}
use Rattle.ae_runs.specs.SameRuns.{inputs_of, outputs_of}
use Rattle.ae_verilog.specs.NetlistModule.{netlist_module}
use Rattle.ae_verilog.specs.PortNets.{port_nets}

-- they are the inputs of the netlist's module but its clock, and its outputs
abbrev pub ArePorts : (lines : ℕ → ℕ) → Circuit → (outs : ℕ) → Type 0
ArePorts lines n outs =
    inputs_of (netlist_module lines n.cells n.outlets outs)
    ++ outputs_of (netlist_module lines n.cells n.outlets outs) ≡ port_nets n.cells n.outlets outs
