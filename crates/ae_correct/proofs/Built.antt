-- The module of a circuit for a program is correct for it.
use Rattle.std.proofs.Common.{ℕ, ◌≡◌, true, false, List, ◌∷◌, ◌++◌, length, map, refl, ap, ◌∙◌}
use Rattle.std.specs.Prelude.{codes}
use Rattle.std.proofs.lemmas.List.{map-append}
use Rattle.ae_sttype.specs.StTree.{StTree}
use Rattle.ae_netlist.specs.declared.cell.Port.TheVariants.{In, Out}
use Rattle.ae_netlist.specs.Circuit.{Circuit}
use Rattle.ae_runs.specs.SameRuns.{HasSameRuns}
use Rattle.ae_verilog.specs.NetlistModule.{netlist_module}
use Rattle.ae_seq.specs.ProgramTree.{ProgramTree}
use Rattle.ae_rewrite.specs.Blocks.{MakesBlocks}
use Rattle.ae_ports.specs.Ports.{SizedPort, streams_of}
use Rattle.ae_ports.specs.Ports as net_side
use Rattle.ae_ports.proofs.Columns.{map_map}
use Rattle.ae_correct.specs.Correct.{ModulePort, port_of, ports_of, program_ports, IsCorrect}
use Rattle.ae_correct.specs.Laws.{CircuitsAreCorrect, IsLaidOut}
use Rattle.ae_correct.proofs.ModuleClock.{clocked}
use Rattle.ae_correct.proofs.Nets.{HavePorts, in_net, out_net, ports_filtered}
use Rattle.ae_correct.proofs.ModulePorts.{from_are}
use Rattle.ae_correct.proofs.Laid.{ins_filling, outs_filling}
use Rattle.ae_correct.proofs.Keeps.{circuit_ports, ins_of, outs_of, keeps}

ports_are : (lines : ℕ → ℕ) → (ins outs : List StTree) (n : Circuit) → HavePorts n.cells n.outlets (ins_of ins) (outs_of outs)
    → ports_of (netlist_module lines n.cells n.outlets (length outs)) ≡ program_ports ins outs
ports_are lines ins outs n have =
    let many : ℕ = length outs in
    let in_ports : List SizedPort = net_side.input_ports (streams_of ins) in
    let clk : ModulePort = record { name = codes "clk"; width = 1; is_output = false } in
    let rst : ModulePort = record { name = codes "rst"; width = 1; is_output = false } in
    ap (map port_of) (ports_filtered lines n.cells n.outlets many (ins_of ins) (outs_of outs) have)
    ∙ ap (λ ps. clk ∷ rst ∷ ps) (map-append port_of (map in_net in_ports) (map (out_net many) (outs_of outs)))
    ∙ (λ i. clk ∷ rst ∷ (map_map port_of in_net in_ports i ++ map_map port_of (out_net many) (outs_of outs) i))
    ∙ (λ i. clk ∷ rst ∷ (from_are 1 false (λ param lane word. In param lane word) 0 ins i
    ++ from_are many true (λ result lane word. Out result lane word) 0 outs i))

-- the module of a netlist with the program's ports that makes its blocks, whatever its costs
pub correct_by : (lines : ℕ → ℕ) (p : ProgramTree) (slowdown latency : ℕ) (ins outs : List StTree) (n : Circuit) → IsLaidOut p slowdown ins outs
    → HavePorts n.cells n.outlets (ins_of ins) (outs_of outs)
    → MakesBlocks n p slowdown latency ins outs → HasSameRuns (netlist_module lines n.cells n.outlets (length outs)) n
    → IsCorrect (netlist_module lines n.cells n.outlets (length outs)) p slowdown latency
correct_by lines p slowdown latency ins outs n laid have making same = record {
  named = refl;
  inputs = ins;
  outputs = outs;
  layouts = laid.layouts;
  ports = ports_are lines ins outs n have;
  clocked = clocked lines n.cells n.outlets (length outs);
  keeps = keeps lines p slowdown latency ins outs n have making same (ins_filling p slowdown ins outs laid) (outs_filling p slowdown ins outs laid);
}

pub correct : CircuitsAreCorrect
correct lines p slowdown costs ins outs n laid c same =
    correct_by lines p slowdown costs.latency ins outs n laid (circuit_ports p slowdown costs ins outs n c) c.makes same
