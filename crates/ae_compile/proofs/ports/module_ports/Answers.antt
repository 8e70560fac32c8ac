use Rattle.std.proofs.Common.{◌≡◌, ◌∙◌, ℕ, ap, length, map, sym, subst}
use Rattle.std.proofs.lemmas.List.{length-map}
use Rattle.std.proofs.lemmas.Result.{IfOk-weaker}
use Rattle.ae_seq.specs.ProgramTree.{program_tree}
use Rattle.ae_sttype.specs.StTree.{st_tree}
use Rattle.ae_rewrite.specs.StProgramTree.{st_func_trees}
use Rattle.ae_verilog.specs.Notes.{lines_of, note_tree}
use Rattle.ae_verilog.specs.PortNets.{HasNets, port_nets}
use Rattle.ae_verilog.specs.ReportLines.{report_tree}
use Rattle.ae_verilog.specs.declared.interface.PortList.{PortList}
use Rattle.ae_verilog.specs.declared.report.Report.{Report}
use Rattle.ae_compile.specs.Costing.{main_costs}
use Rattle.ae_compile.proofs.ports.module_ports.Goals as goal

pub returns-clause-nets : goal.returns-clause-nets
returns-clause-nets c =
    let d = c.args.compiled.now in
    let many : length c.as_slice.result.now ≡ length (report_tree d.report).outs = ap length
    (c.as_slice.ensures.value ∙ ap (λ (r : Report). r.outs.items) c.report-told.ensures.is) ∙ sym (length-map d.report.outs.items st_tree) in
    IfOk-weaker c.ports_of.result (λ (x : PortList). HasNets (port_nets d.netlist.cells d.netlist.outlets (length c.as_slice.result.now)) x)
    (λ (x : PortList). HasNets (port_nets d.netlist.cells d.netlist.outlets (length (report_tree d.report).outs)) x)
    (λ x h. subst (λ (k : ℕ). HasNets (port_nets d.netlist.cells d.netlist.outlets k) x) many h) (rw c.netlist-netlist.ensures.is at c.ports_of.ensures)

pub returns-clause-writable : goal.returns-clause-writable
returns-clause-writable c =
    let d = c.args.compiled.now in
    let report = report_tree d.report in
    let e = c.netlist-netlist.ensures.known.compiled in
    c.circuits_are_writable.ensures (program_tree d.costed.program) d.costed.slowdown
    (main_costs (program_tree d.costed.program) (st_func_trees d.costed.schedule)) report.ins report.outs d.netlist e.laid
    c.netlist-netlist.ensures.known.costed.light e.circuit

pub returns-clause-own : goal.returns-clause-own
returns-clause-own c =
    let d = c.args.compiled.now in
    let report = report_tree d.report in
    let e = c.netlist-netlist.ensures.known.compiled in
    c.module_keeps.ensures.ports (lines_of (map note_tree d.notes) (length d.netlist.cells)) d.netlist (length report.outs)
    (c.circuits_are_writable.ensures (program_tree d.costed.program) d.costed.slowdown
    (main_costs (program_tree d.costed.program) (st_func_trees d.costed.schedule)) report.ins report.outs d.netlist e.laid
    c.netlist-netlist.ensures.known.costed.light e.circuit)
