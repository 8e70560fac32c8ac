use Rattle.std.proofs.Common.{◌≡◌, ◌+◌, ◌*◌, ◌≤◌, ◌∙◌, ℕ, length, map, ap, sym, subst}
use Rattle.ae_seq.specs.ProgramTree.{program_tree}
use Rattle.ae_rewrite.specs.StProgramTree.{st_func_trees}
use Rattle.ae_vmodule.specs.ModuleTree.{ModuleTree, NetTree}
use Rattle.ae_verilog.specs.Notes.{lines_of, note_tree, noted_module}
use Rattle.ae_verilog.specs.PortNets.{port_nets}
use Rattle.ae_verilog.specs.ReportLines.{report_tree}
use Rattle.ae_vcd.specs.Waves.{IsFormedWave}
use Rattle.ae_jobs.specs.RunTexts.{run_limit}
use Rattle.ae_jobs.specs.WaveTexts.{variables_of}
use Rattle.ae_jobs.proofs.WaveForms.{wave_formed}
use Rattle.ae_jobs.proofs.WaveShown.{counted}
use Rattle.ae_jobs.proofs.wave_text.run_wave.Goals as goal

abbrev tree_is : goal.returns-clause-wave
tree_is c =
    let d = c.args.compiled.now in
    let many : ℕ = length (report_tree d.report).outs in
    let own : ModuleTree = noted_module (map note_tree d.notes) d.netlist.cells d.netlist.outlets many in
    let nets : port_nets d.netlist.cells d.netlist.outlets many ≡ variables_of own = sym c.in_ok-ports.ensures.own in
    let names = c.in_ok-ports.ensures.nets.names ∙ ap (map (λ (x : NetTree). x.name)) nets in
    let widths = c.in_ok-ports.ensures.nets.widths ∙ ap (map (λ (x : NetTree). x.width)) nets in
    λ i. record { names = names i; widths = widths i; times = c.in_ok-times.ensures i; words = c.args.words.items }

pub returns-clause-wave : goal.returns-clause-wave
returns-clause-wave = tree_is

pub returns-clause-formed : goal.returns-clause-formed
returns-clause-formed c =
    let d = c.args.compiled.now in
    let p = program_tree d.costed.program in
    let report = report_tree d.report in
    let notes = map note_tree d.notes in
    let many : ℕ = length report.outs in
    let own : ModuleTree = noted_module notes d.netlist.cells d.netlist.outlets many in
    let w = c.requires.words in
    let k = counted p d.costed.slowdown (st_func_trees d.costed.schedule) d.netlist report notes c.in_ok-ports.ensures.known.compiled in
    let small : c.args.clocks * (1 + length (variables_of own)) ≤ run_limit = subst (λ n. c.args.clocks * (1 + n) ≤ run_limit) (sym k.all) c.requires.small in
    subst IsFormedWave (sym (tree_is c))
    (wave_formed (lines_of notes (length d.netlist.cells)) d.netlist many c.in_ok-ports.ensures.writable c.in_ok-ports.ensures.own w.run w.runs c.args.clocks
    c.args.words.items w.long w.are k.some k.few small)
