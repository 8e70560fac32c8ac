use Rattle.std.proofs.Common.{length, map}
use Rattle.std.proofs.lemmas.Result.{IfOk-weaker}
use Rattle.ae_netlist.specs.Circuit.{Circuit}
use Rattle.ae_seq.specs.ProgramTree.{program_tree}
use Rattle.ae_rewrite.specs.StProgramTree.{st_func_trees}
use Rattle.ae_runs.specs.SameRuns.{HasSameRuns}
use Rattle.ae_vmodule.specs.ModuleTree.{ModuleTree}
use Rattle.ae_vread.specs.Spells.{Spells}
use Rattle.ae_verilog.specs.Notes.{note_tree, lines_of, noted_module}
use Rattle.ae_verilog.specs.ReportLines.{report_tree}
use Rattle.ae_compile.specs.Playing.{Shows}
use Rattle.ae_compile.proofs.Modules.{HasModule, HaveWriting, module_there}
use Rattle.ae_compile.proofs.Shown.{HavePlays, shows_is}
use Rattle.ae_compile.proofs.playing.play.Goals as goal

pub read_back-requires-clause-formed : goal.read_back-requires-clause-formed
read_back-requires-clause-formed c =
    let d = c.args.compiled.now in
    let report = report_tree d.report in
    let writing : HaveWriting = record {
      writable = c.circuits_are_writable.ensures;
      runs = c.module_keeps.ensures.runs;
      formed = c.module_keeps.ensures.formed;
    } in
    let has : HasModule d.netlist (map note_tree d.notes) (length report.outs) = module_there (program_tree d.costed.program) d.costed.slowdown
    (st_func_trees d.costed.schedule) d.costed.costs d.netlist report
    (map note_tree d.notes) writing c.netlist-netlist.ensures.known.costed c.netlist-netlist.ensures.known.compiled in
    (noted_module (map note_tree d.notes) d.netlist.cells d.netlist.outlets (length report.outs), c.requires.spells, has.formed)

pub returns : goal.returns
returns c =
    let d = c.args.compiled.now in
    let p = program_tree d.costed.program in
    let all = st_func_trees d.costed.schedule in
    let report = report_tree d.report in
    let notes = map note_tree d.notes in
    let writing : HaveWriting = record {
      writable = c.circuits_are_writable.ensures;
      runs = c.module_keeps.ensures.runs;
      formed = c.module_keeps.ensures.formed;
    } in
    let k = c.netlist-netlist.ensures.known.costed in
    let e = c.netlist-netlist.ensures.known.compiled in
    let has : HasModule d.netlist (map note_tree d.notes)
    (length report.outs) = module_there p d.costed.slowdown all d.costed.costs d.netlist report notes writing k e in
    let laws : HavePlays d.netlist c.args.fill = record {
      shown = c.runs_are_shown.ensures;
      feeds = c.runs_are_alike.ensures.feeds;
      alike = c.runs_are_alike.ensures.runs;
      fed = c.can_be_fed.ensures;
      one = rw c.netlist-netlist.ensures.is at c.has_one_run_with.ensures;
      begins = rw c.netlist-netlist.ensures.is at c.fill_begins.ensures;
    } in
    let own : ModuleTree = noted_module (map note_tree d.notes) d.netlist.cells d.netlist.outlets (length report.outs) in
    IfOk-weaker c.read_back.result (λ (o : Circuit). (m : ModuleTree) → Spells c.args.text.now m → HasSameRuns m o)
    (λ (o : Circuit). Shows p d.costed.slowdown report.latency c.args.fill report.ins report.outs own o)
    (λ o back. shows_is (lines_of notes (length d.netlist.cells)) p d.costed.slowdown c.args.fill all d.costed.costs d.netlist report notes o laws k e has.same
    (back own c.requires.spells)) c.read_back.ensures
