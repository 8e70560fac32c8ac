use Rattle.std.proofs.Common.{map}
use Rattle.std.specs.Prelude.{string_bytes}
use Rattle.ae_seq.specs.ProgramTree.{program_tree}
use Rattle.ae_rewrite.specs.StProgramTree.{st_func_trees}
use Rattle.ae_verilog.specs.Notes.{note_tree}
use Rattle.ae_verilog.specs.ReportLines.{report_tree}
use Rattle.ae_compile.proofs.Modules.{HaveLaws, module_is}
use Rattle.ae_compile.proofs.Short.{compiled_short}
use Rattle.ae_compile.proofs.texts.module_text.Goals as goal

pub written-requires : goal.written-requires
written-requires c =
    let d = c.args.compiled.now in
    rw (c.netlist-netlist.ensures.is, c.report.ensures.is, c.notes.ensures)
    record {
      printed = c.netlist-netlist.ensures.known.compiled.printed;
      short = compiled_short (program_tree d.costed.program) d.costed.slowdown (st_func_trees d.costed.schedule) d.costed.costs d.netlist
          (report_tree d.report) (map note_tree d.notes) c.netlist-netlist.ensures.known.costed c.netlist-netlist.ensures.known.compiled;
    }

pub returns-clause-spells : goal.returns-clause-spells
returns-clause-spells c = (rw (c.netlist-netlist.ensures.is, c.report.ensures.is, c.notes.ensures) at c.in_ok-text.ensures).spells

pub returns-clause-short : goal.returns-clause-short
returns-clause-short c = c.in_ok-text.ensures.few

pub returns-clause-text : goal.returns-clause-text
returns-clause-text c =
    let d = c.args.compiled.now in
    let laws : HaveLaws = record {
      writing = record { writable = c.circuits_are_writable.ensures; runs = c.module_keeps.ensures.runs; formed = c.module_keeps.ensures.formed };
      correct = c.circuits_are_correct.ensures;
      light = c.module_keeps.ensures.light;
      once = c.one_run.ensures.once;
      spelled = c.spelled_once.ensures;
    } in
    module_is (program_tree d.costed.program) d.costed.slowdown (st_func_trees d.costed.schedule) d.costed.costs d.netlist (report_tree d.report)
    (map note_tree d.notes) (string_bytes c.in_ok-text.text) laws
    c.netlist-netlist.ensures.known.costed c.netlist-netlist.ensures.known.compiled
    (rw (c.netlist-netlist.ensures.is, c.report.ensures.is, c.notes.ensures) at c.in_ok-text.ensures)
