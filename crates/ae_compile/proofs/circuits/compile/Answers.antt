use Rattle.std.proofs.Common.{◌∙◌, ap, length, map}
use Rattle.ae_seq.specs.ProgramTree.{program_tree}
use Rattle.ae_rewrite.specs.StProgramTree.{st_func_trees}
use Rattle.ae_rewrite.specs.Sound.{item_layouts}
use Rattle.ae_compile.specs.LineNotes.{told_notes}
use Rattle.ae_verilog.specs.Notes.{note_tree}
use Rattle.ae_verilog.specs.ReportLines.{report_tree}
use Rattle.ae_compile.proofs.Assembled.{compiled_is}
use Rattle.ae_compile.proofs.circuits.compile.Goals as goal

pub notes-requires : goal.notes-requires
notes-requires c f main = ap length c.deref.ensures.value ∙ (c.in_ok-lowered.ensures.marks f main).long

pub returns-clause-compiled : goal.returns-clause-compiled
returns-clause-compiled c = record {
  costed = c.in_ok-report.ensures.known;
  compiled = compiled_is (program_tree c.args.costed.program) c.args.costed.slowdown
      (st_func_trees c.args.costed.schedule) c.args.costed.costs c.in_ok-lowered.lowered.netlist c.in_ok-lowered.lowered.marks.items
      (report_tree c.in_ok-report.report) (map note_tree c.in_ok-notes.notes.items) c.in_ok-report.ensures.known
      (record {
        reports = c.in_ok-report.ensures.told;
        circuit = c.in_ok-lowered.ensures.circuit;
        places = c.in_ok-lowered.ensures.marks;
        own = c.in_ok-lowered.ensures.nodes;
        notes_are = λ s f last main. c.in_ok-notes.ensures.are s f last main ∙
            ap (told_notes (program_tree c.args.costed.program) f (item_layouts s)) c.deref.ensures.value;
        printed = c.in_ok-notes.ensures.printed;
      });
  sections = c.in_ok-lowered.ensures.sections;
}

pub invariant_of-result : goal.invariant_of-result
invariant_of-result c = record {
  costed = c.in_ok-report.ensures.known;
  compiled = compiled_is (program_tree c.args.costed.program) c.args.costed.slowdown
      (st_func_trees c.args.costed.schedule) c.args.costed.costs c.in_ok-lowered.lowered.netlist c.in_ok-lowered.lowered.marks.items
      (report_tree c.in_ok-report.report) (map note_tree c.in_ok-notes.notes.items) c.in_ok-report.ensures.known
      (record {
        reports = c.in_ok-report.ensures.told;
        circuit = c.in_ok-lowered.ensures.circuit;
        places = c.in_ok-lowered.ensures.marks;
        own = c.in_ok-lowered.ensures.nodes;
        notes_are = λ s f last main. c.in_ok-notes.ensures.are s f last main ∙
            ap (told_notes (program_tree c.args.costed.program) f (item_layouts s)) c.deref.ensures.value;
        printed = c.in_ok-notes.ensures.printed;
      });
  sections = c.in_ok-lowered.ensures.sections;
}
