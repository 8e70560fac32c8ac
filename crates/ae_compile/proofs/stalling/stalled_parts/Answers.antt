use Rattle.std.proofs.Common.{◌∙◌, ap, length, map, slice_get, arith, sym}
use Rattle.std.proofs.lemmas.List.{length-map}
use Rattle.ae_seq.specs.ProgramTree.{program_tree}
use Rattle.ae_rewrite.specs.StProgramTree.{st_func_trees}
use Rattle.ae_rewrite.specs.Sound.{item_layouts}
use Rattle.ae_stall.specs.Images.{renumbered}
use Rattle.ae_compile.specs.LineNotes.{told_notes}
use Rattle.ae_verilog.specs.Notes.{note_tree}
use Rattle.ae_verilog.specs.ReportLines.{report_tree}
use Rattle.ae_compile.proofs.Enabling.{can_be_stalled, stalled_made}
use Rattle.ae_compile.proofs.Mains.{parts_of}
use Rattle.ae_compile.proofs.stalling.stalled_parts.Goals as goal

pub stall-requires-clause-reset : goal.stall-requires-clause-reset
stall-requires-clause-reset c =
    (can_be_stalled (program_tree c.args.costed.now.program) c.args.costed.now.slowdown
    (st_func_trees c.args.costed.now.schedule) c.args.costed.now.costs c.in_ok-lowered.lowered.netlist c.in_ok-report.ensures.known c.requires
    c.in_ok-lowered.ensures.circuit).reset

pub stall-requires-clause-most : goal.stall-requires-clause-most
stall-requires-clause-most c =
    (can_be_stalled (program_tree c.args.costed.now.program) c.args.costed.now.slowdown
    (st_func_trees c.args.costed.now.schedule) c.args.costed.now.costs c.in_ok-lowered.lowered.netlist c.in_ok-report.ensures.known c.requires
    c.in_ok-lowered.ensures.circuit).most

pub moved_marks-requires : goal.moved_marks-requires
moved_marks-requires c = λ i m e.
    let parts = parts_of (program_tree c.args.costed.now.program) c.args.costed.now.slowdown
    (st_func_trees c.args.costed.now.schedule) c.in_ok-report.ensures.known.schedule in
    let within = (c.in_ok-lowered.ensures.marks parts.func parts.there).within i m (ap (λ ms. slice_get ms i) (sym c.deref.ensures.value) ∙ e) in
    omega (
      arith,
      within,
      (can_be_stalled (program_tree c.args.costed.now.program) c.args.costed.now.slowdown
          (st_func_trees c.args.costed.now.schedule) c.args.costed.now.costs c.in_ok-lowered.lowered.netlist c.in_ok-report.ensures.known c.requires
          c.in_ok-lowered.ensures.circuit).most,
    )

pub notes-requires : goal.notes-requires
notes-requires c f main =
    ap length (c.deref-2.ensures.value ∙ (c.in_ok-marks.ensures ∙ ap (map renumbered) c.deref.ensures.value)) ∙
    (length-map c.in_ok-lowered.lowered.marks.items renumbered ∙ (c.in_ok-lowered.ensures.marks f main).long)

pub returns : goal.returns
returns c = record {
  costed = c.in_ok-report.ensures.known;
  light = c.requires;
  compiled = stalled_made (program_tree c.args.costed.now.program) c.args.costed.now.slowdown
      (st_func_trees c.args.costed.now.schedule) c.args.costed.now.costs c.in_ok-lowered.lowered.netlist c.in_ok-netlist.netlist
      c.in_ok-lowered.lowered.marks.items
      (report_tree c.in_ok-report.report) (map note_tree c.in_ok-notes.notes.items) c.in_ok-report.ensures.known
      (record {
        reports = c.in_ok-report.ensures.told;
        circuit = c.in_ok-lowered.ensures.circuit;
        stalled = c.in_ok-netlist.ensures;
        own = c.in_ok-lowered.ensures.nodes;
        places = c.in_ok-lowered.ensures.marks;
        notes_are = λ s f last main. c.in_ok-notes.ensures.are s f last main ∙
            ap (told_notes (program_tree c.args.costed.now.program) f (item_layouts s))
            (c.deref-2.ensures.value ∙ (c.in_ok-marks.ensures ∙ ap (map renumbered) c.deref.ensures.value));
        printed = c.in_ok-notes.ensures.printed;
      });
}
