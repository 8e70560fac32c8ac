use Rattle.std.proofs.Common.{◌≡◌, ◌∙◌, true, false, Bool, if◌then◌else◌, ap, length, sym, subst}
use Rattle.ae_seq.specs.ProgramTree.{program_tree, func_tree}
use Rattle.ae_rewrite.specs.StProgramTree.{st_func_tree, st_func_trees}
use Rattle.ae_rewrite.specs.Sound.{item_layouts}
use Rattle.ae_rewrite.specs.Interface.{main_of}
use Rattle.ae_trace.specs.Traces.{is_movement}
use Rattle.ae_compile.specs.Costing.{AreCosts}
use Rattle.ae_compile.proofs.Noting.{moves_printed, nodes_told, notes_printed, results_told}
use Rattle.ae_compile.proofs.Mains.{main_items, main_items_named, main_named}
use Rattle.ae_compile.proofs.circuits.notes.Goals as goal

pub line_notes-requires-clause-instance : goal.line_notes-requires-clause-instance
line_notes-requires-clause-instance c =
    let k = c.costs.ensures.known in
    main_items (program_tree c.args.costed.now.program) c.args.costed.now.slowdown (st_func_trees c.args.costed.now.schedule)
    (func_tree c.main_func-func.result.now) (st_func_tree c.main_instance-instance.result.now)
    c.main_func-func.ensures.formed k.schedule k.sound c.main_func-func.ensures.last c.main_instance-instance.ensures.last

pub line_notes-requires-clause-marks : goal.line_notes-requires-clause-marks
line_notes-requires-clause-marks c =
    let p = program_tree c.args.costed.now.program in
    let f = func_tree c.main_func-func.result.now in
    let computes : is_movement p ≡ false = (subst (AreCosts p (st_func_trees c.args.costed.now.schedule))
    (sym c.costs.ensures.is ∙ c.in-Plain.is) c.costs.ensures.known.costs_are).0 in
    c.requires f c.main_func-func.ensures.last ∙ ap (λ (b : Bool). if b then length f.results else length f.nodes) computes

pub end_notes-requires-clause-instance : goal.end_notes-requires-clause-instance
end_notes-requires-clause-instance c =
    let k = c.costs.ensures.known in
    main_items (program_tree c.args.costed.now.program) c.args.costed.now.slowdown (st_func_trees c.args.costed.now.schedule)
    (func_tree c.main_func-func.result.now) (st_func_tree c.main_instance-instance.result.now)
    c.main_func-func.ensures.formed k.schedule k.sound c.main_func-func.ensures.last c.main_instance-instance.ensures.last

pub end_notes-requires-clause-marks : goal.end_notes-requires-clause-marks
end_notes-requires-clause-marks c =
    let p = program_tree c.args.costed.now.program in
    let f = func_tree c.main_func-func.result.now in
    let moves : is_movement p ≡ true = (subst (AreCosts p (st_func_trees c.args.costed.now.schedule))
    (sym c.costs.ensures.is ∙ c.in-Fused.is) c.costs.ensures.known.costs_are).movement in
    c.requires f c.main_func-func.ensures.last ∙ ap (λ (b : Bool). if b then length f.results else length f.nodes) moves

pub returns-in-Plain-clause-are : goal.returns-in-Plain-clause-are
returns-in-Plain-clause-are c =
    let p = program_tree c.args.costed.now.program in
    let all = st_func_trees c.args.costed.now.schedule in
    let f = func_tree c.main_func-func.result.now in
    let s = st_func_tree c.main_instance-instance.result.now in
    let computes : is_movement p ≡ false = (subst (AreCosts p all) (sym c.costs.ensures.is ∙ c.in-Plain.is) c.costs.ensures.known.costs_are).0 in
    nodes_told c.line_notes.result p all f s c.args.marks.now computes c.main_func-func.ensures.last c.main_instance-instance.ensures.last c.line_notes.ensures

pub returns-in-Plain-clause-printed : goal.returns-in-Plain-clause-printed
returns-in-Plain-clause-printed c =
    let p = program_tree c.args.costed.now.program in
    let f = func_tree c.main_func-func.result.now in
    notes_printed c.line_notes.result (item_layouts (st_func_tree c.main_instance-instance.result.now)) (length f.params) f.nodes c.args.marks.now
    (main_named p (main_of p) f c.main_func-func.ensures.formed c.main_func-func.ensures.last) c.line_notes.ensures

pub returns-in-Fused-clause-are : goal.returns-in-Fused-clause-are
returns-in-Fused-clause-are c =
    let p = program_tree c.args.costed.now.program in
    let all = st_func_trees c.args.costed.now.schedule in
    let f = func_tree c.main_func-func.result.now in
    let s = st_func_tree c.main_instance-instance.result.now in
    let moves : is_movement p ≡ true = (subst (AreCosts p all) (sym c.costs.ensures.is ∙ c.in-Fused.is) c.costs.ensures.known.costs_are).movement in
    results_told c.end_notes.result p all f s c.args.marks.now moves c.main_func-func.ensures.last c.main_instance-instance.ensures.last c.end_notes.ensures

pub returns-in-Fused-clause-printed : goal.returns-in-Fused-clause-printed
returns-in-Fused-clause-printed c =
    let p = program_tree c.args.costed.now.program in
    let f = func_tree c.main_func-func.result.now in
    moves_printed c.end_notes.result (item_layouts (st_func_tree c.main_instance-instance.result.now)) f c.args.marks.now
    (main_items_named p (main_of p) f c.main_func-func.ensures.formed c.main_func-func.ensures.last) c.end_notes.ensures
