-- The circuit of the moves is one for the program, as that of the schedule is.
use Rattle.std.proofs.Common.{◌≤◌, ◌∙◌, length, sym, subst}
use Rattle.ae_seq.specs.ProgramTree.{program_tree}
use Rattle.ae_rewrite.specs.StProgramTree.{st_func_trees}
use Rattle.ae_delay.specs.declared.own.OwnCosts.{OwnCosts}
use Rattle.ae_compile.specs.Costing.{AreCosts}
use Rattle.ae_compile.proofs.Large.{moved_main}
use Rattle.ae_compile.proofs.Made.{moved_made, moved_own, moved_placed, moved_sections}
use Rattle.ae_compile.proofs.circuits.circuit.Goals as goal

pub plain_circuit-requires-clause-computes : goal.plain_circuit-requires-clause-computes
plain_circuit-requires-clause-computes c =
    (subst (AreCosts (program_tree c.args.costed.now.program) (st_func_trees c.args.costed.now.schedule))
    (sym c.costs.ensures.is ∙ c.in-Plain.is) c.costs.ensures.known.costs_are).0

pub plain_circuit-requires-clause-times : goal.plain_circuit-requires-clause-times
plain_circuit-requires-clause-times c =
    (subst (AreCosts (program_tree c.args.costed.now.program) (st_func_trees c.args.costed.now.schedule))
    (sym c.costs.ensures.is ∙ c.in-Plain.is) c.costs.ensures.known.costs_are).1

pub lower-requires : goal.lower-requires
lower-requires c =
    let p = program_tree c.args.costed.now.program in
    let all = st_func_trees c.args.costed.now.schedule in
    let are = subst (AreCosts p all) (sym c.costs.ensures.is ∙ c.in-Fused.is) c.costs.ensures.known.costs_are in
    record { light = subst (λ (k : OwnCosts). k.load ≤ 100000) (moved_main p all c.in-Fused.moves are) c.costs.ensures.known.light }

pub returns-in_ok-lowered-in-Fused-clause-circuit : goal.returns-in_ok-lowered-in-Fused-clause-circuit
returns-in_ok-lowered-in-Fused-clause-circuit c =
    let p = program_tree c.args.costed.now.program in
    let all = st_func_trees c.args.costed.now.schedule in
    let are = subst (AreCosts p all) (sym c.costs.ensures.is ∙ c.in-Fused.is) c.costs.ensures.known.costs_are in
    moved_made p c.args.costed.now.slowdown all c.args.costed.now.costs c.in-Fused.moves c.in_ok-lowered-in-Fused.lowered.netlist c.costs.ensures.known are
    c.in_ok-lowered-in-Fused.ensures.circuit

pub returns-in_ok-lowered-in-Fused-clause-marks : goal.returns-in_ok-lowered-in-Fused-clause-marks
returns-in_ok-lowered-in-Fused-clause-marks c =
    let p = program_tree c.args.costed.now.program in
    let all = st_func_trees c.args.costed.now.schedule in
    let are = subst (AreCosts p all) (sym c.costs.ensures.is ∙ c.in-Fused.is) c.costs.ensures.known.costs_are in
    moved_placed p all c.in-Fused.moves c.in_ok-lowered-in-Fused.lowered.netlist.cells c.in_ok-lowered-in-Fused.lowered.marks.items are
    c.in_ok-lowered-in-Fused.ensures.marks

pub returns-in_ok-lowered-in-Fused-clause-nodes : goal.returns-in_ok-lowered-in-Fused-clause-nodes
returns-in_ok-lowered-in-Fused-clause-nodes c =
    let p = program_tree c.args.costed.now.program in
    let all = st_func_trees c.args.costed.now.schedule in
    let are = subst (AreCosts p all) (sym c.costs.ensures.is ∙ c.in-Fused.is) c.costs.ensures.known.costs_are in
    moved_own p all c.in-Fused.moves c.in_ok-lowered-in-Fused.lowered.netlist.cells c.in_ok-lowered-in-Fused.lowered.marks.items are

pub returns-in_ok-lowered-in-Fused-clause-sections : goal.returns-in_ok-lowered-in-Fused-clause-sections
returns-in_ok-lowered-in-Fused-clause-sections c =
    let p = program_tree c.args.costed.now.program in
    let all = st_func_trees c.args.costed.now.schedule in
    let are = subst (AreCosts p all) (sym c.costs.ensures.is ∙ c.in-Fused.is) c.costs.ensures.known.costs_are in
    moved_sections p all c.in-Fused.moves (length c.in_ok-lowered-in-Fused.lowered.netlist.cells) c.in_ok-lowered-in-Fused.lowered.sections.items are
    c.in_ok-lowered-in-Fused.ensures.sections
