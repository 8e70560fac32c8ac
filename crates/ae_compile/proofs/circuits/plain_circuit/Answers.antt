-- The circuit of a schedule is one for the program.
use Rattle.ae_seq.specs.ProgramTree.{program_tree}
use Rattle.ae_rewrite.specs.StProgramTree.{st_func_trees}
use Rattle.ae_compile.proofs.Made.{plain_made, plain_placed}
use Rattle.ae_compile.proofs.circuits.plain_circuit.Goals as goal

pub lower-requires-clause-fitted : goal.lower-requires-clause-fitted
lower-requires-clause-fitted c =
    let k = c.schedule-schedule.ensures.known in
    rw c.schedule-schedule.ensures.is (c.schedules_fit.ensures (program_tree c.args.costed.now.program) c.args.costed.now.slowdown
    (st_func_trees c.args.costed.now.schedule) k.typed k.some k.schedule)

pub returns-clause-circuit : goal.returns-clause-circuit
returns-clause-circuit c =
    let p = program_tree c.args.costed.now.program in
    let all = st_func_trees c.args.costed.now.schedule in
    let n = c.in_ok-lowered.lowered.netlist in
    plain_made p c.args.costed.now.slowdown all c.args.costed.now.costs n c.circuits_are_for.ensures c.schedule-schedule.ensures.known c.requires.computes
    (rw c.schedule-schedule.ensures.is at c.in_ok-lowered.ensures.circuit) c.in_ok-lowered.ensures.lean

pub returns-clause-marks : goal.returns-clause-marks
returns-clause-marks c =
    let p = program_tree c.args.costed.now.program in
    let all = st_func_trees c.args.costed.now.schedule in
    plain_placed p c.args.costed.now.slowdown all c.args.costed.now.costs c.in_ok-lowered.lowered.netlist.cells c.in_ok-lowered.lowered.marks.items
    c.schedule-schedule.ensures.known c.requires.computes
    (rw c.schedule-schedule.ensures.is at c.in_ok-lowered.ensures.marks)

pub returns-clause-nodes : goal.returns-clause-nodes
returns-clause-nodes c = λ computes. rw c.schedule-schedule.ensures.is at c.in_ok-lowered.ensures.nodes

pub returns-clause-sections : goal.returns-clause-sections
returns-clause-sections c =
    record { are = c.in_ok-lowered.ensures.sections; covered = λ computes. rw c.schedule-schedule.ensures.is at c.in_ok-lowered.ensures.covered }
