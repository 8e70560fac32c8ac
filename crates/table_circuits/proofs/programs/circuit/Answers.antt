-- A schedule of a typed program fits.
use Rattle.ae_seq.specs.ProgramTree.{program_tree}
use Rattle.ae_rewrite.specs.StProgramTree.{st_func_trees}
use Rattle.table_circuits.proofs.programs.circuit.Goals as goal

pub lowered-requires : goal.lowered-requires
lowered-requires c =
    c.schedules_fit.ensures (program_tree c.args.typed.now) c.args.slowdown (st_func_trees c.in-Ok.s) c.requires c.limits.ensures.0
    c.in-Ok.ensures.schedule
