use Rattle.std.proofs.Common.{◌∙◌}
use Rattle.ae_seq.specs.ProgramTree.{program_tree}
use Rattle.ae_rewrite.specs.StProgramTree.{st_func_tree, st_func_trees}
use Rattle.ae_lower.specs.Circuits.{last_of}
use Rattle.ae_compile.proofs.Modules.{small_results}
use Rattle.ae_jobs.proofs.Columns.{few_layouts, main_is, results_counted}
use Rattle.ae_jobs.proofs.run_job.output_count.Goals as goal

pub count_results-requires-clause-below : goal.count_results-requires-clause-below
count_results-requires-clause-below c =
    (c.main_instance.ensures.known.sound.each (last_of (st_func_trees c.args.costed.now.schedule))
    (st_func_tree c.main_instance.result.now) c.main_instance.ensures.last).results

pub count_results-requires-clause-sized : goal.count_results-requires-clause-sized
count_results-requires-clause-sized c =
    small_results (st_func_trees c.args.costed.now.schedule)
    (st_func_tree c.main_instance.result.now) c.main_instance.ensures.known.sound c.main_instance.ensures.last

pub count_results-requires-clause-few : goal.count_results-requires-clause-few
count_results-requires-clause-few c =
    let all = st_func_trees c.args.costed.now.schedule in
    let s = st_func_tree c.main_instance.result.now in
    few_layouts all s (c.main_instance.ensures.known.sound.each (last_of all) s c.main_instance.ensures.last)

pub returns-clause-is : goal.returns-clause-is
returns-clause-is c =
    let p = program_tree c.args.costed.now.program in
    let all = st_func_trees c.args.costed.now.schedule in
    let s = st_func_tree c.main_instance.result.now in
    c.count_results.ensures.is
    ∙ results_counted p c.args.costed.now.slowdown all s c.main_instance.ensures.known.typed
    (main_is p c.args.costed.now.slowdown all s c.main_instance.ensures.known.schedule c.main_instance.ensures.known.sound c.main_instance.ensures.last)
