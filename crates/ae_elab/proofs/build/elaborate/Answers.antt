use Rattle.ae_vmodule.specs.View.{module_tree}
use Rattle.ae_elab.proofs.build.elaborate.Goals as goal

pub judge-requires-clause-shape : goal.judge-requires-clause-shape
judge-requires-clause-shape c = let s = c.requires.spelled in c.spelled_shape.ensures s.0 (module_tree c.args.m.now) s.1 s.2

pub ordered-requires-clause-shape : goal.ordered-requires-clause-shape
ordered-requires-clause-shape c = let s = c.requires.spelled in c.spelled_shape.ensures s.0 (module_tree c.args.m.now) s.1 s.2

pub returns-clause-runs : goal.returns-clause-runs
returns-clause-runs c =
    let at = c.in_ok-nl.ensures.realizes in
    c.same_runs.ensures (module_tree c.args.m.now) c.in_ok-nl.nl at.0 c.in_ok-nl.ensures.well_formed c.has_one_run.ensures at.1
