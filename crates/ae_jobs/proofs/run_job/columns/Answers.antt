use Rattle.std.proofs.Common.{◌∙◌}
use Rattle.ae_sttype.specs.StTree.{st_tree}
use Rattle.ae_jobs.proofs.Columns.{columns_are}
use Rattle.ae_jobs.proofs.run_job.columns.Goals as goal

pub returns-clause-is : goal.returns-clause-is
returns-clause-is c =
    (columns_are c.from.result c.from-2.result (st_tree c.args.layout.now) c.requires (c.from.ensures ∙ c.lanes.ensures)
    (c.from-2.ensures ∙ c.element_words.ensures)).0

pub returns-clause-few : goal.returns-clause-few
returns-clause-few c =
    (columns_are c.from.result c.from-2.result (st_tree c.args.layout.now) c.requires (c.from.ensures ∙ c.lanes.ensures)
    (c.from-2.ensures ∙ c.element_words.ensures)).1
