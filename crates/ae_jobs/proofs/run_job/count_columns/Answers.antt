use Rattle.ae_jobs.proofs.Columns.{counted_next, sized_at}
use Rattle.ae_jobs.proofs.run_job.count_columns.Goals as goal

pub columns-count-requires : goal.columns-count-requires
columns-count-requires c = sized_at c.args.layouts.now c.loop-layout.layout-index c.layout-item.result c.requires.sized c.loop-layout-test.true c.layout-item.is

pub loop-layout-preserved : goal.loop-layout-preserved
loop-layout-preserved c =
    counted_next c.args.layouts.now c.loop-layout.layout-index c.loop-layout.count c.columns-count.result c.layout-item.result c.loop-layout-test.true
    c.layout-item.is
    c.columns-count.ensures.is c.columns-count.ensures.few c.loop-layout.invariant.0 c.loop-layout.invariant.1
