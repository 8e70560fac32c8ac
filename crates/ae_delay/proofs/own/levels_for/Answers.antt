use Rattle.std.proofs.Common.{sym, arith}
use Rattle.ae_delay.proofs.Owned.{leaves_double, log_found, log_last, log_next, log_start}
use Rattle.ae_delay.proofs.own.levels_for.Goals as goal

pub loop-count-init : goal.loop-count-init
loop-count-init c = record { leaves = omega arith; small = omega arith; levels = log_start c.args.lanes }

pub loop-count-preserved : goal.loop-count-preserved
loop-count-preserved c =
    let d = leaves_double c.loop-count.count c.loop-count.leaves c.loop-count.invariant.leaves c.loop-count-test.true in
    record {
      leaves = d.0;
      small = d.1;
      levels = log_next c.args.lanes c.loop-count.count c.loop-count.leaves c.loop-count.invariant.levels c.loop-count.invariant.leaves
          (omega arith) c.loop-count-test.true;
    }

pub returns-then-from-leaves-clause-count : goal.returns-then-from-leaves-clause-count
returns-then-from-leaves-clause-count c =
    sym (log_found c.args.lanes c.loop-count.count c.loop-count.leaves c.loop-count.invariant.levels c.loop-count.invariant.leaves (omega arith) (omega arith))

pub returns-clause-count : goal.returns-clause-count
returns-clause-count c =
    log_last c.args.lanes c.loop-count.count c.loop-count.leaves c.loop-count.invariant.levels c.loop-count.invariant.leaves c.requires c.loop-count-test.false
    c.loop-count.auto.count-end
