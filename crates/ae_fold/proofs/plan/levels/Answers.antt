use Rattle.std.proofs.Common.{◌≤◌, ◌^◌, arith, sym}
use Rattle.ae_fold.proofs.LogUp.{log_up_is}
use Rattle.ae_fold.proofs.plan.levels.Goals as goal

pub returns-then-lanes-level-clause-is : goal.returns-then-lanes-level-clause-is
returns-then-lanes-level-clause-is c =
    let enough : c.args.lanes ≤ 2 ^ c.loop-level.level = omega arith in
    sym (log_up_is c.args.lanes c.loop-level.level c.requires.low enough c.loop-level.invariant)

pub returns-clause-is : goal.returns-clause-is
returns-clause-is c = sym (log_up_is c.args.lanes 12 c.requires.low (omega arith) (λ k below. c.loop-level.invariant k (omega arith)))

pub returns-clause-least : goal.returns-clause-least
returns-clause-least c = λ k below. c.loop-level.invariant k (omega arith)
