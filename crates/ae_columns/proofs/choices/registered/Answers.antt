use Rattle.std.proofs.Common.{◌≤◌, arith}
use Rattle.ae_gates.proofs.Adding.{adds_most}
use Rattle.ae_columns.proofs.Registered.{delayed_columns}
use Rattle.ae_columns.proofs.choices.registered.Goals as goal

pub returns-in_ok-y-in-Delayed-clause-column : goal.returns-in_ok-y-in-Delayed-clause-column
returns-in_ok-y-in-Delayed-clause-column c =
    rw c.in-Delayed.is (delayed_columns _ _ c.args.clocks.now.rst _ _ _ _ _ _ c.in_ok-y-in-Delayed.ensures.adds.grows.extends c.in_ok-y-in-Delayed.ensures.net
    c.in_ok-y-in-Delayed.ensures.words)

pub returns-in-Constant-clause-column : goal.returns-in-Constant-clause-column
returns-in-Constant-clause-column c = rw c.in-Constant.is c.set_in_reset.ensures.column

register_room : 1 ≤ 3
register_room = omega arith

pub returns-in_ok-y-in-Delayed-clause-adds : goal.returns-in_ok-y-in-Delayed-clause-adds
returns-in_ok-y-in-Delayed-clause-adds c = adds_most 3 register_room c.in_ok-y-in-Delayed.ensures.adds
