-- Two registers, and what they take.
use Rattle.std.proofs.Common.{arith}
use Rattle.ae_control.proofs.Queueing.{column_fits, column_is, column_long, column_longer, longer_one, next_net3, next_net4, register3, register4}
use Rattle.ae_control.proofs.queues.column.Goals as goal

pub choices-requires-clause-choices : goal.choices-requires-clause-choices
choices-requires-clause-choices c =
    column_fits c.args.nl.now c.push_register.new.self c.push_register-2.new.self c.args.c c.args.made c.width_at-width.result c.len-at.result c.len-at.ensures
    c.in_ok-push_register.ensures.added c.in_ok-push_register-2.ensures.added c.requires.two c.requires.moves
    (rw c.width_at-width.ensures c.requires.net)

pub connect-requires-clause-register : goal.connect-requires-clause-register
connect-requires-clause-register c =
    register3 c.args.nl.now c.push_register.new.self c.push_register-2.new.self c.args.c c.args.made c.width_at-width.result c.len-at.result c.len-at.ensures
    c.in_ok-push_register.ensures.added c.in_ok-push_register-2.ensures.added c.choices.new.nl c.in_ok-choices.ensures

pub connect-requires-clause-next : goal.connect-requires-clause-next
connect-requires-clause-next c =
    next_net3 c.args.nl.now c.push_register.new.self c.push_register-2.new.self c.args.c c.args.made c.width_at-width.result c.len-at.result c.len-at.ensures
    c.in_ok-push_register.ensures.added c.in_ok-push_register-2.ensures.added c.choices.new.nl c.in_ok-choices.ensures

pub connect-requires-2-clause-register : goal.connect-requires-2-clause-register
connect-requires-2-clause-register c =
    register4 c.args.nl.now c.push_register.new.self c.push_register-2.new.self c.args.c c.args.made c.width_at-width.result c.len-at.result c.len-at.ensures
    c.in_ok-push_register.ensures.added c.in_ok-push_register-2.ensures.added c.choices.new.nl c.in_ok-choices.ensures c.connect.new.self c.connect.ensures

pub connect-requires-2-clause-next : goal.connect-requires-2-clause-next
connect-requires-2-clause-next c =
    next_net4 c.args.nl.now c.push_register.new.self c.push_register-2.new.self c.args.c c.args.made c.width_at-width.result c.len-at.result c.len-at.ensures
    c.in_ok-push_register.ensures.added c.in_ok-push_register-2.ensures.added c.choices.new.nl c.in_ok-choices.ensures c.connect.new.self c.connect.ensures

pub returns-clause-longer : goal.returns-clause-longer
returns-clause-longer c =
    column_longer c.args.nl.now c.push_register.new.self c.push_register-2.new.self c.args.c c.args.made c.width_at-width.result c.len-at.result
    c.len-at.ensures
    c.in_ok-push_register.ensures.added c.in_ok-push_register-2.ensures.added c.choices.new.nl c.in_ok-choices.ensures c.connect.new.self c.connect.ensures
    c.connect-2.new.self c.connect-2.ensures

pub returns-clause-long : goal.returns-clause-long
returns-clause-long c =
    rw c.len-at.ensures at (column_long c.args.nl.now c.push_register.new.self c.push_register-2.new.self c.args.c c.args.made c.width_at-width.result
    c.len-at.result
    c.len-at.ensures c.in_ok-push_register.ensures.added c.in_ok-push_register-2.ensures.added c.choices.new.nl c.in_ok-choices.ensures c.connect.new.self
    c.connect.ensures c.connect-2.new.self c.connect-2.ensures)

pub returns-clause-column : goal.returns-clause-column
returns-clause-column c =
    rw c.len-at.ensures at (column_is c.args.nl.now c.push_register.new.self c.push_register-2.new.self c.args.c c.args.made c.width_at-width.result
    c.len-at.result
    c.len-at.ensures c.in_ok-push_register.ensures.added c.in_ok-push_register-2.ensures.added c.choices.new.nl c.in_ok-choices.ensures c.connect.new.self
    c.connect.ensures c.connect-2.new.self c.connect-2.ensures)

pub push_register-requires : goal.push_register-requires
push_register-requires c = omega (arith, c.requires.room)

pub push_register-requires-2 : goal.push_register-requires-2
push_register-requires-2 c =
    let one = longer_one c.args.nl.now c.push_register.new.self c.width_at-width.result c.in_ok-push_register.ensures.added in
    omega (arith, c.requires.room, one.0, one.1)

pub choices-requires-clause-room : goal.choices-requires-clause-room
choices-requires-clause-room c =
    let one = longer_one c.args.nl.now c.push_register.new.self c.width_at-width.result c.in_ok-push_register.ensures.added in
    let two = longer_one c.push_register.new.self c.push_register-2.new.self c.width_at-width.result c.in_ok-push_register-2.ensures.added in
    omega (arith, c.requires.room, one.0, one.1, two.0, two.1)
