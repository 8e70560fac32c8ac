-- Two gates more in each turn.
use Rattle.std.proofs.Common.{arith}
use Rattle.ae_control.proofs.Standing.{flag_fits, flags_none, flags_more}
use Rattle.ae_control.proofs.driver.flag_gates.Goals as goal

pub loop-j-init : goal.loop-j-init
loop-j-init c = flags_none c.args.nl.now c.args.reset c.args.at

pub choices-requires-clause-choices : goal.choices-requires-clause-choices
choices-requires-clause-choices c =
    rw c.flag-before.ensures
    (flag_fits c.args.nl.now c.loop-j.nl c.args.reset c.args.at c.loop-j.j c.loop-j.invariant c.requires.here
    (omega (arith, c.loop-j-test.true)) c.requires.reset c.requires.own c.requires.gates)

pub loop-j-preserved : goal.loop-j-preserved
loop-j-preserved c =
    flags_more c.args.nl.now c.loop-j.nl c.choices.new.nl c.args.reset c.args.at c.loop-j.j c.loop-j.invariant c.requires.here
    (rw c.flag-before.ensures at c.in_ok-choices.ensures)

pub choices-requires-clause-room : goal.choices-requires-clause-room
choices-requires-clause-room c = omega (arith, c.requires.room, c.loop-j.invariant.long, c.loop-j.invariant.longer.limit, c.loop-j-test.true)
