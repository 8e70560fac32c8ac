use Rattle.std.proofs.Common.{arith}
use Rattle.ae_control.proofs.Cells.{registers_none, registers_more}
use Rattle.ae_control.proofs.parts.registers.Goals as goal

pub loop-i-init : goal.loop-i-init
loop-i-init c = registers_none c.args.nl.now

pub loop-i-preserved : goal.loop-i-preserved
loop-i-preserved c = registers_more c.args.nl.now c.loop-i.nl c.push_register.new.self c.loop-i.i c.loop-i.invariant c.in_ok-push_register.ensures.added

pub push_register-requires : goal.push_register-requires
push_register-requires c = omega (arith, c.requires, c.loop-i.invariant.long, c.loop-i.invariant.longer.limit, c.loop-i-test.true)
