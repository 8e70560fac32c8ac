use Rattle.std.proofs.Common.{arith}
use Rattle.ae_gates.proofs.Adding.{net_added}
use Rattle.ae_clocked.proofs.Connecting.{adds_connect, own_register, net_own}
use Rattle.ae_clocked.proofs.registers.delayed.Goals as goal

pub close-requires-clause-register : goal.close-requires-clause-register
close-requires-clause-register c = own_register c.in_ok-r.ensures.register

pub close-requires-clause-next : goal.close-requires-clause-next
close-requires-clause-next c = net_own c.in_ok-r.ensures.register (net_added c.in_ok-r.ensures.adds c.requires.net)

pub returns-clause-adds : goal.returns-clause-adds
returns-clause-adds c = adds_connect c.in_ok-r.ensures.adds (omega (arith, c.in_ok-r.ensures.fresh)) c.close.ensures

pub returns-clause-registers : goal.returns-clause-registers
returns-clause-registers c = omega (arith, c.in_ok-r.ensures.registers, c.close.ensures.registers)

pub returns-clause-tests : goal.returns-clause-tests
returns-clause-tests c = omega (arith, c.in_ok-r.ensures.tests, c.close.ensures.tests)

pub returns-clause-net : goal.returns-clause-net
returns-clause-net c = c.close.ensures.nets _ _ c.in_ok-r.ensures.net

pub returns-clause-words : goal.returns-clause-words
returns-clause-words c = rw (← c.in_ok-r.ensures.fresh) c.close.ensures.words
