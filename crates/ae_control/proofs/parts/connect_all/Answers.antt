-- Each turn connects one register more.
use Rattle.std.proofs.Common.{◌+◌, arith}
use Rattle.std.proofs.lemmas.Option.{slice_get_within}
use Rattle.ae_control.proofs.Cells.{connected_none, connected_more, still_register}
use Rattle.ae_control.proofs.parts.connect_all.Goals as goal
use Rattle.ae_gates.proofs.Added.{net_within}
use Rattle.ae_clocked.proofs.Connecting.{register_width, own_register, net_own}

pub loop-k-init : goal.loop-k-init
loop-k-init c = connected_none c.args.nl.now c.args.first c.args.next

pub overflow_add-first : goal.overflow_add-first
overflow_add-first c =
    let own = c.requires.can.registers c.loop-k.k c.loop-k-test.true in
    omega (arith, slice_get_within c.args.nl.now.cells (c.args.first + c.loop-k.k) _ own.1, c.formed.ensures.limit, c.formed.ensures.small)

pub overflow_mul-k : goal.overflow_mul-k
overflow_mul-k c = omega (arith, net_within (c.requires.can.nets c.loop-k.k c.loop-k-test.true), c.formed.ensures.limit, c.formed.ensures.small)

pub overflow_add-next : goal.overflow_add-next
overflow_add-next c = omega (arith, net_within (c.requires.can.nets c.loop-k.k c.loop-k-test.true), c.formed.ensures.limit, c.formed.ensures.small)

pub connect-requires-clause-register : goal.connect-requires-clause-register
connect-requires-clause-register c =
    own_register (still_register c.args.nl.now c.loop-k.nl c.args.first c.args.count c.args.next c.loop-k.k c.requires.can c.loop-k.invariant
    c.loop-k-test.true)

pub connect-requires-clause-next : goal.connect-requires-clause-next
connect-requires-clause-next c =
    net_own (still_register c.args.nl.now c.loop-k.nl c.args.first c.args.count c.args.next c.loop-k.k c.requires.can c.loop-k.invariant c.loop-k-test.true)
    (c.loop-k.invariant.nets _ 1 (c.requires.can.nets c.loop-k.k c.loop-k-test.true))

pub loop-k-preserved : goal.loop-k-preserved
loop-k-preserved c =
    connected_more c.args.nl.now c.loop-k.nl c.connect.new.self c.args.first c.args.count c.args.next c.loop-k.k _ c.requires.can c.loop-k.invariant
    c.loop-k-test.true
    (register_width (still_register c.args.nl.now c.loop-k.nl c.args.first c.args.count c.args.next c.loop-k.k c.requires.can c.loop-k.invariant
    c.loop-k-test.true)) c.connect.ensures
