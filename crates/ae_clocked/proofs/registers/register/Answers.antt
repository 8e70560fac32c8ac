use Rattle.std.proofs.Common.{refl}
use Rattle.ae_gates.proofs.Adding.{added, counted, uncounted}
use Rattle.ae_clocked.proofs.Connecting.{register_is, register_net, register_fresh}
use Rattle.ae_netlist.specs.Counts.{is_register}
use Rattle.ae_gates.specs.Cells.{is_test}
use Rattle.ae_clocked.proofs.registers.register.Goals as goal

pub returns-clause-adds : goal.returns-clause-adds
returns-clause-adds c =
    added _ c.push_register.new.self c.push_register.result _ c.formed.ensures.cells tt refl c.push_register.ensures.added

pub returns-clause-fresh : goal.returns-clause-fresh
returns-clause-fresh c =
    register_fresh _ c.push_register.new.self c.push_register.result c.args.width (c.push_register.ensures.ok, c.push_register.ensures.added)

pub returns-clause-net : goal.returns-clause-net
returns-clause-net c = register_net _ c.push_register.new.self c.push_register.result c.args.width (c.push_register.ensures.ok, c.push_register.ensures.added)

pub returns-clause-register : goal.returns-clause-register
returns-clause-register c =
    register_is _ c.push_register.new.self c.push_register.result c.args.width (c.push_register.ensures.ok, c.push_register.ensures.added)

pub returns-clause-registers : goal.returns-clause-registers
returns-clause-registers c = counted is_register _ c.push_register.new.self c.push_register.result _ c.push_register.ensures.added

pub returns-clause-tests : goal.returns-clause-tests
returns-clause-tests c =
    uncounted c.push_register.result _ _ (counted is_test _ c.push_register.new.self c.push_register.result _ c.push_register.ensures.added)
