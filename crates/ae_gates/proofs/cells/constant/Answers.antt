use Rattle.std.proofs.Common.{refl}
use Rattle.ae_gates.proofs.Adding.{added, counted, uncounted}
use Rattle.ae_gates.proofs.Added.{constant_cell, constant_net, constant_words}
use Rattle.ae_netlist.specs.Counts.{is_register}
use Rattle.ae_gates.specs.Cells.{is_test}
use Rattle.ae_gates.proofs.cells.constant.Goals as goal

pub returns-clause-adds : goal.returns-clause-adds
returns-clause-adds c =
    added _ c.push.new.self c.push.result _ c.formed.ensures.cells tt refl c.push.ensures.added

pub returns-clause-net : goal.returns-clause-net
returns-clause-net c = constant_net _ c.push.new.self c.push.result c.args.width _ (c.push.ensures.ok, c.push.ensures.added)

pub returns-clause-words : goal.returns-clause-words
returns-clause-words c = constant_words _ c.push.new.self c.push.result c.args.width _ (c.push.ensures.ok, c.push.ensures.added)

pub returns-clause-registers : goal.returns-clause-registers
returns-clause-registers c = uncounted c.push.result _ _ (counted is_register _ c.push.new.self c.push.result _ c.push.ensures.added)

pub returns-clause-tests : goal.returns-clause-tests
returns-clause-tests c = uncounted c.push.result _ _ (counted is_test _ c.push.new.self c.push.result _ c.push.ensures.added)

pub returns-clause-cell : goal.returns-clause-cell
returns-clause-cell c = constant_cell _ c.push.new.self c.push.result c.args.width _ (c.push.ensures.ok, c.push.ensures.added)
