use Rattle.std.proofs.Common.{refl}
use Rattle.ae_gates.proofs.Adding.{added, counted, uncounted}
use Rattle.ae_gates.proofs.Added.{operate_words, operate_net}
use Rattle.ae_netlist.specs.Counts.{is_register}
use Rattle.ae_gates.specs.Cells.{is_test}
use Rattle.ae_gates.proofs.cells.operate.Goals as goal

pub returns-clause-adds : goal.returns-clause-adds
returns-clause-adds c = added _ c.push.new.self c.push.result _ c.formed.ensures.cells tt refl c.push.ensures.added

pub returns-clause-net : goal.returns-clause-net
returns-clause-net c = operate_net _ c.push.new.self c.push.result c.args.op c.args.args c.args.width (c.push.ensures.ok, c.push.ensures.added)

pub returns-clause-words : goal.returns-clause-words
returns-clause-words c =
    operate_words _ c.push.new.self c.push.result c.args.op c.args.args c.args.width c.requires.operation (c.push.ensures.ok, c.push.ensures.added)

pub returns-clause-registers : goal.returns-clause-registers
returns-clause-registers c = uncounted c.push.result _ _ (counted is_register _ c.push.new.self c.push.result _ c.push.ensures.added)

pub returns-clause-tests : goal.returns-clause-tests
returns-clause-tests c = counted is_test _ c.push.new.self c.push.result _ c.push.ensures.added
