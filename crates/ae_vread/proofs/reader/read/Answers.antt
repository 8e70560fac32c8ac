use Rattle.ae_vtoken.specs.Ahead.{ahead}
use Rattle.ae_vread.proofs.ReadLaws.{spelled_of, fault_of, every_module_of, every_fault_of}
use Rattle.ae_vread.proofs.reader.read.Goals as goal

pub returns-in-Ok-clause-spelled : goal.returns-in-Ok-clause-spelled
returns-in-Ok-clause-spelled c = spelled_of c.args.text.now (ahead c.in-Ok.tokens) c.read_module.result c.in-Ok.ensures.tokens c.read_module.ensures

pub returns-in-Ok-clause-fault : goal.returns-in-Ok-clause-fault
returns-in-Ok-clause-fault c = fault_of c.args.text.now (ahead c.in-Ok.tokens) c.read_module.result c.in-Ok.ensures.tokens c.read_module.ensures

pub returns-in-Ok-clause-every_module : goal.returns-in-Ok-clause-every_module
returns-in-Ok-clause-every_module c =
    every_module_of c.args.text.now (ahead c.in-Ok.tokens) c.read_module.result c.in-Ok.ensures.tokens c.read_module.ensures

pub returns-in-Ok-clause-every_fault : goal.returns-in-Ok-clause-every_fault
returns-in-Ok-clause-every_fault c =
    every_fault_of c.args.text.now (ahead c.in-Ok.tokens) c.read_module.result c.in-Ok.ensures.tokens c.read_module.ensures
