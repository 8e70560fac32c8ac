use Rattle.ae_vmodule.specs.View.{module_tree}
use Rattle.ae_compile.proofs.NoFaults.{only_memory}
use Rattle.ae_compile.proofs.read_back.netlist_of.Goals as goal

pub memory_alone-requires : goal.memory_alone-requires
memory_alone-requires c = only_memory (module_tree c.args.m.now) c.in-Err.fault c.requires.formed c.in-Err.ensures.fault
