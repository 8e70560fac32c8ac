use Rattle.ae_verilog.proofs.Listable.{returns_listable}
use Rattle.ae_verilog.proofs.write_module.Goals as goal

pub returns-clause-text : goal.returns-clause-text
returns-clause-text c = rw c.as_slice-outs.ensures.value at c.write_text.ensures.text

pub returns-clause-listable : goal.returns-clause-listable
returns-clause-listable c =
    returns_listable c.write_text.result c.args.nl.now.cells c.args.nl.now.outlets c.formed.ensures.cells c.formed.ensures.outlets c.write_text.ensures.few
    c.write_text.ensures.inputs c.write_text.ensures.outputs

pub returns-clause-numbers : goal.returns-clause-numbers
returns-clause-numbers c = c.write_text.ensures.numbers
