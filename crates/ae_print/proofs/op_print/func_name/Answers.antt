use Rattle.std.proofs.Common.{◌∙◌}
use Rattle.ae_print.proofs.PrintLemmas.{func-name-at}
use Rattle.ae_print.proofs.op_print.func_name.Goals as goal

pub returns : goal.returns
returns c = c.as_str.ensures.value ∙ func-name-at c.args.funcs.now c.args.k c.index-funcs-k.result c.requires
