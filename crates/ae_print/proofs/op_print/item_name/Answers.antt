use Rattle.std.proofs.Common.{◌∙◌}
use Rattle.ae_print.proofs.PrintLemmas.{front-item, back-item}
use Rattle.ae_print.proofs.op_print.item_name.Goals as goal

pub returns-then-k-params : goal.returns-then-k-params
returns-then-k-params c = c.as_str.ensures.value ∙ front-item c.args.params.now c.args.nodes.now c.args.k c.index-params-k.result c.if-k-params.true

pub returns-else-k-params : goal.returns-else-k-params
returns-else-k-params c =
    c.as_str-else-k-params.ensures.value ∙ back-item c.args.params.now c.args.nodes.now c.args.k c.index-nodes-k.result c.if-k-params.false c.requires
