use Rattle.std.proofs.Common.{◌∙◌, sym, ap}
use Rattle.ae_seq.specs.Trees.{lent_types, option_lent_types, type_trees}
use Rattle.ae_seq.proofs.Types.{types_at-sized}
use Rattle.ae_seq.proofs.checker.node_type.Goals as goal

pub op_type-requires : goal.op_type-requires
op_type-requires c =
    rw c.deref-2.ensures.value
    (types_at-sized (type_trees c.args.items.now) c.deref.result.now (lent_types c.in-Some.args.items) c.requires
    (sym c.in_ok-args.ensures ∙ ap option_lent_types c.in-Some.is))
