use Rattle.std.proofs.Common.{◌≡◌, drop}
use Rattle.ae_seq.specs.Trees.{lent_types, param_trees}
use Rattle.ae_seq.specs.Typing.{same_types, types_of_params}
use Rattle.ae_seq.proofs.line_type.same_types.Given as goal

abbrev pub invariant-loop-index : goal.invariant-loop-index
invariant-loop-index l =
    same_types (types_of_params (param_trees (drop l.index l.params))) (lent_types (drop l.index l.args)) ≡ same_types (types_of_params (param_trees l.params))
    (lent_types l.args)
