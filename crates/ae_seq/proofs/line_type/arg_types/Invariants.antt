use Rattle.std.proofs.Common.{◌≡◌, ◌++◌, drop, map, Some}
use Rattle.ae_seq.specs.Trees.{lent_types, type_trees}
use Rattle.ae_seq.specs.Typing.{types_at, ◌>>=◌}
use Rattle.ae_seq.proofs.line_type.arg_types.Given as goal

abbrev pub invariant-loop-arg : goal.invariant-loop-arg
invariant-loop-arg l =
    (types_at (map Some (type_trees l.items)) (drop l.arg-index l.args) >>= λ rest. Some (lent_types l.found.items ++ rest)) ≡ types_at
    (map Some (type_trees l.items)) l.args
