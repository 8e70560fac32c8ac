use Rattle.std.proofs.Common.{◌≡◌, ◌++◌, drop}
use Rattle.ae_seq.specs.ProgramTree.{func_tree}
use Rattle.ae_seq.specs.Trees.{type_trees, param_trees}
use Rattle.ae_seq.specs.Typing.{all_in_size, types_of_params, param_types}
use Rattle.ae_seq.proofs.checker.params.Given as goal

abbrev pub invariant-loop-param : goal.invariant-loop-param
invariant-loop-param l =
    let rest = types_of_params (param_trees (drop l.param-index l.func.params.items)) in
    record {
      sized : all_in_size rest ≡ all_in_size (param_types (func_tree l.func));
      types : type_trees l.found.items ++ rest ≡ param_types (func_tree l.func);
    }
