use Rattle.std.proofs.lemmas.List.{length-map}
use Rattle.ae_seq.specs.Trees.{param_trees, lent_types}
use Rattle.ae_seq.specs.Typing.{types_of_params}
use Rattle.ae_seq.proofs.Types.{same_types-lengths}
use Rattle.ae_seq.proofs.line_type.same_types.Goals as goal

pub returns-then-params-args : goal.returns-then-params-args
returns-then-params-args c =
    same_types-lengths (types_of_params (param_trees c.args.params.now)) (lent_types c.args.args.now) (λ e. c.if-params-args.true (simp length-map at e))
