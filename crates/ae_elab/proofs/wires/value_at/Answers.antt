use Rattle.std.proofs.Common.{ap, ◌∙◌}
use Rattle.std.specs.Prelude.{option_map}
use Rattle.std.proofs.lemmas.Option.{slice_get-map}
use Rattle.ae_order.specs.Drives.{value_tree}
use Rattle.ae_elab.proofs.wires.value_at.Goals as goal

pub returns : goal.returns
returns c = λ ws. slice_get-map (value_tree ws) c.args.values.now c.args.place ∙ ap (option_map (value_tree ws)) c.at.ensures
