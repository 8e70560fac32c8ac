use Rattle.std.proofs.Common.{◌≡◌, length, map, subst, sym}
use Rattle.std.proofs.lemmas.List.{length-map}
use Rattle.ae_vmodule.specs.View.{module_tree}
use Rattle.ae_order.proofs.Answered.{ok_map}
use Rattle.ae_order.proofs.DriveLaws.{values_sound, flat_is}
use Rattle.ae_order.specs.Drives.{AreSoundValues, value_tree}
use Rattle.ae_order.proofs.order.wire_graph.Goals as goal

pub graph_of-requires-clause-sound : goal.graph_of-requires-clause-sound
graph_of-requires-clause-sound c =
    let m = module_tree c.args.m.now in
    let nets : c.args.names.now.nets ≡ m.nets = λ i. (c.requires.names i).nets in
    subst (λ ns. AreSoundValues ns (map (value_tree c.args.names.now.words) c.in_ok-values.values)) (sym nets)
    (subst (AreSoundValues m.nets) (sym c.in_ok-values.ensures) (values_sound m c.requires.regular c.requires.shape))

pub returns : goal.returns
returns c =
    let m = module_tree c.args.m.now in
    let long = length-map c.in_ok-values.values (value_tree c.args.names.now.words) in
    ok_map c.graph_of.result
    (λ g flat. flat_is m c.args.names.now.nets _ (length c.in_ok-values.values) g.starts.items g.targets.items
    (λ i. (c.requires.names i).nets) c.in_ok-values.ensures (sym long) flat)
    c.graph_of.ensures
