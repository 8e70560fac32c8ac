use Rattle.std.proofs.Common.{ℕ, ◌≡◌, ◌+◌, length, map, Some, ap, ◌∙◌, subst, arith}
use Rattle.std.proofs.lemmas.List.{length-map}
use Rattle.std.proofs.lemmas.Option.{slice_get-map}
use Rattle.std.specs.Prelude.{option_map}
use Rattle.ae_vmodule.specs.Roots.{numbered}
use Rattle.ae_vmodule.specs.View.{expr_tree}
use Rattle.ae_vmodule.specs.declared.symbols.Expr.{Expr}
use Rattle.ae_order.specs.Sound.{IsSound}
use Rattle.ae_order.specs.Drives.{IsFlat}
use Rattle.ae_order.proofs.NameLists.{if_some, flat_more, flat_last}
use Rattle.ae_order.specs.Drives.{value_tree}
use Rattle.ae_order.proofs.order.graph_of.Goals as goal

pub add_value-requires-clause-sound : goal.add_value-requires-clause-sound
add_value-requires-clause-sound c =
    let tree = value_tree c.args.names.now.words in
    let found = slice_get-map tree c.args.values.now c.value.place ∙ ap (option_map tree) c.at.ensures in
    if_some (λ (e : Expr). expr_tree c.args.names.now.words (numbered e)) (IsSound c.args.names.now.nets) c.at.result
    (λ e h. c.requires.sound c.value.place e (found ∙ ap Some h))

pub value-preserved : goal.value-preserved
value-preserved c =
    let tree = value_tree c.args.names.now.words in
    let found = slice_get-map tree c.args.values.now c.value.place ∙ ap (option_map tree) c.at.ensures in
    flat_more c.args.names.now.nets _ c.value.place c.len.result c.value.starts.items _ c.value.targets.items _ _ found c.value.invariant
    c.in_ok-push.ensures.items (c.len.ensures ∙ c.value.targets.ok.0) c.in_ok-add_value.ensures

pub returns : goal.returns
returns c =
    let long = length-map c.args.values.now (value_tree c.args.names.now.words) in
    let last : c.value.place ≡ length c.args.values.now = omega arith in
    subst (λ (k : ℕ). IsFlat c.args.names.now.nets (map (value_tree c.args.names.now.words) c.args.values.now)
    (k + 1) c.push-2.new.self.items c.value.targets.items) last
    (flat_last c.args.names.now.nets _ c.value.place c.len-2.result c.value.starts.items _ c.value.targets.items
    (omega arith) c.value.invariant c.in_ok-push-2.ensures.items (c.len-2.ensures ∙ c.value.targets.ok.0))
