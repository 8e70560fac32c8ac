use Rattle.std.proofs.Common.{◌≡◌, ◌∙◌, sym, subst, map}
use Rattle.ae_vmodule.specs.View.{net_tree, item_tree, module_tree}
use Rattle.ae_judge.specs.Faults.{HasWidth, is_too_wide_in_item}
use Rattle.ae_judge.specs.Judging.{IsFirstOf, earlier, first_from, first_too_large}
use Rattle.ae_judge.proofs.Judged.{width_first}
use Rattle.ae_judge.proofs.judging.width_item.Goals as goal

pub returns : goal.returns
returns c =
    let m = module_tree c.args.m.now in
    let large : c.first_too_large.result ≡ first_too_large m.nets = c.first_too_large.ensures ∙
    (λ i. first_too_large (map (net_tree (c.requires.names i).words) (c.deref.ensures.value i))) in
    let wide : c.first_too_wide.result ≡ first_from (λ _. is_too_wide_in_item m.nets) 1 m.items =
    c.first_too_wide.ensures ∙ (λ i. first_from (λ _. is_too_wide_in_item (c.requires.names i).nets) 1
    (map (item_tree (c.requires.names i).words) (c.deref-2.ensures.value i))) in
    subst (IsFirstOf (HasWidth m)) (sym (c.earlier.ensures ∙ (λ i. earlier (large i) (wide i)))) (width_first m c.requires.shape)
