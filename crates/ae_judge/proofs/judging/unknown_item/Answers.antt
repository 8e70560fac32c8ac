use Rattle.std.proofs.Common.{◌∙◌, sym, subst, map}
use Rattle.std.proofs.lemmas.Result.{IfOk-weaker}
use Rattle.ae_vmodule.specs.View.{item_tree, module_tree}
use Rattle.ae_judge.specs.Faults.{HasUnknown}
use Rattle.ae_judge.specs.Judging.{IsFirstOf, first_from, uses_unknown}
use Rattle.ae_judge.proofs.Unknowns.{unknown_first}
use Rattle.ae_judge.proofs.judging.unknown_item.Goals as goal

pub returns : goal.returns
returns c =
    let m = module_tree c.args.m.now in
    IfOk-weaker c.first_unknown.result _ _
    (λ o e. subst (IsFirstOf (HasUnknown m)) (sym (e ∙ (λ i. first_from (uses_unknown (c.requires.names i).nets) 1
    (map (item_tree (c.requires.names i).words) (c.deref.ensures.value i)))))
    (unknown_first m c.requires.shape))
    c.first_unknown.ensures
