use Rattle.std.proofs.Common.{◌∙◌, sym, subst, map}
use Rattle.ae_vmodule.specs.View.{net_tree, module_tree}
use Rattle.ae_judge.specs.Faults.{HasUndriven}
use Rattle.ae_judge.specs.Judging.{IsFirstOf, first_from, is_undriven}
use Rattle.ae_judge.proofs.Judged.{undriven_first}
use Rattle.ae_judge.proofs.judging.undriven_net.Goals as goal

pub returns : goal.returns
returns c =
    let m = module_tree c.args.m.now in
    subst (IsFirstOf (HasUndriven m)) (sym (c.first_undriven.ensures ∙ (λ i. first_from (λ _. is_undriven (c.requires.driven i)) 0
    (map (net_tree (c.requires.names i).words) (c.deref.ensures.value i))))) (undriven_first m)
