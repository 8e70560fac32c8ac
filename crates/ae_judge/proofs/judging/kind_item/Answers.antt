use Rattle.std.proofs.Common.{◌≡◌, ◌∙◌, sym, subst, map}
use Rattle.std.specs.Prelude.{option_map}
use Rattle.std.proofs.lemmas.Result.{IfOk-weaker}
use Rattle.ae_vmodule.specs.View.{item_tree, module_tree, word_at}
use Rattle.ae_judge.specs.Names.{first_clock, clock_or, clock_name}
use Rattle.ae_judge.specs.Faults.{HasKind}
use Rattle.ae_judge.specs.Judging.{IsFirstOf, first_from, misuses}
use Rattle.ae_judge.proofs.Judged.{kind_first}
use Rattle.ae_judge.proofs.judging.kind_item.Goals as goal

pub returns : goal.returns
returns c =
    let m = module_tree c.args.m.now in
    let clock : option_map (word_at c.args.names.now.words) c.clock_of-clock.result ≡ clock_name m =
    c.clock_of-clock.ensures ∙ (λ i. clock_or (c.requires.names i).nets (first_clock (map (item_tree (c.requires.names i).words) (c.deref.ensures.value i)))) in
    IfOk-weaker c.first_misuse.result _ _
    (λ o e. subst (IsFirstOf (HasKind m)) (sym (e ∙ (λ i. first_from (λ _. misuses (c.requires.names i).nets (clock i)) 1
    (map (item_tree (c.requires.names i).words) (c.deref-2.ensures.value i))))) (kind_first m))
    c.first_misuse.ensures
