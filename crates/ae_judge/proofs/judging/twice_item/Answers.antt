use Rattle.std.proofs.Common.{◌≡◌, ◌∙◌, sym, ap, subst, map, [], None}
use Rattle.std.specs.Prelude.{flat_map}
use Rattle.ae_vmodule.specs.View.{item_tree, module_tree}
use Rattle.ae_judge.specs.Names.{item_targets}
use Rattle.ae_judge.specs.Faults.{HasTwice}
use Rattle.ae_judge.specs.Judging.{IsFirstOf, earlier, first_again, first_twice, with_names}
use Rattle.ae_judge.specs.Table.{NameTable}
use Rattle.ae_judge.proofs.Doubled.{twice_first}
use Rattle.ae_judge.proofs.Again.{later_none}
use Rattle.ae_judge.proofs.judging.twice_item.Goals as goal

pub returns-clause-first : goal.returns-clause-first
returns-clause-first c =
    let m = module_tree c.args.m.now in
    let declared : c.again-again.result ≡ first_again [] m.nets = c.again-again.ensures
    ∙ ap (λ (t : NameTable). first_again [] t.nets) (c.names.ensures ∙ c.requires.names) in
    let driven : c.in_ok-twice.twice ≡ first_twice m.nets 1 [] m.items = c.in_ok-twice.ensures.first ∙
    (λ i. first_twice (c.requires.names i).nets 1 (c.requires.none i) (map (item_tree (c.requires.names i).words) (c.deref.ensures.value i))) in
    subst (IsFirstOf (HasTwice m)) (sym (c.earlier.ensures ∙ (λ i. earlier (declared i) (driven i)))) (twice_first m c.requires.shape)

pub returns-clause-driven : goal.returns-clause-driven
returns-clause-driven c = λ e.
    let none : c.in_ok-twice.twice ≡ None = later_none c.again-again.result c.in_ok-twice.twice (sym c.earlier.ensures ∙ e) in
    c.in_ok-twice.ensures.driven none
    ∙ (λ i. record c.args.driven.now {
      entries = with_names (c.requires.none i) (flat_map item_targets
          (map (item_tree (c.requires.names i).words) (c.deref.ensures.value i)));
    })
