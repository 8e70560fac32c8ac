use Rattle.std.proofs.Common.{◌≡◌, ◌∙◌, ◌||◌, false, sym, ap, map, []}
use Rattle.std.specs.List.{list_any}
use Rattle.std.proofs.lemmas.Result.{IfOk-weaker}
use Rattle.ae_vmodule.specs.View.{item_tree, word_at}
use Rattle.ae_judge.specs.Names.{item_targets}
use Rattle.ae_judge.specs.Judging.{is_driven, repeats, drives_twice}
use Rattle.ae_judge.proofs.Again.{fresh_repeats}
use Rattle.ae_judge.proofs.twice.drives_twice.Goals as goal

pub returns-clause-twice : goal.returns-clause-twice
returns-clause-twice c =
    let ns = c.args.driven.now.table.nets in
    let es = c.args.driven.now.entries in
    let i = item_tree c.args.driven.now.table.words c.args.item.now in
    let xs = map (word_at c.args.driven.now.table.words) c.args.targets.now in
    let t : xs ≡ item_targets i = c.requires in
    let any : list_any (is_driven ns es) xs ≡ false = sym c.any_driven.ensures ∙ c.if-any_driven.false in
    let whole : drives_twice ns es i ≡ repeats ns i es xs = (λ j. list_any (is_driven ns es) (sym t j) || repeats ns i [] (sym t j))
    ∙ ap (λ b. b || repeats ns i [] xs) any ∙ sym (fresh_repeats ns i es xs any) in
    IfOk-weaker c.repeats.result _ _ (λ b e. e ∙ sym whole) c.repeats.ensures.repeats
