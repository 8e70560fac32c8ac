-- Without a clock nothing reads it.
use Rattle.std.proofs.Common.{◌||◌, sym, ◌∙◌}
use Rattle.std.specs.Prelude.{option_map}
use Rattle.std.specs.List.{list_any}
use Rattle.ae_vmodule.specs.View.{item_tree, word_at}
use Rattle.ae_judge.specs.Names.{is_named, item_reads}
use Rattle.ae_judge.specs.Judging.{misuses}
use Rattle.ae_judge.proofs.Members.{none_named}
use Rattle.ae_judge.proofs.kinds.misuses.Goals as goal

pub returns-in-None : goal.returns-in-None
returns-in-None c =
    let ns = c.args.names.now.nets in
    let ws = c.args.names.now.words in
    let item = item_tree ws c.args.item.now in
    sym ((λ i. (sym c.is_misused_in_item.ensures ∙ c.if-is_misused_in_item.false) i
    || list_any (λ n. is_named n (option_map (word_at ws) (c.in-None.is i))) (item_reads item)) ∙ none_named (item_reads item))
