use Rattle.std.proofs.Common.{◌≡◌, ◌+◌, ◌∙◌, false, sym, ap, arith, get_or}
use Rattle.ae_vmodule.specs.View.{item_tree}
use Rattle.ae_vmodule.specs.declared.items.VItem.{VItem}
use Rattle.ae_judge.specs.Names.{item_targets}
use Rattle.ae_judge.specs.Judging.{drives_twice, with_names}
use Rattle.ae_judge.specs.Seen.{SeenNames}
use Rattle.ae_judge.specs.Table.{NameTable}
use Rattle.ae_judge.proofs.Firsts.{driven_next, twice_next}
use Rattle.ae_judge.proofs.twice.first_twice.Goals as goal

pub item-preserved : goal.item-preserved
item-preserved c =
    let table = c.args.driven.now.table in
    let ws = table.words in
    let items = c.args.items.now in
    let d = c.item-item.result in
    let es = c.item.driven.entries in
    let i = c.item.invariant in
    let here = get_or items c.item.item-index d in
    let all = c.in_ok-twice.ensures.driven c.if-twice.false in
    let next : c.drives_twice.new.driven.entries ≡ with_names es (item_targets (item_tree ws here)) =
    ap (λ (s : SeenNames). s.entries) all
    ∙ ap (λ (t : NameTable). with_names es (item_targets (item_tree t.words d))) i.table
    ∙ ap (λ (x : VItem). with_names es (item_targets (item_tree ws x))) c.item-item.is in
    let once : drives_twice table.nets es (item_tree ws here) ≡ false =
    ap (λ (x : VItem). drives_twice table.nets es (item_tree ws x)) (sym c.item-item.is)
    ∙ ap (λ (t : NameTable). drives_twice t.nets es (item_tree t.words d)) (sym i.table)
    ∙ sym c.in_ok-twice.ensures.twice ∙ c.if-twice.false in
    let number = i.number in
    record {
      number = omega arith;
      table = ap (λ (s : SeenNames). s.table) all ∙ i.table;
      first = twice_next ws table.nets (c.item.number + 1) items c.item.item-index d es c.drives_twice.new.driven.entries _ (omega arith) once
          next i.first;
      driven = driven_next ws items c.item.item-index d es c.drives_twice.new.driven.entries _ (omega arith) next i.driven;
    }
