use Rattle.std.proofs.Common.{◌≡◌, length, map, replicate, None, ap, ◌∙◌, arith, subst, sym}
use Rattle.std.specs.Prelude.{flat_map}
use Rattle.std.proofs.lemmas.List.{length-map, length-replicate}
use Rattle.ae_vmodule.specs.View.{item_tree, net_tree, module_tree}
use Rattle.ae_judge.specs.Names.{drives_of, equations}
use Rattle.ae_judge.specs.Table.{NameTable}
use Rattle.ae_order.specs.Drives.{AreDriven, noted, value_tree}
use Rattle.ae_judge.proofs.Members.{among_at, among_from}
use Rattle.ae_runs.proofs.Declared.{equation_from}
use Rattle.ae_order.proofs.Turns.{at_turn, take_turn, take_whole}
use Rattle.ae_order.proofs.DriveLaws.{equations_driven}
use Rattle.ae_order.proofs.NameLists.{more_items, all_equations}
use Rattle.ae_order.proofs.SparseLaws.{map_none}
use Rattle.ae_order.proofs.order.drive_values.Goals as goal

pub item-init : goal.item-init
item-init c =
    let named : length c.args.names.now.nets ≡ length (map (net_tree c.args.m.now.words) c.args.m.now.nets.items) = λ i. length (c.requires.names i).nets in
    let trees = length-map c.args.m.now.nets.items (net_tree c.args.m.now.words) in
    let len = c.len.ensures in
    let long = c.args.m.now.nets.ok.0 in
    let count : c.len.result ≡ length c.args.names.now.nets = omega arith in
    record {
      long = ap length c.none-values.ensures ∙ length-replicate c.len.result None ∙ count;
      noted = ap (map (value_tree c.args.names.now.words)) c.none-values.ensures ∙ map_none (value_tree c.args.names.now.words) c.len.result
          ∙ ap (λ k. replicate k None) count;
    }

pub note_item-requires-clause-driven : goal.note_item-requires-clause-driven
note_item-requires-clause-driven c =
    let m = module_tree c.args.m.now in
    let found = at_turn (item_tree c.args.m.now.words) c.deref-item-items.result.now c.item.item-index c.item-item.result (omega arith) c.item-item.is in
    let there = rw c.deref-item-items.ensures.value at found in
    let driven : AreDriven m.nets (drives_of (item_tree c.args.m.now.words c.item-item.result)) = λ k d h.
    let a = equation_from m c.requires.regular c.item.item-index (item_tree c.args.m.now.words c.item-item.result) d there (among_from d _ k h) in
    let at = among_at d (equations m) a in
    equations_driven m c.requires.regular c.requires.shape at.0 d at.1 in
    subst (λ (t : NameTable). AreDriven t.nets (drives_of (item_tree t.words c.item-item.result))) (sym c.requires.names) driven

pub item-preserved : goal.item-preserved
item-preserved c =
    let turn = take_turn (item_tree c.args.names.now.words) c.deref-item-items.result.now c.item.item-index c.item-item.result (omega arith) c.item-item.is in
    let there = rw c.deref-item-items.ensures.value at turn in
    record {
      long = c.in_ok-note_item.ensures.long;
      noted = more_items c.args.names.now.nets _ _ _ (map (item_tree c.args.names.now.words) c.args.m.now.items.items) c.item.item-index
          (item_tree c.args.names.now.words c.item-item.result) c.item.invariant.noted c.in_ok-note_item.ensures.noted there;
    }

pub returns : goal.returns
returns c =
    let m = module_tree c.args.m.now in
    let long = length-map c.args.m.now.items.items (item_tree c.args.names.now.words) in
    let same = c.deref-item-items.ensures.value in
    let all : length c.deref-item-items.result.now ≡ length c.args.m.now.items.items = ap length same in
    c.item.invariant.noted
    ∙ ap (λ is. noted c.args.names.now.nets (replicate (length c.args.names.now.nets) None) (flat_map drives_of is))
    (take_whole (map (item_tree c.args.names.now.words) c.args.m.now.items.items) c.item.item-index (omega arith))
    ∙ (λ i. noted (c.requires.names i).nets (replicate (length (c.requires.names i).nets) None)
    (flat_map drives_of (map (item_tree (c.requires.names i).words) c.args.m.now.items.items)))
    ∙ ap (noted m.nets (replicate (length m.nets) None)) (all_equations m)
