use Rattle.std.proofs.Common.{◌≡◌, ◌∙◌, ℕ, List, Vec, Global, slice_get, map, ap, sym, arith}
use Rattle.std.proofs.lemmas.List.{take_all}
use Rattle.ae_sttype.specs.declared.st_type.StType.{StType}
use Rattle.ae_sttype.specs.StTree.{st_tree}
use Rattle.ae_moves.specs.Trees.{origin_tree}
use Rattle.ae_rewrite.specs.StProgramTree.{st_func_tree, st_trees}
use Rattle.ae_results.specs.declared.result.FusedResult.{FusedResult}
use Rattle.ae_fuse.specs.Moved.{own_move}
use Rattle.ae_results.specs.Results.{result_move}
use Rattle.ae_fuse.proofs.ItemSteps.{input-sized}
use Rattle.ae_fuse.proofs.ResultSteps.{a_move, moves-next, own-is}
use Rattle.ae_fuse.proofs.results.result_moves.Goals as goal

pub label_origins-requires-clause-sizes : goal.label_origins-requires-clause-sizes
label_origins-requires-clause-sizes c k t found =
    input-sized c.args.s.now k t c.requires.moves (ap (λ (ts : List StType). slice_get ts k) (sym c.as_slice-ins.ensures.value) ∙ found)

pub labels_at-requires : goal.labels_at-requires
labels_at-requires c = c.requires.results c.loop-r.r c.result_item-item.result c.result_item-item.ensures

pub layout-requires : goal.layout-requires
layout-requires c = omega (arith, c.requires.results c.loop-r.r c.result_item-item.result c.result_item-item.ensures, c.requires.many)

pub loop-r-preserved : goal.loop-r-preserved
loop-r-preserved c =
    let s = st_func_tree c.args.s.now in
    let ls : List (List ℕ) = map (λ (w : Vec ℕ Global). w.items) c.args.labels.now in
    let i = c.result_item-item.result in
    let ins : st_trees c.as_slice-ins.result.now ≡ s.ins = ap st_trees c.as_slice-ins.ensures.value in
    let new : FusedResult = record { out = c.in_ok-out.out; source = c.in_ok-source.source } in
    let is : a_move (st_trees c.as_slice-ins.result.now) (st_tree c.in_ok-out.out) (map origin_tree c.in_ok-source.source.items) ≡ own_move s ls i =
    own-is s ls i (st_trees c.as_slice-ins.result.now) (st_tree c.in_ok-out.out) (map origin_tree c.in_ok-source.source.items) c.labels_at.result.now ins
    (c.in_ok-out.ensures ∙ c.layout.ensures) c.labels_at.ensures c.in_ok-source.ensures in
    let own : result_move s.ins new ≡ own_move s ls i = ap (λ ts. result_move ts new) (sym ins) ∙ is in
    record {
      moves = rw c.in_ok-push.ensures.items (moves-next s.ins
          (own_move s ls) c.args.s.now.results.items c.loop-r.r i c.loop-r.moves.items new c.result_item-item.ensures c.loop-r.invariant.moves own);
      within = omega arith;
    }

pub returns : goal.returns
returns c =
    let s = st_func_tree c.args.s.now in
    let ls : List (List ℕ) = map (λ (w : Vec ℕ Global). w.items) c.args.labels.now in
    c.loop-r.invariant.moves ∙ ap (map (own_move s ls)) (take_all c.loop-r.r c.args.s.now.results.items
    (omega (arith, c.loop-r.invariant.within, c.loop-r-test.false)))
