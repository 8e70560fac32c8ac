use Rattle.std.proofs.Common.{◌≡◌, ◌∙◌, Some, length, map, get_or, slice_get, ap, sym, subst, arith}
use Rattle.std.specs.Prelude.{sum_by}
use Rattle.std.proofs.lemmas.List.{length-map, take_all}
use Rattle.std.proofs.lemmas.Option.{slice_get-get_or}
use Rattle.ae_sttype.specs.Moves.{columns_of}
use Rattle.ae_sttype.specs.Size.{IsInSize}
use Rattle.ae_moves.proofs.Lists.{get_mapped}
use Rattle.ae_rewrite.specs.StProgramTree.{st_func_tree}
use Rattle.ae_rewrite.specs.Sound.{item_layout, item_layouts}
use Rattle.ae_jobs.proofs.Columns.{items_next}
use Rattle.ae_jobs.proofs.run_job.count_results.Goals as goal

pub layout-requires : goal.layout-requires
layout-requires c =
    let items = c.deref-item-items.result.now in
    let found : slice_get items c.loop-item.item-index ≡ Some
    (get_or items c.loop-item.item-index 0) = slice_get-get_or items c.loop-item.item-index 0 c.loop-item-test.true in
    c.requires.below c.loop-item.item-index _ (ap (λ xs. slice_get xs c.loop-item.item-index) (sym c.deref-item-items.ensures.value) ∙ found)

pub columns-count-requires : goal.columns-count-requires
columns-count-requires c =
    let s = st_func_tree c.args.s.now in
    let items = c.deref-item-items.result.now in
    let found : slice_get items c.loop-item.item-index ≡ Some
    (get_or items c.loop-item.item-index 0) = slice_get-get_or items c.loop-item.item-index 0 c.loop-item-test.true in
    let own = ap (λ xs. slice_get xs c.loop-item.item-index) (sym c.deref-item-items.ensures.value) ∙ found in
    subst IsInSize (sym c.layout.ensures) (c.requires.sized c.loop-item.item-index _
    (get_mapped (item_layout (item_layouts s)) s.results c.loop-item.item-index _ own))

pub loop-item-preserved : goal.loop-item-preserved
loop-item-preserved c =
    let s = st_func_tree c.args.s.now in
    let more = items_next (item_layout (item_layouts s)) c.deref-item-items.result.now c.loop-item.item-index c.loop-item.count c.columns-count.result
    c.loop-item-test.true
    (c.columns-count.ensures.is ∙ ap columns_of c.layout.ensures) c.columns-count.ensures.few c.loop-item.invariant.count c.loop-item.invariant.few in
    record { items = c.deref-item-items.ensures.value; count = more.0; few = more.1 }

pub returns-clause-is : goal.returns-clause-is
returns-clause-is c =
    let s = st_func_tree c.args.s.now in
    let whole = take_all c.loop-item.item-index c.deref-item-items.result.now c.loop-item-test.false ∙ c.deref-item-items.ensures.value in
    c.loop-item.invariant.count ∙ ap (λ xs. sum_by columns_of (map (item_layout (item_layouts s)) xs)) whole

pub returns-clause-few : goal.returns-clause-few
returns-clause-few c =
    let s = st_func_tree c.args.s.now in
    omega (
      arith,
      c.loop-item.invariant.few,
      c.requires.few,
      length-map s.results (item_layout (item_layouts s)),
      ap length c.deref-item-items.ensures.value,
      c.loop-item.auto.item-index-end,
    )
