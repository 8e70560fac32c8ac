use Rattle.std.proofs.Common.{◌≡◌, ◌∙◌, List, length, map, sum_by, ap, sym, subst, arith}
use Rattle.std.proofs.lemmas.List.{length-map}
use Rattle.ae_moves.specs.Origins.{Move}
use Rattle.ae_rewrite.specs.StProgramTree.{st_trees}
use Rattle.ae_sttype.specs.Moves.{greatest}
use Rattle.ae_fuse.specs.Costing.{moves_latency, result_load, result_mems}
use Rattle.ae_results.specs.Results.{AreLight, own_latency, own_load, own_mems}
use Rattle.ae_results.specs.Results.{result_move}
use Rattle.ae_fuse.proofs.WholeSteps.{all-light, latency-same, latest-few, load-same, mems-same, own-costs}
use Rattle.ae_fuse.proofs.results.together.Goals as goal

pub whole_load-load-requires-clause-few : goal.whole_load-load-requires-clause-few
whole_load-load-requires-clause-few c =
    omega (
      arith,
      ap length c.deref-2.ensures.value,
      c.in_ok-costs.ensures.long,
      length-map c.args.moves.now (result_move (st_trees c.args.ins.now)),
      c.requires.few_moves,
    )

pub whole_load-load-requires-clause-whole : goal.whole_load-load-requires-clause-whole
whole_load-load-requires-clause-whole c =
    let light = all-light _ c.in_ok-costs.costs.items c.in_ok-costs.ensures in
    let few = latest-few 0 c.in_ok-costs.costs.items (omega arith) light in
    let is = c.latest_result-latency.ensures ∙ ap (greatest own_latency) c.deref.ensures.value in
    omega (arith, few, is)

pub whole_load-load-requires-clause-light : goal.whole_load-load-requires-clause-light
whole_load-load-requires-clause-light c = subst AreLight (sym c.deref-2.ensures.value) (all-light _ c.in_ok-costs.costs.items c.in_ok-costs.ensures)

pub whole_mems-mems-requires-clause-few : goal.whole_mems-mems-requires-clause-few
whole_mems-mems-requires-clause-few c =
    omega (
      arith,
      ap length c.deref-3.ensures.value,
      c.in_ok-costs.ensures.long,
      length-map c.args.moves.now (result_move (st_trees c.args.ins.now)),
      c.requires.few_moves,
    )

pub whole_mems-mems-requires-clause-whole : goal.whole_mems-mems-requires-clause-whole
whole_mems-mems-requires-clause-whole c =
    let light = all-light _ c.in_ok-costs.costs.items c.in_ok-costs.ensures in
    let few = latest-few 0 c.in_ok-costs.costs.items (omega arith) light in
    let is = c.latest_result-latency.ensures ∙ ap (greatest own_latency) c.deref.ensures.value in
    omega (arith, few, is)

pub whole_mems-mems-requires-clause-light : goal.whole_mems-mems-requires-clause-light
whole_mems-mems-requires-clause-light c = subst AreLight (sym c.deref-3.ensures.value) (all-light _ c.in_ok-costs.costs.items c.in_ok-costs.ensures)

pub returns : goal.returns
returns c =
    let cs = c.in_ok-costs.costs.items in
    let ms : List Move = map (result_move (st_trees c.args.ins.now)) c.args.moves.now in
    let own = c.in_ok-costs.ensures in
    let whole = c.latest_result-latency.result in
    let latency : whole ≡ moves_latency ms = c.latest_result-latency.ensures ∙ ap (greatest own_latency) c.deref.ensures.value ∙ latency-same ms cs own in
    let load : c.whole_load-load.result ≡ sum_by (result_load (moves_latency ms)) ms =
    c.whole_load-load.ensures ∙ ap (sum_by (own_load whole)) c.deref-2.ensures.value ∙ load-same whole ms cs own ∙
    ap (λ n. sum_by (result_load n) ms) latency in
    let mems : c.whole_mems-mems.result ≡ sum_by (result_mems (moves_latency ms)) ms =
    c.whole_mems-mems.ensures ∙ ap (sum_by (own_mems whole)) c.deref-3.ensures.value ∙ mems-same whole ms cs own ∙
    ap (λ n. sum_by (result_mems n) ms) latency in
    own-costs whole c.whole_load-load.result c.whole_mems-mems.result ms latency load mems
