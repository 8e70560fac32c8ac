use Rattle.std.proofs.Common.{◌≡◌, List, Some, slice_get, length, map, sym, subst, arith, refl}
use Rattle.std.proofs.lemmas.List.{length-map, take_all}
use Rattle.std.proofs.lemmas.Option.{slice_get_read}
use Rattle.ae_sttype.specs.StTree.{st_tree}
use Rattle.ae_moves.specs.declared.trip.Origin.{Origin}
use Rattle.ae_moves.specs.Trees.{origin_tree}
use Rattle.ae_moves.specs.Origins.{IsMove, Move}
use Rattle.ae_moves.proofs.Lists.{get_mapped}
use Rattle.ae_rewrite.specs.StProgramTree.{st_trees}
use Rattle.ae_results.specs.Results.{AreCostsOf}
use Rattle.ae_results.specs.Results.{AreAllCosts, result_move}
use Rattle.ae_fuse.proofs.ResultSteps.{a_move, costs-next, costs-none}
use Rattle.ae_fuse.proofs.results.all_costs.Goals as goal

pub result_costs-requires-clause-moves : goal.result_costs-requires-clause-moves
result_costs-requires-clause-moves c =
    let k = c.loop-k.k in
    let rs = c.args.moves.now in
    let r = c.index-moves-k.result in
    let found : slice_get rs k ≡ Some r = slice_get_read rs (length rs) k r refl (omega arith) c.index-moves-k.is in
    subst (λ (os : List Origin). IsMove (a_move (st_trees c.args.ins.now) (st_tree r.out) (map origin_tree os))) (sym c.deref.ensures.value)
    (c.requires.moves k r found)

pub loop-k-init : goal.loop-k-init
loop-k-init c = record { costs = rw c.new-costs.ensures.items costs-none; within = omega arith }

pub loop-k-preserved : goal.loop-k-preserved
loop-k-preserved c =
    let k = c.loop-k.k in
    let rs = c.args.moves.now in
    let r = c.index-moves-k.result in
    let ins = st_trees c.args.ins.now in
    let found : slice_get rs k ≡ Some r = slice_get_read rs (length rs) k r refl (omega arith) c.index-moves-k.is in
    let there : slice_get (map (result_move ins) rs) k ≡ Some (result_move ins r) = get_mapped (result_move ins) rs k r found in
    let own : AreCostsOf (result_move ins r) c.in_ok-cost.cost = subst
    (λ (os : List Origin). AreCostsOf (a_move ins (st_tree r.out) (map origin_tree os)) c.in_ok-cost.cost) c.deref.ensures.value c.in_ok-cost.ensures in
    record {
      costs = rw c.in_ok-push.ensures.items (costs-next (map (result_move ins) rs) k
          (result_move ins r) c.loop-k.costs.items c.in_ok-cost.cost there c.loop-k.invariant.costs own);
      within = omega arith;
    }

pub returns : goal.returns
returns c =
    let ms : List Move = map (result_move (st_trees c.args.ins.now)) c.args.moves.now in
    subst (λ (xs : List Move). AreAllCosts xs c.loop-k.costs.items)
    (take_all c.loop-k.k ms (omega (
      arith,
      length-map c.args.moves.now (result_move (st_trees c.args.ins.now)),
      c.loop-k.invariant.within,
      c.loop-k-test.false,
    ))) c.loop-k.invariant.costs
