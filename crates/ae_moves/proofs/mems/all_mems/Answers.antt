use Rattle.std.proofs.Common.{ℕ, ◌<◌, ◌≤◌, ◌∙◌, arith, length, None, get_or}
use Rattle.std.proofs.lemmas.List.{get_or_read}
use Rattle.ae_moves.specs.Trees.{trip_trees}
use Rattle.ae_moves.specs.Rings.{column_mems}
use Rattle.ae_moves.specs.Usages.{usage_mems}
use Rattle.ae_moves.proofs.Held.{mems_is, mems_more, few_mems}
use Rattle.ae_moves.proofs.mems.all_mems.Goals as goal

pub loop-q-preserved : goal.loop-q-preserved
loop-q-preserved c =
    let q : ℕ = c.loop-q.q in
    let age : ℕ = get_or c.args.ages.now q 0 in
    let in' : q < length c.in_ok-usages.usages.items = omega (arith, c.in_ok-usages.ensures.long, c.loop-q-test.true) in
    let usage = get_or_read c.in_ok-usages.usages.items q c.index.result.now in' c.index.ensures None ∙ c.in_ok-usages.ensures.each q c.loop-q-test.true in
    let is = mems_is c.args.period c.args.d q (trip_trees c.args.trips.now) c.index.result.now age usage (c.requires.ages.each q c.loop-q-test.true) in
    let few : usage_mems c.index.result.now age ≤ 1048577 = few_mems c.index.result.now age (omega (arith, c.type_inv.ages q)) in
    record {
      is = mems_more (λ p. column_mems c.args.period c.args.d p (trip_trees c.args.trips.now)) c.loop-q.sum q c.from-sum.result c.loop-q.invariant.is
          (c.from-sum.ensures ∙ (c.column_mems.ensures ∙ is));
      small = omega (arith, c.loop-q.invariant.small, c.from-sum.ensures, c.column_mems.ensures, few);
    }
