use Rattle.std.proofs.Common.{ℕ, ◌<◌, ◌∙◌, arith, length, None}
use Rattle.std.proofs.lemmas.List.{get_or_read}
use Rattle.ae_moves.specs.Trees.{trip_trees}
use Rattle.ae_moves.proofs.Held.{registers_more}
use Rattle.ae_moves.proofs.mems.most_registers.Goals as goal

pub loop-q-preserved : goal.loop-q-preserved
loop-q-preserved c =
    let q : ℕ = c.loop-q.q in
    let in' : q < length c.in_ok-usages.usages.items = omega (arith, c.loop-q-test.true, c.len-q-end.ensures) in
    let low : q < c.args.ins = omega (arith, in', c.in_ok-usages.ensures.long) in
    let usage = get_or_read c.in_ok-usages.usages.items q c.index.result.now in' c.index.ensures None ∙ c.in_ok-usages.ensures.each q low in
    record {
      is = registers_more c.args.period c.args.d q _ c.loop-q.sum (trip_trees c.args.trips.now) c.index.result.now usage c.usage_registers-sum.ensures.is
          c.loop-q.invariant.is;
      small = omega (arith, c.loop-q.invariant.small, c.usage_registers-sum.ensures.few);
    }
