use Rattle.std.proofs.Common.{arith, refl}
use Rattle.ae_lower.proofs.Wiring.{pairs_more, stretch_ends}
use Rattle.ae_lower.proofs.wires.pairs.Goals as goal

pub loop-e-preserved : goal.loop-e-preserved
loop-e-preserved c =
    let one = stretch_ends c.loop-e.e c.args.count c.args.k 0 c.args.k c.loop-e-test.true (omega arith) in
    let two = stretch_ends c.loop-e.e c.args.count c.args.l 0 c.args.l c.loop-e-test.true (omega arith) in
    record {
      pairs = rw (c.in_ok-extend_from_slice-2.ensures.items, c.in_ok-extend_from_slice.ensures.items)
          (pairs_more c.args.first.now c.args.second.now c.loop-e.out.items _ _ c.loop-e.e c.args.k c.args.l refl refl (omega (arith, one, c.requires.first))
          (omega (arith, two, c.requires.second)) c.loop-e.invariant.pairs);
      within = omega (arith, c.loop-e-test.true);
    }
