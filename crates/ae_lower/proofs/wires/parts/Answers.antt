use Rattle.std.proofs.Common.{arith, refl}
use Rattle.ae_lower.proofs.Wiring.{parts_more, stretch_ends}
use Rattle.ae_lower.proofs.wires.parts.Goals as goal

pub loop-e-preserved : goal.loop-e-preserved
loop-e-preserved c =
    let ends = stretch_ends c.loop-e.e c.args.count c.args.k c.args.from c.args.l c.loop-e-test.true c.requires.inside in
    record {
      parts = rw (c.in_ok-extend_from_slice.ensures.items)
          (parts_more c.args.nets.now c.loop-e.out.items _ c.loop-e.e c.args.k c.args.from c.args.l refl
          (omega (arith, ends, c.requires.long)) c.loop-e.invariant.parts);
      within = omega (arith, c.loop-e-test.true);
    }
