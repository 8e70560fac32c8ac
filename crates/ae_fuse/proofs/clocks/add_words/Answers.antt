use Rattle.std.proofs.Common.{◌/◌, get_or, refl, arith}
use Rattle.ae_fuse.proofs.ClockSteps.{spread-more}
use Rattle.ae_fuse.proofs.clocks.add_words.Goals as goal

pub loop-o-preserved : goal.loop-o-preserved
loop-o-preserved c = record {
  clocks = rw c.in_ok-push.ensures.items (spread-more (λ o. get_or c.args.elements.now (o / c.args.words) 0) _ c.loop-o.clocks.items c.loop-o.o _
      c.loop-o.invariant.clocks refl);
  within = omega (arith, c.loop-o-test.true);
}
