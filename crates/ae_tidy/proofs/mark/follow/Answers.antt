-- Each turn follows one net of the line.
use Rattle.std.proofs.Common.{arith}
use Rattle.ae_tidy.proofs.Marking.{followed_all, rooted_stay}
use Rattle.ae_tidy.proofs.mark.follow.Goals as goal

pub loop-k-preserved : goal.loop-k-preserved
loop-k-preserved c = record {
  rooted = rooted_stay c.args.nl.now _ _ _ _ c.in_ok-follow_one.ensures.grows c.loop-k.invariant.rooted;
  followed = c.in_ok-follow_one.ensures.followed;
  needed = c.in_ok-follow_one.ensures.needed;
  within = omega (arith, c.in_ok-follow_one.ensures.grows.more_wait);
}

pub loop-k-smaller : goal.loop-k-smaller
loop-k-smaller c = omega (arith, c.in_ok-follow_one.ensures.grows.more_wait, c.in_ok-follow_one.ensures.grows.once)

pub returns-clause-marked : goal.returns-clause-marked
returns-clause-marked c =
    record {
      rooted = c.loop-k.invariant.rooted;
      reads = followed_all c.args.nl.now.cells c.loop-k.keep.items c.loop-k.line.items c.loop-k.k
          c.loop-k.invariant.followed (omega arith);
    }

pub returns-clause-needed : goal.returns-clause-needed
returns-clause-needed c = c.loop-k.invariant.needed.kept
