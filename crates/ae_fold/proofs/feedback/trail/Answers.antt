-- One register more.
use Rattle.std.proofs.Common.{arith}
use Rattle.ae_gates.proofs.Adding.{adds_none, adds_trans}
use Rattle.ae_fold.proofs.Feeding.{trail_more, trail_none}
use Rattle.ae_fold.proofs.feedback.trail.Goals as goal

pub loop-i-init : goal.loop-i-init
loop-i-init c = record { adds = adds_none _; net = c.requires.net; words = trail_none _ _ }

pub loop-i-preserved : goal.loop-i-preserved
loop-i-preserved c =
    let old = c.loop-i.invariant in
    let more = c.in_ok-last.ensures in
    record {
      adds = adds_trans old.adds more.adds;
      net = more.net;
      words = trail_more _ _ _ _ _ _ _ old.adds.grows more.adds.grows old.words more.words;
    }

pub delayed-requires-clause-room : goal.delayed-requires-clause-room
delayed-requires-clause-room c = omega (arith, c.requires.room, c.loop-i.invariant.adds.cells, c.loop-i.invariant.adds.grows.limit)
