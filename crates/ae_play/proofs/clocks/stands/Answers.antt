use Rattle.ae_sttype.specs.StTree.{st_tree}
use Rattle.ae_play.proofs.WordLines.{stands_by}
use Rattle.ae_play.proofs.clocks.stands.Goals as goal

pub returns-then-latency-clock : goal.returns-then-latency-clock
returns-then-latency-clock c =
    stands_by c.args.slowdown c.args.latency c.args.clock (st_tree c.args.s.now) c.live.result c.if-latency-clock.true
    (rw c.clocks.ensures.is at c.live.ensures.0) (rw c.clocks.ensures.is at c.live.ensures.1)
