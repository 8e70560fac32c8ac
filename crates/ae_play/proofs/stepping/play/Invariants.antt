use Rattle.ae_play.proofs.Keeping.{KeepsTo}
use Rattle.ae_play.proofs.stepping.play.Given as goal

abbrev pub invariant-loop-clock : goal.invariant-loop-clock
invariant-loop-clock g l =
    KeepsTo l.fn.sim (g.S.Stimulus.given l.fn.stimulus) (g.M.Monitor.takes l.fn.monitor) l.fn.clocks l.fn.kept l.sim l.kept l.clock
    × g.M.Monitor.within l.fn.monitor l.clock l.kept
