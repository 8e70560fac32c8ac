use Rattle.ae_control.proofs.Queued.{HasSome}
use Rattle.ae_control.proofs.queues.columns.Given as goal

abbrev pub invariant-loop-k : goal.invariant-loop-k
invariant-loop-k l = HasSome l.fn.nl l.nl l.c l.made l.k
