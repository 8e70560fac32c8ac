use Rattle.ae_rewrite.proofs.Divisors.{Searches}
use Rattle.ae_rewrite.proofs.cases.divisor.Given as goal

abbrev pub invariant-loop-d : goal.invariant-loop-d
invariant-loop-d l = Searches l.n l.m l.d

abbrev pub decreases-loop-d : goal.decreases-loop-d
decreases-loop-d l = l.d
