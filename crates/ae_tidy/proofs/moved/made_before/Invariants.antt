use Rattle.ae_tidy.proofs.Cutting.{AreBetween}
use Rattle.ae_tidy.proofs.moved.made_before.Given as goal

abbrev pub invariant-loop-count : goal.invariant-loop-count
invariant-loop-count l = AreBetween l.made l.from l.count l.mark
