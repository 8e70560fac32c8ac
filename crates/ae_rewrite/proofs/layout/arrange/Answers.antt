use Rattle.std.proofs.Common.{arith}
use Rattle.ae_rewrite.proofs.Applies.{folded_below}
use Rattle.ae_rewrite.proofs.layout.arrange.Goals as goal

pub overflow_sub-clocks-in-Folded : goal.overflow_sub-clocks-in-Folded
overflow_sub-clocks-in-Folded c = omega (arith, (folded_below c.args.n c.args.clocks c.in-Folded.d c.requires.time (rw c.in-Folded.is at c.requires.case)).1)
