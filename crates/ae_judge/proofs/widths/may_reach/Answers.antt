use Rattle.std.proofs.Common.{arith}
use Rattle.ae_judge.proofs.Wide.{reach_both}
use Rattle.ae_judge.proofs.widths.may_reach.Goals as goal

pub returns-then-index_width-ge32 : goal.returns-then-index_width-ge32
returns-then-index_width-ge32 c = λ w e. reach_both c.args.depth c.args.index_width w (omega arith) c.if-index_width-ge32.true e
