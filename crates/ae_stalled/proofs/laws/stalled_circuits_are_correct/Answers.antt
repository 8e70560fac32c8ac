use Rattle.ae_stalled.proofs.Built.{stalled_correct}
use Rattle.ae_stalled.proofs.laws.stalled_circuits_are_correct.Goals as goal

pub returns : goal.returns
returns c lines p slowdown costs ins outs n stalled laid circuit still same other =
    stalled_correct lines p slowdown costs ins outs n stalled laid circuit still same other
