use Rattle.std.proofs.Common.{sym}
use Rattle.std.proofs.Math.Nat.{add-mod}
use Rattle.ae_columns.proofs.phases.offset.Goals as goal

pub returns : goal.returns
returns c = sym (add-mod c.args.arrival c.args.d c.args.period)
