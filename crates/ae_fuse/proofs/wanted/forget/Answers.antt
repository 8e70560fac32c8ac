use Rattle.std.proofs.Common.{arith}
use Rattle.ae_fuse.proofs.WantedSteps.{keep-set}
use Rattle.ae_fuse.proofs.wanted.forget.Goals as goal

pub returns-then-saturating_sub-j : goal.returns-then-saturating_sub-j
returns-then-saturating_sub-j c =
    keep-set c.args.last.now c.args.j c.args.item c.new.result c.args.labels.now.items (omega (arith, c.if-saturating_sub-j.true, c.saturating_sub.ensures))
