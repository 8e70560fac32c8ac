use Rattle.std.proofs.Common.{arith}
use Rattle.table_stages.proofs.Sizes.{gather_small}
use Rattle.table_stages.proofs.cases.moved.Goals as goal

pub returns-clause-small : goal.returns-clause-small
returns-clause-small c =
    gather_small _ _ c.new-found.ensures.some c.new-found.ensures.is
    (rw (c.in_ok-push.ensures.items, c.new-ins.ensures.items, c.in_ok-layout.ensures) (omega (arith, c.requires.few)))
    c.requires.out
