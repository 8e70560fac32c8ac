-- A word beside the bit that chooses.
use Rattle.std.proofs.Common.{arith}
use Rattle.ae_gates.proofs.Adding.{adds_trans, grows_trans}
use Rattle.ae_netlist.proofs.Growing.{net_later}
use Rattle.ae_columns.proofs.Choosing.{columns_by}
use Rattle.ae_columns.proofs.choices.choose_by.Goals as goal

pub returns-clause-adds : goal.returns-clause-adds
returns-clause-adds c = adds_trans c.in_ok-taken.ensures.adds c.in_ok-y.ensures.adds

pub choose-requires-clause-condition : goal.choose-requires-clause-condition
choose-requires-clause-condition c = net_later c.in_ok-taken.ensures.adds.grows.extends c.requires.early

pub choose-requires-clause-right : goal.choose-requires-clause-right
choose-requires-clause-right c = c.in_ok-taken.ensures.source.net

pub choose-requires-clause-left : goal.choose-requires-clause-left
choose-requires-clause-left c = net_later c.in_ok-taken.ensures.adds.grows.extends c.requires.before

pub returns-clause-column : goal.returns-clause-column
returns-clause-column c =
    let g = grows_trans c.in_ok-taken.ensures.adds.grows c.in_ok-y.ensures.adds.grows in
    columns_by _ _ _ _ _ c.args.ins.now c.args.step.now c.args.before c.args.early c.in_ok-taken.taken _ _
    g.extends c.in_ok-y.ensures.adds.grows.extends c.in_ok-taken.ensures.source c.in_ok-y.ensures.net c.in_ok-y.ensures.words

pub choose-requires-clause-room : goal.choose-requires-clause-room
choose-requires-clause-room c = omega (arith, c.requires.room, c.in_ok-taken.ensures.adds.cells, c.in_ok-taken.ensures.adds.grows.limit)
