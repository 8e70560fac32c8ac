use Rattle.std.proofs.Common.{◌≡◌, rules, length}
use Rattle.ae_delay.proofs.Items.{node_at}
use Rattle.ae_delay.proofs.uses.layout.Goals as goal

pub returns-else-item-ins : goal.returns-else-item-ins
returns-else-item-ins c =
    let ins : c.len-ins.result ≡ length c.args.s.now.ins.items = search (rules) in
    node_at c.args.s.now c.args.item c.len-ins.result c.index-else-item-ins.result.now ins c.if-item-ins.false c.requires c.index-else-item-ins.ensures
