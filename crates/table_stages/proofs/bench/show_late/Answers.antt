use Rattle.table_stages.proofs.Evenness.{even_nets, own_even, own_widths}
use Rattle.table_stages.proofs.bench.show_late.Goals as goal

pub delay-requires-clause-nets : goal.delay-requires-clause-nets
delay-requires-clause-nets c = own_even _ c.args.lanes c.args.width _ c.requires.nets

pub show-requires : goal.show-requires
show-requires c = rw c.nets.ensures (own_widths _ _ _ (c.in_ok-late.ensures.nets _ (even_nets _ c.args.lanes c.args.width _ c.requires.nets)))

pub delay-requires-clause-room : goal.delay-requires-clause-room
delay-requires-clause-room c = rw c.requires.nets.long c.requires.room
