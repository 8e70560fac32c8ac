-- The low bits at the width of their net.
use Rattle.std.proofs.Common.{refl}
use Rattle.ae_netlist.proofs.Growing.{net_width}
use Rattle.ae_columns.proofs.choices.low_bits.Goals as goal

pub operate-requires-clause-operation : goal.operate-requires-clause-operation
operate-requires-clause-operation c =
    let own = rw (← (net_width c.requires.net)) at c.requires.net in
    record { unsigned = refl; range = (c.requires.low, c.requires.high); operands = (own, own, own); result = refl }

pub returns-clause-words : goal.returns-clause-words
returns-clause-words c = c.in_ok-y.ensures.words
