-- The gate of two bits.
use Rattle.ae_streamed.proofs.Bits.{and_bit, and_operation}
use Rattle.ae_netlist.specs.Circuit.{width_of}
use Rattle.ae_streamed.proofs.layouts.both.Goals as goal

pub operate-requires-clause-operation : goal.operate-requires-clause-operation
operate-requires-clause-operation c = and_operation c.args.nl.now.cells c.args.a c.args.b c.requires.left c.requires.right

pub returns-clause-told : goal.returns-clause-told
returns-clause-told c = λ rst f g p q.
    and_bit c.args.nl.now c.operate.new.nl rst c.args.a.0 c.args.b.0 c.in_ok-y.y.0
    (width_of c.args.nl.now.cells c.args.a.0) f g c.in_ok-y.ensures.adds.grows c.in_ok-y.ensures.net c.in_ok-y.ensures.words p q

pub returns-clause-adds : goal.returns-clause-adds
returns-clause-adds c = c.in_ok-y.ensures.adds
