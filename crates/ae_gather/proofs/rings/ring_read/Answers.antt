-- A read whose place may change.
use Rattle.std.proofs.Common.{arith}
use Rattle.ae_gates.proofs.Adding.{adds_trans}
use Rattle.ae_gather.proofs.Asked.{reader_made}
use Rattle.ae_gather.proofs.rings.ring_read.Goals as goal

pub returns-clause-reads : goal.returns-clause-reads
returns-clause-reads c =
    reader_made _ _ _ _ c.in_ok-y.y c.in_ok-at.at c.in_ok-word.word c.args.place c.args.ring.memory c.args.ring.counter c.args.ring.bits
    c.in_ok-at.ensures.adds.grows c.in_ok-word.ensures.adds.grows c.in_ok-y.ensures.adds.grows
    c.in_ok-at.ensures.words c.in_ok-word.ensures.words c.in_ok-y.ensures.words

pub returns-clause-adds : goal.returns-clause-adds
returns-clause-adds c = adds_trans (adds_trans c.in_ok-at.ensures.adds c.in_ok-word.ensures.adds) c.in_ok-y.ensures.adds

pub look-requires-clause-room : goal.look-requires-clause-room
look-requires-clause-room c = omega (arith, c.requires.room, c.in_ok-at.ensures.adds.cells, c.in_ok-at.ensures.adds.grows.limit)

pub delayed-requires-clause-room : goal.delayed-requires-clause-room
delayed-requires-clause-room c =
    omega (
      arith,
      c.requires.room,
      c.in_ok-at.ensures.adds.cells,
      c.in_ok-at.ensures.adds.grows.limit,
      c.in_ok-word.ensures.adds.cells,
      c.in_ok-word.ensures.adds.grows.limit,
    )
