-- The register, and the product of its word with itself.
use Rattle.std.proofs.Common.{arith}
use Rattle.ae_gates.proofs.Adding.{adds_trans}
use Rattle.ae_ops.proofs.Squares.{squared}
use Rattle.ae_ops.proofs.square.square.Goals as goal

pub returns-clause-adds : goal.returns-clause-adds
returns-clause-adds c = adds_trans c.in_ok-held.ensures.adds c.in_ok-y.ensures.adds

pub returns-clause-words : goal.returns-clause-words
returns-clause-words c =
    squared c.args.nl.now c.delayed.new.nl c.compute.new.nl c.in_ok-y.y c.args.x c.in_ok-held.held c.args.width c.in_ok-held.ensures.words
    c.in_ok-y.ensures.adds c.in_ok-y.ensures.words

pub compute-requires-clause-room : goal.compute-requires-clause-room
compute-requires-clause-room c = omega (arith, c.requires.room, c.in_ok-held.ensures.adds.cells, c.in_ok-held.ensures.adds.grows.limit)
