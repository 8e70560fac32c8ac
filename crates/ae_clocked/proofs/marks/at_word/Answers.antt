-- The nets of a comparison, one after another, and what they hold.
use Rattle.ae_netlist.proofs.Carried.{carries_later}
use Rattle.ae_gates.proofs.Added.{grows_length, back}
use Rattle.ae_clocked.proofs.Marked.{at_word_is}
use Rattle.std.proofs.Common.{arith}
use Rattle.ae_gates.proofs.Adding.{adds_trans, net_added}
use Rattle.ae_clocked.proofs.marks.at_word.Goals as goal

pub returns-clause-words : goal.returns-clause-words
returns-clause-words c = λ all k2 run is t l.
    let k1 = back c.in_ok-at.ensures.adds.grows k2 in
    let l1 = grows_length c.in_ok-bound.ensures.adds.grows in
    at_word_is _ c.args.word _ _
    (rw c.from.ensures at (c.in_ok-bound.ensures.words all k1 run is t l))
    (c.in_ok-at.ensures.words all (carries_later _ _ l1 k2) run is t l)

pub constant-requires-clause-fits : goal.constant-requires-clause-fits
constant-requires-clause-fits c = rw c.from.ensures c.requires.fits

pub equal-requires-clause-left : goal.equal-requires-clause-left
equal-requires-clause-left c = net_added c.in_ok-bound.ensures.adds c.requires.net

pub equal-requires-clause-right : goal.equal-requires-clause-right
equal-requires-clause-right c = c.in_ok-bound.ensures.net

pub returns-clause-net : goal.returns-clause-net
returns-clause-net c = c.in_ok-at.ensures.net

pub returns-clause-adds : goal.returns-clause-adds
returns-clause-adds c = adds_trans c.in_ok-bound.ensures.adds c.in_ok-at.ensures.adds

pub returns-clause-registers : goal.returns-clause-registers
returns-clause-registers c = omega (arith, c.in_ok-bound.ensures.registers, c.in_ok-at.ensures.registers)

pub returns-clause-tests : goal.returns-clause-tests
returns-clause-tests c = omega (arith, c.in_ok-bound.ensures.tests, c.in_ok-at.ensures.tests)

pub equal-requires-clause-room : goal.equal-requires-clause-room
equal-requires-clause-room c = omega (arith, c.requires.room, c.in_ok-bound.ensures.adds.cells, c.in_ok-bound.ensures.adds.grows.limit)
