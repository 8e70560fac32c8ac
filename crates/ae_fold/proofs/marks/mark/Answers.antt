-- The mark of the first slot, and a counter that turns with the same reset.
use Rattle.std.proofs.Common.{arith, ◌≡◌, rules}
use Rattle.ae_netlist.proofs.Growing.{extends_trans, net_later}
use Rattle.ae_fold.specs.Rows.{wait_of}
use Rattle.ae_fold.proofs.marks.mark.Goals as goal

pub returns-in_ok-ring-clause-marks : goal.returns-in_ok-ring-clause-marks
returns-in_ok-ring-clause-marks c = record {
  many = omega arith;
  net = net_later c.in_ok-ring.ensures.adds.grows.extends c.in_ok-first.ensures.net;
  words = λ all e run r. c.in_ok-first.ensures.words all (extends_trans c.in_ok-ring.ensures.adds.grows.extends e) run r;
  place = c.in_ok-ring.ensures.place;
  turns = rw c.in_ok-first.ensures.keeps.rst at c.in_ok-ring.ensures.turns;
}

pub lead-requires-clause-room : goal.lead-requires-clause-room
lead-requires-clause-room c =
    let many : wait_of c.args.plan.slots ≡ 1 = search rules in
    omega (arith, c.requires.room, many)

pub place-requires-clause-room : goal.place-requires-clause-room
place-requires-clause-room c =
    let many : wait_of c.args.plan.slots ≡ 1 = search rules in
    omega (arith, c.requires.room, many, c.in_ok-first.ensures.adds.cells, c.in_ok-first.ensures.adds.grows.limit)
