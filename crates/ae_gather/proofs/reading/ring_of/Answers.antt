use Rattle.std.proofs.Common.{◌≡◌, arith, true, rules}
use Rattle.ae_gather.proofs.reading.ring_of.Goals as goal

pub make_ring-requires-clause-room : goal.make_ring-requires-clause-room
make_ring-requires-clause-room c =
    let one : c.args.has ≡ true = search rules in
    let room = rw one at c.requires.room in
    omega (arith, room)
