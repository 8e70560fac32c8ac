use Rattle.std.proofs.Common.{inl, rules}
use Rattle.table_circuits.proofs.nets.address.Goals as goal

pub returns : goal.returns
returns c = record { net = c.in-Some.ensures; inside = inl (rw c.width_at.ensures at (rw c.bits-width.ensures.is at (c.has_room.ensures (search rules)))) }
