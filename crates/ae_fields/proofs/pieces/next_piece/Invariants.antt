use Rattle.std.proofs.Common.{length, ◌-◌, ◌≡◌, ◌≤◌, take, drop}
use Rattle.ae_fields.specs.Cut.{pieces, put_all}
use Rattle.ae_fields.proofs.pieces.next_piece.Given as goal

abbrev pub invariant-loop-end : goal.invariant-loop-end
invariant-loop-end l = (l.end ≤ length l.bytes) × (pieces l.mark l.bytes ≡ put_all (take l.end l.bytes) (pieces l.mark (drop l.end l.bytes)))

abbrev pub decreases-loop-end : goal.decreases-loop-end
decreases-loop-end l = length l.bytes - l.end
