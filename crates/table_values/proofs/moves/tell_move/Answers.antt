use Rattle.std.proofs.Common.{refl}
use Rattle.ae_sttype.specs.StTree.{st_tree}
use Rattle.ae_moves.proofs.Words.{one_room}
use Rattle.table_values.proofs.moves.tell_move.Goals as goal

pub all_trips-requires-clause-room : goal.all_trips-requires-clause-room
all_trips-requires-clause-room c =
    let m = rw c.from_ref-ins.ensures.value at (c.is_move.ensures.0 c.if-not-is_move.false) in
    rw c.from_ref-ins.ensures.value (one_room (st_tree c.args.arg.now) (m.types 0 (st_tree c.args.arg.now) refl).0)
