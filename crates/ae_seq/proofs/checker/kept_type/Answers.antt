use Rattle.std.proofs.Common.{◌≤◌, length, refl}
use Rattle.std.proofs.lemmas.List.{length-map}
use Rattle.std.proofs.lemmas.Option.{slice_get_past}
use Rattle.ae_seq.specs.Trees.{items_of, types_of}
use Rattle.ae_seq.proofs.Types.{slice_get-view}
use Rattle.ae_seq.proofs.checker.kept_type.Goals as goal

pub returns-then-func-types : goal.returns-then-func-types
returns-then-func-types c =
    let over : length (types_of c.args.types.now) ≤ c.args.func = simp length-map c.if-func-types.true in
    rw (slice_get_past (types_of c.args.types.now) c.args.func over) refl

pub returns : goal.returns
returns c =
    let own = c.index-types-func.result in
    let t = slice_get-view items_of c.args.types.now c.args.func own c.if-func-types.false c.index-types-func.is in
    rw t (rw c.deref.ensures.value at c.item_type.ensures)
