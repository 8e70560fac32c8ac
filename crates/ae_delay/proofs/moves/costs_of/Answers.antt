use Rattle.std.proofs.Common.{◌≡◌, ◌∙◌, map, ap}
use Rattle.ae_sttype.specs.StTree.{st_tree}
use Rattle.ae_moves.specs.Trees.{origin_tree}
use Rattle.ae_delay.specs.Moving.{op_move}
use Rattle.ae_delay.proofs.Sourced.{op_is_move}
use Rattle.ae_delay.proofs.moves.costs_of.Goals as goal

pub costs-requires-clause-moves : goal.costs-requires-clause-moves
costs-requires-clause-moves c =
    let e : map origin_tree c.deref.result.now ≡ (op_move c.args.how (st_tree c.args.arg.now) (st_tree c.args.out.now)).origins = ap
    (map origin_tree) c.deref.ensures.value ∙ c.in_ok-source.ensures in
    rw (c.from_ref.ensures.value, e) (op_is_move c.args.how (st_tree c.args.arg.now)
    (st_tree c.args.out.now) c.requires.arg c.requires.out c.requires.time c.requires.atom c.requires.from)

pub returns-clause-costs : goal.returns-clause-costs
returns-clause-costs c =
    let e : map origin_tree c.deref.result.now ≡ (op_move c.args.how (st_tree c.args.arg.now) (st_tree c.args.out.now)).origins = ap
    (map origin_tree) c.deref.ensures.value ∙ c.in_ok-source.ensures in
    rw (c.from_ref.ensures.value, e) at c.costs.ensures.costs
