use Rattle.std.proofs.Common.{◌≡◌, ◌∙◌, map}
use Rattle.ae_sttype.specs.StTree.{st_tree}
use Rattle.ae_sttype.specs.Moves.{fixed}
use Rattle.ae_moves.specs.Trees.{origin_tree}
use Rattle.ae_delay.proofs.Sourced.{all_fixed, constant_is_move}
use Rattle.ae_delay.proofs.moves.costs_of_words.Goals as goal

pub costs-requires-clause-moves : goal.costs-requires-clause-moves
costs-requires-clause-moves c =
    let e : map origin_tree c.deref.result.now ≡ map fixed c.args.words.now = all_fixed c.args.words.now c.deref.result.now
    (c.deref.ensures.value ∙ c.in_ok-source.ensures) in
    rw e (constant_is_move c.args.words.now (st_tree c.args.out.now) c.requires.out c.requires.fits)

pub returns-clause-costs : goal.returns-clause-costs
returns-clause-costs c =
    let e : map origin_tree c.deref.result.now ≡ map fixed c.args.words.now = all_fixed c.args.words.now c.deref.result.now
    (c.deref.ensures.value ∙ c.in_ok-source.ensures) in
    rw e at c.costs.ensures.costs
