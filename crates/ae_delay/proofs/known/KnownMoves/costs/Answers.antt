use Rattle.ae_sttype.specs.StTree.{st_tree}
use Rattle.ae_delay.proofs.AlikeMoves.{small_op}
use Rattle.ae_delay.proofs.known.KnownMoves.costs.Goals as goal

pub returns-in-Some-clause-costs : goal.returns-in-Some-clause-costs
returns-in-Some-clause-costs c = c.find.ensures c.in-Some.costs c.in-Some.is

pub returns-in-Some-clause-small : goal.returns-in-Some-clause-small
returns-in-Some-clause-small c =
    small_op c.args.how (st_tree c.args.arg.now) (st_tree c.args.out.now) c.in-Some.costs c.requires.arg c.requires.out c.requires.time c.requires.atom
    c.requires.from
    (c.find.ensures c.in-Some.costs c.in-Some.is)
