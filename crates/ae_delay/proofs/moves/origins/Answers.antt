use Rattle.std.proofs.Common.{arith}
use Rattle.ae_sttype.specs.StTree.{st_tree}
use Rattle.ae_sttype.proofs.Bounds.{atoms_below}
use Rattle.ae_delay.proofs.Sourced.{origins_more}
use Rattle.ae_delay.proofs.moves.origins.Goals as goal

pub origin-requires-clause-small : goal.origin-requires-clause-small
origin-requires-clause-small c = omega (arith, c.atoms-arg_atoms.ensures, atoms_below (st_tree c.args.arg.now) c.requires.arg)

pub loop-o-preserved : goal.loop-o-preserved
loop-o-preserved c =
    rw c.in_ok-push.ensures.items
    (origins_more c.args.how (st_tree c.args.arg.now) (st_tree c.args.out.now) c.loop-o.o _ _ _ c.loop-o.origins.items c.origin.result
    c.element_words-words.ensures c.atoms-arg_atoms.ensures c.atoms-out_atoms.ensures c.loop-o.invariant c.origin.ensures)
