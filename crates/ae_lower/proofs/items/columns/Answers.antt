-- No more than the lanes times the words of an element.
use Rattle.std.proofs.Common.{◌≡◌, ◌*◌, arith, refl}
use Rattle.ae_sttype.specs.StTree.{st_tree}
use Rattle.ae_sttype.specs.Moves.{columns_of}
use Rattle.ae_lower.proofs.items.columns.Goals as goal

pub returns : goal.returns
returns c =
    let e : c.lanes.result * c.element_words.result ≡ columns_of (st_tree c.args.ty.now) = rw (c.lanes.ensures, c.element_words.ensures) refl in
    omega (arith, e)
