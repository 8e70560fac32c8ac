use Rattle.std.proofs.Common.{ap, sym, ◌∙◌}
use Rattle.ae_sttype.specs.StTree.{st_tree}
use Rattle.ae_layout.specs.Standing.{standing}
use Rattle.ae_layout.proofs.Standing.{element_is, stands_below}
use Rattle.ae_layout.proofs.row.standing.Goals as goal

pub returns-in-Some-clause-is : goal.returns-in-Some-clause-is
returns-in-Some-clause-is c =
    element_is (st_tree c.args.s.now) c.in-Some.c c.args.lane c.element.result c.element.ensures ∙
    ap (λ o. standing (st_tree c.args.s.now) o c.args.lane) (sym c.in-Some.is)

pub returns-in-Some-clause-below : goal.returns-in-Some-clause-below
returns-in-Some-clause-below c = λ e is. stands_below (st_tree c.args.s.now) c.in-Some.c c.args.lane e c.element.result c.element.ensures is
