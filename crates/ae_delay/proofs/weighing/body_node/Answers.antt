use Rattle.std.proofs.Common.{ap, ◌∙◌}
use Rattle.ae_delay.specs.OwnCosts.{body_costs}
use Rattle.ae_delay.proofs.Items.{heavy_body, known_as, known_heavy, known_same, some_known}
use Rattle.ae_delay.proofs.weighing.body_node.Goals as goal

pub body_costs-requires-clause-bounded : goal.body_costs-requires-clause-bounded
body_costs-requires-clause-bounded c =
    (some_known c.args.known.now c.requires.known.0 c.args.k c.in-Some.costs c.requires.known.1 c.requires.there c.in-Some.is).0

pub body_costs-requires-clause-light : goal.body_costs-requires-clause-light
body_costs-requires-clause-light c =
    (some_known c.args.known.now c.requires.known.0 c.args.k c.in-Some.costs c.requires.known.1 c.requires.there c.in-Some.is).1

pub returns-in-None : goal.returns-in-None
returns-in-None c =
    λ costs x known found. heavy_body c.args.copies x c.requires.some (known_heavy c.args.known.now costs c.args.k x known c.requires.there c.in-None.is found)

pub returns-in-Some : goal.returns-in-Some
returns-in-Some c = λ costs x known found.
    known_as c.light.result c.body_costs.result (body_costs c.args.copies x)
    (c.body_costs.ensures.costs ∙ ap (body_costs c.args.copies)
    (known_same c.args.known.now costs c.args.k c.in-Some.costs x known c.requires.there c.in-Some.is found))
    c.light.ensures
