use Rattle.std.proofs.Common.{◌∙◌, sym, refl, rules}
use Rattle.ae_gates.proofs.Added.{own_net}
use Rattle.table_circuits.proofs.There.{net_there}
use Rattle.table_circuits.proofs.nets.any_net.Goals as goal

pub returns : goal.returns
returns c =
    own_net (net_there c.args.nl.now.cells c.args.number c.in-Some.sized.width c.in-Some.sized (sym c.sized.ensures ∙ c.in-Some.is) refl
    (c.is_plain.ensures (search rules)))
