use Rattle.std.proofs.Common.{Some, map, set, ap, ◌∙◌}
use Rattle.std.proofs.lemmas.List.{map-set}
use Rattle.ae_order.proofs.Answered.{on_ok_map}
use Rattle.ae_assign.specs.Assigned.{next_of}
use Rattle.ae_assign.proofs.nexts.Nexts.set.Goals as goal

pub returns-clause-ok : goal.returns-clause-ok
returns-clause-ok c =
    on_ok_map c.set.result
    (λ h. ap (map next_of) h ∙ map-set next_of c.self.inside.assigned c.args.place (Some c.args.next)
    ∙ ap (λ ks. set ks c.args.place c.args.next) c.self.view_is)
    c.set.ensures.ok
