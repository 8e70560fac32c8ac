-- A net is one of the leading ones, or else one of the others.
use Rattle.std.proofs.Common.{◌∙◌, ◌-◌, slice_get, ap, arith, sym}
use Rattle.ae_netlist.proofs.FirstNets.{net_behind, net_in_front}
use Rattle.ae_netlist.proofs.input_nets.InputNets.net.Goals as goal

pub returns-then-number-self : goal.returns-then-number-self
returns-then-number-self c = rw (← c.self.view_is)
    (sym (net_in_front c.self.inside.leading c.args.number c.self.inside.others.items (grind (arith, c.if-number-self.true))))

pub returns : goal.returns
returns c =
    rw (← c.self.view_is, net_behind c.self.inside.leading c.args.number c.self.inside.others.items (grind (arith, c.if-number-self.false)))
    (c.net_at.ensures ∙ ap (λ xs. slice_get xs (c.args.number - c.self.inside.leading)) c.deref.ensures.value)
