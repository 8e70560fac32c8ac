-- Each turn adds the net of one output.
use Rattle.std.proofs.Common.{◌∷◌, ◌++◌, [], take, ap, sym, ◌∙◌}
use Rattle.ae_netlist.specs.declared.cell.Outlet.{Outlet}
use Rattle.ae_stall.specs.Images.{placed_net}
use Rattle.ae_streamed.specs.Between.{copied_nets}
use Rattle.ae_control.proofs.Cells.{next_first}
use Rattle.ae_streamed.proofs.wrapping.outlet_nets.Goals as goal
use Rattle.ae_gates.proofs.Added.{net_within}

pub placed-net-requires-clause-there : goal.placed-net-requires-clause-there
placed-net-requires-clause-there c = net_within (c.formed.ensures.outlets.each c.loop-k.k c.outlet_at-outlet.result c.outlet_at-outlet.ensures)

pub loop-k-preserved : goal.loop-k-preserved
loop-k-preserved c = record {
  all = c.loop-k.invariant.all;
  nets = c.in_ok-push.ensures.items
      ∙ (ap (λ v. v ++ c.placed-net.result ∷ []) c.loop-k.invariant.nets
      ∙ (ap (λ v. copied_nets (take c.loop-k.k c.args.nl.now.outlets) ++ v ∷ []) c.placed-net.ensures
      ∙ sym (next_first (λ (o : Outlet). placed_net 2 o.net) c.args.nl.now.outlets c.loop-k.k c.outlet_at-outlet.result c.outlet_at-outlet.ensures)));
}
