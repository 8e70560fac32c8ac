-- Each turn adds one output more.
use Rattle.std.proofs.Common.{◌∙◌, ◌∷◌, ◌++◌, [], ap, sym, subst}
use Rattle.ae_netlist.specs.Circuit.{Circuit, IsNet, width_of}
use Rattle.ae_stall.proofs.Counted.{take_found}
use Rattle.ae_streamed.proofs.room.show.Goals as goal

pub add_output-requires-clause-net : goal.add_output-requires-clause-net
add_output-requires-clause-net c =
    subst (λ v. IsNet v c.outlet_at-outlet.result.net.0 (width_of v c.outlet_at-outlet.result.net.0)) (sym c.loop-k.invariant.cells)
    (c.formed.ensures.outlets.each c.loop-k.k c.outlet_at-outlet.result c.outlet_at-outlet.ensures)

pub loop-k-preserved : goal.loop-k-preserved
loop-k-preserved c = record {
  all = c.loop-k.invariant.all;
  cells = ap (λ (v : Circuit). v.cells) c.in_ok-add_output.ensures.ok ∙ c.loop-k.invariant.cells;
  limit = ap (λ (v : Circuit). v.limit) c.in_ok-add_output.ensures.ok ∙ c.loop-k.invariant.limit;
  outlets = ap (λ (v : Circuit). v.outlets) c.in_ok-add_output.ensures.ok
      ∙ (ap (λ v. v ++ c.outlet_at-outlet.result ∷ []) c.loop-k.invariant.outlets ∙
      sym (take_found c.args.nl.now.outlets c.loop-k.k c.outlet_at-outlet.result c.outlet_at-outlet.ensures));
}
