use Rattle.std.proofs.Common.{◌≡◌, ◌≤◌, length, map, take}
use Rattle.ae_vmodule.specs.View.{net_tree}
use Rattle.ae_netlist.specs.declared.cell.Outlet.{Outlet}
use Rattle.ae_elab.specs.Declaring.{ArePlainOutlets, is_output, with_nets}
use Rattle.ae_elab.proofs.outputs.add_outputs.Given as goal

abbrev pub invariant-loop-place : goal.invariant-loop-place
invariant-loop-place l = record {
  cells : l.nl.cells ≡ l.fn.nl.cells;
  outlets : map (λ (o : Outlet). o.net.0) l.nl.outlets ≡ with_nets is_output (λ n x. n) (take l.place (map (net_tree l.m.words) l.m.nets.items))
      (take l.place l.nets);
  plain : ArePlainOutlets l.nl.outlets;
  few : length l.nl.outlets ≤ l.place;
}
