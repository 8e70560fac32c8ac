use Rattle.std.proofs.Common.{◌≡◌, map, take}
use Rattle.ae_vmodule.specs.View.{module_tree, net_tree}
use Rattle.ae_elab.specs.Declaring.{AreDeclared}
use Rattle.ae_elab.proofs.declare.declare_nets.Given as goal

abbrev pub invariant-loop-net : goal.invariant-loop-net
invariant-loop-net l = record {
  declared : AreDeclared (module_tree l.m) (take l.net-index (map (net_tree l.m.words) l.m.nets.items)) l.nets.items l.nl.cells;
  limit : l.nl.limit ≡ l.fn.nl.limit;
  outlets : l.nl.outlets ≡ l.fn.nl.outlets;
}
