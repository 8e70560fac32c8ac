use Rattle.std.proofs.Common.{map}
use Rattle.ae_order.specs.Drives.{IsFlat}
use Rattle.ae_order.specs.Drives.{value_tree}
use Rattle.ae_order.proofs.order.graph_of.Given as goal

abbrev pub invariant-value : goal.invariant-value
invariant-value l = IsFlat l.names.nets (map (value_tree l.names.words) l.values) l.place l.starts.items l.targets.items
