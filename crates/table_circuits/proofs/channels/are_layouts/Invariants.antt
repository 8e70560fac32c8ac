use Rattle.std.proofs.Common.{ℕ, ◌≡◌, ◌<◌, Some, slice_get}
use Rattle.ae_sttype.specs.declared.st_type.StType.{StType}
use Rattle.ae_sttype.specs.StTree.{st_tree, time}
use Rattle.ae_sttype.specs.Size.{IsInSize}
use Rattle.table_circuits.proofs.channels.are_layouts.Given as goal

abbrev pub invariant-loop-k : goal.invariant-loop-k
invariant-loop-k l =
    (k : ℕ) (layout : StType) → k < l.k → slice_get l.layouts k ≡ Some layout → IsInSize (st_tree layout) × (time (st_tree layout) ≡ l.slowdown)
