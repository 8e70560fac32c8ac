use Rattle.std.proofs.Common.{ℕ, ◌≡◌, ◌<◌, map, Some, slice_get}
use Rattle.ae_sttype.specs.StTree.{StTree, st_tree, time}
use Rattle.ae_sttype.specs.Size.{IsInSize}
use Rattle.ae_moves.proofs.origins.take_time.Given as goal

abbrev pub invariant-loop-k : goal.invariant-loop-k
invariant-loop-k l = (i : ℕ) (s : StTree) → i < l.k → slice_get (map st_tree l.ins) i ≡ Some s → IsInSize s × (time s ≡ l.clocks)
