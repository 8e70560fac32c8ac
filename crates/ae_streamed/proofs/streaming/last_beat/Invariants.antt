use Rattle.std.proofs.Common.{map, take}
use Rattle.ae_sttype.specs.StTree.{st_tree}
use Rattle.ae_streamed.proofs.Last.{IsLastOf}
use Rattle.ae_streamed.proofs.streaming.last_beat.Given as goal

abbrev pub invariant-loop-k : goal.invariant-loop-k
invariant-loop-k l = IsLastOf (map st_tree (take l.k l.layouts)) l.last
