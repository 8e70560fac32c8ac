use Rattle.std.proofs.Common.{◌≡◌, map}
use Rattle.std.specs.List.{range_with_len}
use Rattle.ae_sttype.specs.StTree.{st_tree}
use Rattle.ae_moves.specs.Trees.{origin_tree}
use Rattle.ae_delay.specs.Moving.{origin_number}
use Rattle.ae_delay.proofs.moves.origins.Given as goal

abbrev pub invariant-loop-o : goal.invariant-loop-o
invariant-loop-o l = map origin_tree l.origins.items ≡ map (origin_number l.how (st_tree l.arg) (st_tree l.out)) (range_with_len 0 l.o)
