use Rattle.std.proofs.Common.{ℕ, ◌≡◌, ◌<◌, ◌%◌, map, Some, slice_get}
use Rattle.ae_sttype.specs.StTree.{element_words, st_tree}
use Rattle.ae_sttype.specs.Moves.{OriginTree}
use Rattle.ae_moves.specs.Origins.{HasOrigin, width_at}
use Rattle.ae_moves.specs.Trees.{origin_tree}
use Rattle.ae_moves.proofs.origins.are_origins.Given as goal

abbrev pub invariant-loop-o : goal.invariant-loop-o
invariant-loop-o l =
    (n width : ℕ) (origin : OriginTree) → n < l.o → slice_get (map origin_tree l.source) n ≡ Some origin
    → width_at (st_tree l.out) (n % element_words (st_tree l.out)) ≡ Some width → HasOrigin (map st_tree l.ins) width origin
