-- At first nothing is kept.
use Rattle.ae_tidy.proofs.Marking.{grows_trans, followed_first, none_kept}
use Rattle.ae_tidy.proofs.Needing.{needed_first, needed_more, only_trans}
use Rattle.ae_tidy.proofs.mark.mark.Goals as goal

pub follow-requires-clause-followed : goal.follow-requires-clause-followed
follow-requires-clause-followed c =
    followed_first c.args.nl.now.cells _ _ _ _ (grows_trans c.in_ok-reach_roots.ensures.grows c.in_ok-reach_outputs.ensures.grows)
    (λ n k. none_kept _ n (let kept = rw (c.in_ok-keep.ensures.items_if_clones_equal (λ y h. h)) at k in kept))

pub follow-requires-clause-needed : goal.follow-requires-clause-needed
follow-requires-clause-needed c =
    needed_more c.args.nl.now _ _ _ _ (only_trans c.in_ok-reach_roots.ensures.only c.in_ok-reach_outputs.ensures.only)
    (needed_first c.args.nl.now _ _ c.new-line.ensures.items
    (λ n k. none_kept _ n (let kept = rw (c.in_ok-keep.ensures.items_if_clones_equal (λ y h. h)) at k in kept)))
