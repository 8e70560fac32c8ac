use Rattle.std.proofs.Common.{◌+◌, ◌∙◌, ap}
use Rattle.std.proofs.lemmas.List.{length_push}
use Rattle.ae_rewrite.proofs.Budgets.{empty-push}
use Rattle.ae_rewrite.proofs.reach.empty_lists.Goals as goal

pub loop-preserved : goal.loop-preserved
loop-preserved c =
    rw c.in_ok-push.ensures.items
    (record {
      empty = empty-push c.loop.lists.items _ c.new.ensures.items c.loop.invariant.empty;
      count = length_push c.loop.lists.items _ ∙ ap (λ n. n + 1) c.loop.invariant.count;
    })
