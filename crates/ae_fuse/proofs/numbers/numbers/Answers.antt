use Rattle.std.proofs.Common.{◌+◌, ◌∷◌, ◌++◌, [], ◌∙◌, ap, sym, arith}
use Rattle.std.specs.List.{range_with_len}
use Rattle.ae_fuse.proofs.numbers.numbers.Goals as goal
use Rattle.ae_moves.proofs.Held.{range_more as range-push}

pub loop-k-preserved : goal.loop-k-preserved
loop-k-preserved c = record {
  own = rw c.in_ok-push.ensures.items (ap (λ xs. xs ++ (c.args.first + c.loop-k.k) ∷ []) c.loop-k.invariant.own ∙ sym (range-push c.args.first c.loop-k.k));
  within = omega (arith, c.loop-k-test.true);
}

pub returns : goal.returns
returns c = c.loop-k.invariant.own ∙ ap (range_with_len c.args.first) (omega (arith, c.loop-k-test.false, c.loop-k.invariant.within))
