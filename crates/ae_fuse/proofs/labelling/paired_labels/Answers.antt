use Rattle.std.proofs.Common.{◌≡◌, ◌∙◌, ap, arith, refl}
use Rattle.ae_eval.specs.Stack.{paired}
use Rattle.ae_fuse.proofs.LabelSteps.{pairs-more}
use Rattle.ae_fuse.proofs.labelling.paired_labels.Goals as goal

pub loop-piece-preserved : goal.loop-piece-preserved
loop-piece-preserved c = record {
  pairs = rw (c.in_ok-add-2.ensures, c.in_ok-add.ensures)
      (pairs-more c.loop-piece.piece c.args.size c.args.other c.args.first.now c.args.second.now c.loop-piece.both.items _ _ refl refl
      c.loop-piece.invariant.pairs);
  within = omega (arith, c.loop-piece-test.true);
}

pub returns : goal.returns
returns c =
    let e : c.loop-piece.piece ≡ c.args.count = omega (arith, c.loop-piece-test.false, c.loop-piece.invariant.within) in
    c.loop-piece.invariant.pairs ∙ ap (λ n. paired n c.args.size c.args.other c.args.first.now c.args.second.now) e
