use Rattle.std.proofs.Common.{◌≡◌, ◌∙◌, ap, arith, refl}
use Rattle.ae_flow.specs.Flow.{parts}
use Rattle.ae_fuse.proofs.LabelSteps.{parts-more}
use Rattle.ae_fuse.proofs.labelling.part_labels.Goals as goal

pub loop-piece-preserved : goal.loop-piece-preserved
loop-piece-preserved c = record {
  parts = rw c.in_ok-add.ensures (parts-more c.loop-piece.piece c.args.size c.args.from c.args.part c.args.labels.now c.loop-piece.taken.items _ refl
      c.loop-piece.invariant.parts);
  within = omega (arith, c.loop-piece-test.true);
}

pub returns : goal.returns
returns c =
    let e : c.loop-piece.piece ≡ c.args.count = omega (arith, c.loop-piece-test.false, c.loop-piece.invariant.within) in
    c.loop-piece.invariant.parts ∙ ap (λ n. parts n c.args.size c.args.from c.args.part c.args.labels.now) e
