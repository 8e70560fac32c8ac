use Rattle.std.proofs.Common.{◌≡◌, ◌-◌, ◌/◌, ◌∙◌, max, get_or, ap, arith}
use Rattle.ae_fuse.specs.Clocks.{lead_of}
use Rattle.ae_fuse.proofs.ClockSteps.{greatest-more}
use Rattle.ae_fuse.proofs.clocks.lateness.Goals as goal

pub loop-o-preserved : goal.loop-o-preserved
loop-o-preserved c =
    let o = c.loop-o.o in
    let is : c.saturating_sub.result ≡ lead_of c.args.sources.now c.args.labels.now c.args.elements.now c.args.words o =
    c.saturating_sub.ensures ∙ ap (λ k. k - get_or c.args.elements.now (o / c.args.words) 0) c.source_clock-source.ensures in
    let new : c.max-most.result ≡ max c.loop-o.most c.saturating_sub.result = c.max-most.ensures in
    record {
      most = greatest-more (lead_of c.args.sources.now c.args.labels.now c.args.elements.now c.args.words) o c.saturating_sub.result c.loop-o.most
          c.max-most.result c.loop-o.invariant.most is new;
      within = omega (arith, c.loop-o-test.true);
    }
