use Rattle.std.proofs.Common.{◌≡◌, ◌∙◌, ap, arith}
use Rattle.ae_fuse.specs.Clocks.{clock_copies}
use Rattle.ae_fuse.proofs.ClockSteps.{copies-more}
use Rattle.ae_fuse.proofs.clocks.copied_clocks.Goals as goal

pub loop-copy-preserved : goal.loop-copy-preserved
loop-copy-preserved c = record {
  clocks = copies-more c.loop-copy.copy c.args.time c.args.one.now c.loop-copy.clocks.items _ c.loop-copy.invariant.clocks c.in_ok-add_later.ensures;
  within = omega (arith, c.loop-copy-test.true);
}

pub returns : goal.returns
returns c =
    let e : c.loop-copy.copy ≡ c.args.count = omega (arith, c.loop-copy-test.false, c.loop-copy.invariant.within) in
    c.loop-copy.invariant.clocks ∙ ap (λ n. clock_copies n c.args.time c.args.one.now) e
