use Rattle.std.proofs.Common.{◌∙◌, ◌+◌, ◌++◌, map, get_or, ap, arith}
use Rattle.std.proofs.lemmas.List.{take_all}
use Rattle.std.proofs.lemmas.Option.{slice_get-get_or}
use Rattle.ae_fuse.proofs.ClockSteps.{later-more}
use Rattle.ae_fuse.proofs.clocks.add_later.Goals as goal

pub loop-clock-preserved : goal.loop-clock-preserved
loop-clock-preserved c =
    let j = c.loop-clock.clock-index in
    let ks = c.args.one.now in
    rw c.in_ok-push.ensures.items (later-more ks _ c.loop-clock.clocks.items c.args.by j (get_or ks j 0)
    (slice_get-get_or ks j 0 c.loop-clock-test.true) c.loop-clock.invariant)

pub returns : goal.returns
returns c =
    c.loop-clock.invariant ∙ ap (λ ks. c.args.clocks.now.items ++ map (λ k. c.args.by + k) ks)
    (take_all c.loop-clock.clock-index c.args.one.now (omega (arith, c.loop-clock-test.false)))
