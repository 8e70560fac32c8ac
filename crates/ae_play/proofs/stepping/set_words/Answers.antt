use Rattle.std.proofs.Common.{◌≡◌, ◌+◌, ◌-◌, ◌∷◌, [], length, length-append, arith, ap, ◌∙◌}
use Rattle.ae_play.proofs.Keeping.{words_all, words_more}
use Rattle.ae_play.proofs.stepping.set_words.Goals as goal

pub loop-k-init : goal.loop-k-init
loop-k-init c = (ap length c.clear.ensures.items, λ fill rows run h some p. c.clear.ensures.items)

pub loop-k-preserved : goal.loop-k-preserved
loop-k-preserved c =
    let pushed = c.in_ok-push.ensures.items in
    let long : length c.push.new.self.items ≡ length c.loop-k.words.items + 1 = ap length pushed ∙
    length-append c.loop-k.words.items (c.output.result ∷ []) in (
      omega (arith, long, c.loop-k.invariant.0),
      λ fill rows run h some p.
          words_more c.args.sim.now.outlets run (length rows - 1) c.loop-k.k c.output.result c.loop-k.words.items c.push.new.self.items
          (omega (arith, c.loop-k-test.true, c.requires))
          (λ o found. c.output.ensures o fill rows run found h some p) (c.loop-k.invariant.1 fill rows run h some p) pushed,
    )

pub returns-clause-long : goal.returns-clause-long
returns-clause-long c = omega (arith, c.loop-k.invariant.0, c.loop-k-test.false, c.loop-k.auto.k-end)

pub returns-clause-are : goal.returns-clause-are
returns-clause-are c = λ fill rows run h some p.
    words_all c.args.sim.now.outlets run (length rows - 1) c.loop-k.k c.loop-k.words.items (omega (arith, c.loop-k-test.false, c.requires))
    (c.loop-k.invariant.1 fill rows run h some p)
