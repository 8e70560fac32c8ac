use Rattle.std.proofs.Common.{ap, ◌∙◌, ◌≡◌, ◌+◌, arith, refl, length}
use Rattle.ae_rewrite.specs.StProgramTree.{st_func_tree}
use Rattle.ae_rewrite.specs.Sound.{item_layouts}
use Rattle.ae_delay.specs.Costs.{latest, slack_load, uses_at}
use Rattle.ae_delay.proofs.Chains.{length_deepened}
use Rattle.ae_delay.proofs.Instances.{end_few, end_fits, end_over, end_timed, timed}
use Rattle.ae_delay.proofs.weighing.finish.Goals as goal

pub returns-then-sum-limit-clause-weighed : goal.returns-then-sum-limit-clause-weighed
returns-then-sum-limit-clause-weighed c = λ ts h.
    let is : c.latest-latency.result ≡ latest c.args.progress.arrivals.items c.args.s.now.results.items = rw (c.deref.ensures.value, c.deref-2.ensures.value)
    at c.latest-latency.ensures in
    let slack : c.slack_load.result ≡ slack_load (item_layouts (st_func_tree c.args.s.now))
    (uses_at c.args.progress.arrivals.items c.latest-latency.result c.args.s.now.results.items) = rw (c.deref-3.ensures.value, c.deref-4.ensures.value) at
    c.slack_load.ensures.load in
    end_over (st_func_tree c.args.s.now) ts c.args.limit c.args.progress c.latest-latency.result c.slack_load.result c.min.result h
    (is, slack) c.if-sum-limit.true c.min.ensures

pub chain_mems-requires-clause-long : goal.chain_mems-requires-clause-long
chain_mems-requires-clause-long c =
    let chains = rw (c.deref-5.ensures.value, c.deref-6.ensures.value) at c.deepen.ensures in
    ap length c.deref-7.ensures.value ∙ (ap length chains ∙
    (length_deepened c.args.progress.chains.items (uses_at c.args.progress.arrivals.items c.latest-latency.result c.args.s.now.results.items) ∙
    c.requires.progress.1.long))

pub chain_mems-requires-clause-few : goal.chain_mems-requires-clause-few
chain_mems-requires-clause-few c =
    let chains = rw (c.deref-5.ensures.value, c.deref-6.ensures.value) at c.deepen.ensures in
    let slack : c.slack_load.result ≡ slack_load (item_layouts (st_func_tree c.args.s.now))
    (uses_at c.args.progress.arrivals.items c.latest-latency.result c.args.s.now.results.items) = rw (c.deref-3.ensures.value, c.deref-4.ensures.value) at
    c.slack_load.ensures.load in
    end_few (st_func_tree c.args.s.now) c.requires.progress.0 c.args.limit c.args.progress c.latest-latency.result c.slack_load.result c.deref-7.result.now
    c.requires.progress.1 c.requires.results slack (c.deref-7.ensures.value ∙ chains) c.if-sum-limit.false c.requires.limit

pub overflow_add-mems : goal.overflow_add-mems
overflow_add-mems c =
    let chains = rw (c.deref-5.ensures.value, c.deref-6.ensures.value) at c.deepen.ensures in
    let slack : c.slack_load.result ≡ slack_load (item_layouts (st_func_tree c.args.s.now))
    (uses_at c.args.progress.arrivals.items c.latest-latency.result c.args.s.now.results.items) = rw (c.deref-3.ensures.value, c.deref-4.ensures.value) at
    c.slack_load.ensures.load in
    let few = end_few (st_func_tree c.args.s.now) c.requires.progress.0 c.args.limit c.args.progress c.latest-latency.result c.slack_load.result
    c.deref-7.result.now c.requires.progress.1 c.requires.results slack (c.deref-7.ensures.value ∙ chains) c.if-sum-limit.false c.requires.limit in
    omega (
      arith,
      end_fits (st_func_tree c.args.s.now) c.requires.progress.0 c.args.limit c.args.progress c.chain_mems.result
          (item_layouts (st_func_tree c.args.s.now)) c.deref-7.result.now c.requires.progress.1 few c.chain_mems.ensures c.requires.limit,
    )

pub returns-clause-weighed : goal.returns-clause-weighed
returns-clause-weighed c = λ ts h.
    let is : c.latest-latency.result ≡ latest c.args.progress.arrivals.items c.args.s.now.results.items = rw (c.deref.ensures.value, c.deref-2.ensures.value)
    at c.latest-latency.ensures in
    let slack : c.slack_load.result ≡ slack_load (item_layouts (st_func_tree c.args.s.now))
    (uses_at c.args.progress.arrivals.items c.latest-latency.result c.args.s.now.results.items) = rw (c.deref-3.ensures.value, c.deref-4.ensures.value) at
    c.slack_load.ensures.load in
    let chains = rw (c.deref-5.ensures.value, c.deref-6.ensures.value) at c.deepen.ensures in
    let memories = rw (c.deref-7.ensures.value, chains) at c.chain_mems.ensures in
    end_timed (st_func_tree c.args.s.now) ts c.args.limit c.args.progress c.latest-latency.result c.slack_load.result c.chain_mems.result _ h (is, slack)
    (rw c.requires.whole c.requires.results) c.requires.results c.requires.limit memories c.if-sum-limit.false
    (ap (λ n. timed n (c.args.progress.load + c.slack_load.result) c.args.progress.muls (c.args.progress.mems + c.chain_mems.result)) c.from.ensures) refl refl
