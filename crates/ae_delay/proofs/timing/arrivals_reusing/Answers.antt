use Rattle.std.proofs.Common.{ap, refl, ◌∙◌, ◌≡◌, ◌-◌, ◌∷◌, [], map, take, length, arith}
use Rattle.std.proofs.lemmas.List.{map-append}
use Rattle.ae_rewrite.specs.StProgramTree.{st_func_trees}
use Rattle.ae_delay.specs.Costs.{all_costs}
use Rattle.ae_delay.specs.Timings.{item_arrivals, item_meets}
use Rattle.ae_delay.specs.Weighing.{AreKnown}
use Rattle.ae_delay.proofs.Programs.{end_fine, end_large, end_times, known_next, sound_at, told_next}
use Rattle.ae_delay.proofs.timing.arrivals_reusing.Goals as goal

pub weigh_next-requires-clause-sound : goal.weigh_next-requires-clause-sound
weigh_next-requires-clause-sound c =
    sound_at c.args.p.now c.loop-k.k c.instance.result.now c.loop-k.known.items c.count-last.ensures.sound c.instance.ensures c.loop-k.invariant.known

pub loop-k-preserved : goal.loop-k-preserved
loop-k-preserved c = record {
  known = known_next c.args.p.now c.loop-k.k c.instance.result.now c.weigh_next.new.known.items c.instance.ensures
      (c.in_ok-weigh_next.ensures.known (all_costs (take c.loop-k.k (st_func_trees c.args.p.now))) c.loop-k.invariant.known);
  arrivals = told_next item_arrivals c.args.p.now c.loop-k.k c.instance.result.now _ _ c.instance.ensures c.loop-k.invariant.arrivals
      (c.in_ok-weigh_next.ensures.arrivals (all_costs (take c.loop-k.k (st_func_trees c.args.p.now))) c.loop-k.invariant.known);
  meets = told_next item_meets c.args.p.now c.loop-k.k c.instance.result.now _ _ c.instance.ensures c.loop-k.invariant.meets
      (c.in_ok-weigh_next.ensures.meets (all_costs (take c.loop-k.k (st_func_trees c.args.p.now))) c.loop-k.invariant.known);
}

pub weigh-requires-clause-sound : goal.weigh-requires-clause-sound
weigh-requires-clause-sound c =
    let at : c.loop-k.k ≡ c.count-last.result - 1 = omega (arith, c.loop-k-test.false, c.loop-k.auto.k-end) in
    sound_at c.args.p.now (c.count-last.result - 1) c.instance-2.result.now c.deref.result.now c.count-last.ensures.sound c.instance-2.ensures
    (rw c.deref.ensures.value (rw at at c.loop-k.invariant.known))

pub returns-in-Within-clause-timing : goal.returns-in-Within-clause-timing
returns-in-Within-clause-timing c =
    let at : c.loop-k.k ≡ c.count-last.result - 1 = omega (arith, c.loop-k-test.false, c.loop-k.auto.k-end) in
    let known : AreKnown c.deref.result.now (all_costs (take (c.count-last.result - 1) (st_func_trees c.args.p.now))) = rw c.deref.ensures.value
    (rw at at c.loop-k.invariant.known) in
    let w = rw (c.in-Within.is, c.from.ensures) at
    (c.in_ok-t.ensures.weighed (all_costs (take (c.count-last.result - 1) (st_func_trees c.args.p.now))) known) in
    let together = rw c.in-Within.is at c.in_ok-t.ensures.meets in
    let first = rw at at c.loop-k.invariant.arrivals in
    let first_met = rw at at c.loop-k.invariant.meets in
    let last : c.count-last.result - 1 ≡ length c.args.p.now - 1 = ap (λ n. n - 1) c.count-last.ensures.count in
    end_times c.args.p.now (c.count-last.result - 1) c.instance-2.result.now c.in-Within.t c.args.limit _ _ _ c.count-last.ensures.sound
    (omega (arith, c.requires)) last c.instance-2.ensures w together first first_met refl
    (ap (map (λ v. v.items)) c.in_ok-push-in-Within.ensures.items ∙ map-append (λ v. v.items) c.loop-k.arrivals.items (c.in-Within.t.arrivals ∷ []))
    (ap (map (λ v. v.items)) c.in_ok-push-in-Within-2.ensures.items ∙ map-append (λ v. v.items) c.loop-k.meets.items (c.in-Within.t.meets ∷ [])) refl

pub returns-in-Within-clause-fine : goal.returns-in-Within-clause-fine
returns-in-Within-clause-fine c =
    let at : c.loop-k.k ≡ c.count-last.result - 1 = omega (arith, c.loop-k-test.false, c.loop-k.auto.k-end) in
    let known : AreKnown c.deref.result.now (all_costs (take (c.count-last.result - 1) (st_func_trees c.args.p.now))) = rw c.deref.ensures.value
    (rw at at c.loop-k.invariant.known) in
    let w = rw (c.in-Within.is, c.from.ensures) at
    (c.in_ok-t.ensures.weighed (all_costs (take (c.count-last.result - 1) (st_func_trees c.args.p.now))) known) in
    let last : c.count-last.result - 1 ≡ length c.args.p.now - 1 = ap (λ n. n - 1) c.count-last.ensures.count in
    end_fine c.args.p.now (c.count-last.result - 1) c.instance-2.result.now c.args.limit last c.instance-2.ensures ∙ w.fine

pub returns-clause-large : goal.returns-clause-large
returns-clause-large c = λ line load e.
    let at : c.loop-k.k ≡ c.count-last.result - 1 = omega (arith, c.loop-k-test.false, c.loop-k.auto.k-end) in
    let known : AreKnown c.deref.result.now (all_costs (take (c.count-last.result - 1) (st_func_trees c.args.p.now))) = rw c.deref.ensures.value
    (rw at at c.loop-k.invariant.known) in
    let w = rw (c.in-Over.is, c.from.ensures) at (c.in_ok-t.ensures.weighed (all_costs (take (c.count-last.result - 1) (st_func_trees c.args.p.now))) known) in
    let last : c.count-last.result - 1 ≡ length c.args.p.now - 1 = ap (λ n. n - 1) c.count-last.ensures.count in
    let lines : c.in-Over.line ≡ line = cc in
    let loads : c.in-Over.load ≡ load = cc in
    rw (← lines, ← loads) (end_large c.args.p.now (c.count-last.result - 1) c.instance-2.result.now c.args.limit c.in-Over.line c.in-Over.load last
    c.instance-2.ensures w)
