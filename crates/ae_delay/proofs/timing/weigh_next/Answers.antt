use Rattle.std.proofs.Common.{ap, ◌∙◌, ◌∷◌, [], map, refl, Some, None}
use Rattle.std.proofs.lemmas.List.{map-append}
use Rattle.ae_rewrite.specs.StProgramTree.{st_func_tree}
use Rattle.ae_delay.specs.Costs.{func_costs, node_timings}
use Rattle.ae_delay.specs.Timings.{item_arrivals, item_meets}
use Rattle.ae_delay.proofs.Programs.{heavy, known_more, light_cost, met_within, more_over, more_within}
use Rattle.ae_delay.proofs.timing.weigh_next.Goals as goal

pub returns-in_ok-push-in-Within-3-clause-known : goal.returns-in_ok-push-in-Within-3-clause-known
returns-in_ok-push-in-Within-3-clause-known c = λ costs known.
    let w = rw c.in-Within.is at (c.in_ok-t.ensures.weighed costs (rw c.deref.ensures.value known)) in
    rw c.in_ok-push-in-Within.ensures.items (known_more c.args.known.now.items costs (Some c.in-Within.t.costs)
    (func_costs costs (st_func_tree c.args.s.now)) known
    (light_cost (st_func_tree c.args.s.now) (node_timings costs (st_func_tree c.args.s.now)) 999999999 c.in-Within.t refl w))

pub returns-in_ok-push-in-Over-3-clause-known : goal.returns-in_ok-push-in-Over-3-clause-known
returns-in_ok-push-in-Over-3-clause-known c = λ costs known.
    let w = rw c.in-Over.is at (c.in_ok-t.ensures.weighed costs (rw c.deref.ensures.value known)) in
    rw c.in_ok-push-in-Over.ensures.items (known_more c.args.known.now.items costs None (func_costs costs (st_func_tree c.args.s.now)) known
    (heavy (st_func_tree c.args.s.now) (node_timings costs (st_func_tree c.args.s.now)) c.in-Over.line c.in-Over.load w))

pub returns-in_ok-push-in-Over-3-clause-arrivals : goal.returns-in_ok-push-in-Over-3-clause-arrivals
returns-in_ok-push-in-Over-3-clause-arrivals c = λ costs known.
    let w = rw c.in-Over.is at (c.in_ok-t.ensures.weighed costs (rw c.deref.ensures.value known)) in
    more_over item_arrivals costs (st_func_tree c.args.s.now) c.new.result.items _ _
    (heavy (st_func_tree c.args.s.now) (node_timings costs (st_func_tree c.args.s.now)) c.in-Over.line c.in-Over.load w)
    (ap (map (λ v. v.items)) c.in_ok-push-in-Over-2.ensures.items ∙ map-append (λ v. v.items) c.args.arrivals.now.items (c.new.result ∷ []))

pub returns-in_ok-push-in-Over-3-clause-meets : goal.returns-in_ok-push-in-Over-3-clause-meets
returns-in_ok-push-in-Over-3-clause-meets c = λ costs known.
    let w = rw c.in-Over.is at (c.in_ok-t.ensures.weighed costs (rw c.deref.ensures.value known)) in
    more_over item_meets costs (st_func_tree c.args.s.now) c.new-in-Over.result.items _ _
    (heavy (st_func_tree c.args.s.now) (node_timings costs (st_func_tree c.args.s.now)) c.in-Over.line c.in-Over.load w)
    (ap (map (λ v. v.items)) c.in_ok-push-in-Over-3.ensures.items ∙ map-append (λ v. v.items) c.args.meets.now.items (c.new-in-Over.result ∷ []))

pub returns-in_ok-push-in-Within-3-clause-arrivals : goal.returns-in_ok-push-in-Within-3-clause-arrivals
returns-in_ok-push-in-Within-3-clause-arrivals c = λ costs known.
    let w = rw c.in-Within.is at (c.in_ok-t.ensures.weighed costs (rw c.deref.ensures.value known)) in
    more_within costs (st_func_tree c.args.s.now) c.in-Within.t 999999999 _ _ w
    (ap (map (λ v. v.items)) c.in_ok-push-in-Within-2.ensures.items ∙ map-append (λ v. v.items) c.args.arrivals.now.items (c.in-Within.t.arrivals ∷ []))

pub returns-in_ok-push-in-Within-3-clause-meets : goal.returns-in_ok-push-in-Within-3-clause-meets
returns-in_ok-push-in-Within-3-clause-meets c = λ costs known.
    let w = rw c.in-Within.is at (c.in_ok-t.ensures.weighed costs (rw c.deref.ensures.value known)) in
    let together = rw c.in-Within.is at c.in_ok-t.ensures.meets in
    met_within costs (st_func_tree c.args.s.now) c.in-Within.t 999999999 _ _ w together
    (ap (map (λ v. v.items)) c.in_ok-push-in-Within-3.ensures.items ∙ map-append (λ v. v.items) c.args.meets.now.items (c.in-Within.t.meets ∷ []))
