-- One node more.
use Rattle.std.proofs.Common.{ℕ, ◌≡◌, ◌+◌, ◌≤◌, List, [], ◌∷◌, ◌++◌, length, Some, slice_get, get_or, arith}
use Rattle.std.proofs.lemmas.Option.{slice_get-get_or, unwrap_or-slice_get}
use Rattle.std.specs.Prelude.{unwrap_or}
use Rattle.ae_sttype.specs.StTree.{StTree}
use Rattle.ae_moves.proofs.Words.{lead_le}
use Rattle.ae_rewrite.specs.StProgramTree.{StNodeTree}
use Rattle.ae_delay.specs.declared.own.OwnCosts.{OwnCosts}
use Rattle.ae_delay.specs.declared.weighing.Cost.{Cost}
use Rattle.ae_delay.specs.declared.weighing.Progress.{Progress}
use Rattle.ae_delay.specs.Bounds.{IsBounded}
use Rattle.ae_delay.specs.Costs.{latest, node_costs, node_timing, slack_load, uses_at}
use Rattle.ae_delay.specs.Weighing.{AllBelow, IsNext, deepened}

-- nothing arrives later than what none passes
pub latest_le : (arrivals items : List ℕ) (m : ℕ) → AllBelow items (length arrivals) → ((i a : ℕ) → slice_get arrivals i ≡ Some a → a ≤ m)
    → latest arrivals items ≤ m
latest_le arrivals items m below early =
    lead_le (λ a. unwrap_or (slice_get arrivals a) 0) 0 m items (omega arith)
    (λ a k f. rw (unwrap_or-slice_get arrivals a 0) (early a (get_or arrivals a 0) (slice_get-get_or arrivals a 0 (below k a f))))

abbrev pub priced : (latency load muls : ℕ) → Cost
priced a b c = record { latency = a; load = b; muls = c }

pub next_node : (costs : List OwnCosts) (layouts : List StTree) (n : StNodeTree) (limit : ℕ) (old new : Progress) (own : OwnCosts) (start slack : ℕ)
    → own ≡ node_costs costs layouts n → IsBounded own → start ≡ latest old.arrivals.items n.args
    → slack ≡ slack_load layouts (uses_at old.arrivals.items start n.args) → start ≤ old.load
    → new.arrivals.items ≡ old.arrivals.items ++ (start + own.latency) ∷ []
    → new.chains.items ≡ deepened old.chains.items (uses_at old.arrivals.items start n.args)
    → new.costs.items ≡ old.costs.items ++ priced own.latency (own.load + slack) own.muls ∷ []
    → new.load ≡ old.load + (own.load + slack) → new.muls ≡ old.muls + own.muls → new.mems ≡ old.mems + own.mems → new.load ≤ limit
    → IsNext layouts (node_timing costs layouts old.arrivals.items n) limit old new
next_node costs layouts n limit old new own start slack eo bounded es el early ha hc ho hl hu hm within =
    rw (← eo, ← es) (record {
      arrivals = ha;
      chains = hc;
      costs = rw (← el) ho;
      load = rw (← el) hl;
      muls = hu;
      mems = hm;
      within = within;
      early = omega (arith, hl, bounded.latency);
      few_muls = omega (arith, bounded.muls);
      few_mems = omega (arith, bounded.mems);
    })
