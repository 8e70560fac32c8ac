-- What the code knows of costs: those of a heavy instance only as heavy.
use Rattle.std.specs.Prelude.{◌≡◌, ℕ, ◌+◌, ◌*◌, ◌<◌, ◌≤◌, min, max, List, [], ◌∷◌, ◌++◌, map, length, sum_by, fold, Option, Some, None, slice_get, get_or, slice_set}
use Rattle.std.specs.List.{range_with_len, flat_map}
use Rattle.ae_sttype.specs.StTree.{StTree}
use Rattle.ae_sttype.specs.Moves.{columns_of}
use Rattle.ae_rewrite.specs.Scheduled.{IsFilling}
use Rattle.ae_rewrite.specs.StProgramTree.{StFuncTree}
use Rattle.ae_rewrite.specs.Sound.{item_layout, item_layouts}
use Rattle.ae_delay.specs.declared.own.OwnCosts.{OwnCosts}
use Rattle.ae_delay.specs.declared.weighing.Cost.{Cost}
use Rattle.ae_delay.specs.declared.weighing.Progress.{Progress}
use Rattle.ae_delay.specs.declared.weighing.FuncTiming.{FuncTiming}
use Rattle.ae_delay.specs.declared.weighing.Weighed.{Weighed}
use Rattle.ae_delay.specs.declared.weighing.Weighed.TheVariants.{Within, Over}
use Rattle.ae_delay.specs.Bounds.{IsBounded}
use Rattle.ae_delay.specs.Costs.{Use, LineLoad, NodeTiming, arrivals_of, chain_of, func_costs_by, line_loads, first_over, func_meets, slack_load}

-- costs with a load below 1,000,000,000, or a load that is not
abbrev pub IsKnown : Option OwnCosts → OwnCosts → Type 0
IsKnown None c = 1000000000 ≤ c.load
IsKnown (Some k) c = (k ≡ c) × IsBounded k × (k.load < 1000000000)

pub record AreKnown (known : List (Option OwnCosts)) (costs : List OwnCosts) : Type 0 where
  pub long : length known ≡ length costs
  pub each : (i : ℕ) (o : Option OwnCosts) (c : OwnCosts) → slice_get known i ≡ Some o → slice_get costs i ≡ Some c
      → IsKnown o c

-- each item's layout takes the budget
abbrev pub AreItems : (budget : ℕ) → List StTree → Type 0
AreItems budget layouts = (i : ℕ) → i < length layouts → IsFilling budget (item_layout layouts i)

abbrev pub AllBelow : (items : List ℕ) (count : ℕ) → Type 0
AllBelow items count = (i a : ℕ) → slice_get items i ≡ Some a → a < count

-- the longest delays by item, with those of these uses
abbrev pub deepened_by : List ℕ → Use → List ℕ
deepened_by cs u = slice_set cs u.item (max (get_or cs u.item 0) u.slack)

abbrev pub deepened : List ℕ → List Use → List ℕ
deepened cs us = fold deepened_by cs us

abbrev pub cost_of : NodeTiming → Cost
cost_of t = record { latency = t.latency; load = t.load; muls = t.muls }

-- one node more, unless its load passes the limit
pub record IsNext (layouts : List StTree) (t : NodeTiming) (limit : ℕ) (old new : Progress) : Type 0 where
  pub arrivals : new.arrivals.items ≡ old.arrivals.items ++ t.arrival ∷ []
  pub chains : new.chains.items ≡ deepened old.chains.items t.uses
  pub costs : new.costs.items ≡ old.costs.items ++ cost_of t ∷ []
  pub load : new.load ≡ old.load + t.load
  pub muls : new.muls ≡ old.muls + t.muls
  pub mems : new.mems ≡ old.mems + t.mems
  pub within : new.load ≤ limit
  pub early : t.arrival ≤ new.load
  pub few_muls : t.muls ≤ t.load
  pub few_mems : t.mems + slack_load layouts t.uses ≤ t.load

abbrev pub IsAdvance : (layouts : List StTree) → NodeTiming → (limit : ℕ) (old new : Progress) → Option ℕ → Type 0
IsAdvance layouts t limit old new None = IsNext layouts t limit old new
IsAdvance layouts t limit old new (Some sum) = (limit < old.load + t.load) × (sum ≡ min (old.load + t.load) 1000000000)

-- the registers of chains of these lengths
abbrev pub chained : (layouts : List StTree) → (chains : List ℕ) → ℕ
chained layouts cs =
    sum_by (λ i. columns_of (item_layout layouts i) * get_or cs i 0) (range_with_len 0 (length layouts))

-- these nodes have come, and their loads together are within the limit
pub record IsProgress (s : StFuncTree) (ts : List NodeTiming) (limit : ℕ) (p : Progress) : Type 0 where
  pub arrivals : p.arrivals.items ≡ arrivals_of s.ins ts
  pub long : length p.chains.items ≡ length (item_layouts s)
  pub chains : (i : ℕ) → i < length (item_layouts s)
      → get_or p.chains.items i 0 ≡ chain_of (flat_map (λ (t : NodeTiming). t.uses) ts) i
  pub costs : p.costs.items ≡ map cost_of ts
  pub load : p.load ≡ sum_by (λ (t : NodeTiming). t.load) ts
  pub muls : p.muls ≡ sum_by (λ (t : NodeTiming). t.muls) ts
  pub mems : p.mems ≡ sum_by (λ (t : NodeTiming). t.mems) ts
  pub within : p.load ≤ limit
  pub early : (i a : ℕ) → slice_get p.arrivals.items i ≡ Some a → a ≤ p.load
  pub few_muls : p.muls ≤ p.load
  pub few_mems : p.mems + chained (item_layouts s) p.chains.items ≤ p.load

abbrev pub HasProgress : StFuncTree → (limit : ℕ) → Progress → Type 0
HasProgress s limit p = (ts : List NodeTiming) × IsProgress s ts limit p

-- the first line over the limit is this one, and the sum is told up to 1,000,000,000
pub record IsOverAt (found : Option LineLoad) (line sum : ℕ) : Type 0 where
  pub total : ℕ
  pub at : found ≡ Some (record { line = line; load = total })
  pub told : sum ≡ min total 1000000000

-- the costs of an instance with these nodes
pub record IsTimed (s : StFuncTree) (ts : List NodeTiming) (limit : ℕ) (t : FuncTiming) : Type 0 where
  pub fine : first_over limit 0 (line_loads s ts) ≡ None
  pub costs : t.costs ≡ func_costs_by s ts
  pub bounded : IsBounded t.costs
  pub within : t.costs.load ≤ limit
  pub arrivals : t.arrivals.items ≡ arrivals_of s.ins ts
  pub nodes : t.nodes.items ≡ map cost_of ts

abbrev pub HaveMet : StFuncTree → Weighed → Type 0
HaveMet s (Within t) = t.meets.items ≡ func_meets t.arrivals.items s
HaveMet s (Over line sum) = Unit {0}

abbrev pub IsWeighed : StFuncTree → List NodeTiming → (limit : ℕ) → Weighed → Type 0
IsWeighed s ts limit (Within t) = IsTimed s ts limit t
IsWeighed s ts limit (Over line sum) = IsOverAt (first_over limit 0 (line_loads s ts)) line sum
