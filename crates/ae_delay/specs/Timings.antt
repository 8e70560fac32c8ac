-- The timing of a program: its costs, the arrivals of its items, when all arguments of each node and all results have come,
-- and what each node of the program function costs.
use Rattle.std.specs.Prelude.{◌≡◌, ℕ, ◌-◌, List, length, map, take, Some, slice_get}
use Rattle.ae_rewrite.specs.StProgramTree.{StFuncTree}
use Rattle.ae_delay.specs.declared.own.OwnCosts.{OwnCosts}
use Rattle.ae_delay.specs.declared.weighing.Cost.{Cost}
use Rattle.ae_delay.specs.Costs.{all_costs, arrivals_of, func_costs, func_meets, node_timings}
use Rattle.ae_delay.specs.Weighing.{cost_of}

-- what is seen of a timing
pub record Times : Type 0 where
  pub costs : OwnCosts
  pub arrivals : List (List ℕ)
  pub meets : List (List ℕ)
  pub nodes : List Cost

-- the arrivals of the items of an instance, by the costs of those before it
abbrev pub item_arrivals : (known : List OwnCosts) → StFuncTree → List ℕ
item_arrivals known s = arrivals_of s.ins (node_timings known s)

-- when all arguments of each of its nodes have come, and behind those when all its results have
abbrev pub item_meets : (known : List OwnCosts) → StFuncTree → List ℕ
item_meets known s = func_meets (item_arrivals known s) s

-- the arrivals of each instance
abbrev pub AreArrivals : List StFuncTree → List (List ℕ) → Type 0
AreArrivals instances all =
    (k : ℕ) (s : StFuncTree) → slice_get instances k ≡ Some s
    → slice_get all k ≡ Some (item_arrivals (all_costs (take k instances)) s)

abbrev pub AreMeets : List StFuncTree → List (List ℕ) → Type 0
AreMeets instances all =
    (k : ℕ) (s : StFuncTree) → slice_get instances k ≡ Some s
    → slice_get all k ≡ Some (item_meets (all_costs (take k instances)) s)

-- the program function is the last instance
pub record AreTimes (instances : List StFuncTree) (t : Times) : Type 0 where
  pub costs : (s : StFuncTree) → slice_get instances (length instances - 1) ≡ Some s
      → t.costs ≡ func_costs (all_costs (take (length instances - 1) instances)) s
  pub many : length t.arrivals ≡ length instances
  pub arrivals : AreArrivals instances t.arrivals
  pub meets : AreMeets instances t.meets
  pub nodes : (s : StFuncTree) → slice_get instances (length instances - 1) ≡ Some s
      → t.nodes ≡ map cost_of (node_timings (all_costs (take (length instances - 1) instances)) s)
