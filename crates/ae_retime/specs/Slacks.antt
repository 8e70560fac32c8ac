-- How long before it is used each item of a program arrives.
use Rattle.std.specs.Prelude.{◌≡◌, ℕ, ◌-◌, ◌<◌, List, ◌++◌, map, length, take, Some, slice_get, get_or}
use Rattle.std.specs.List.{range_with_len, flat_map}
use Rattle.ae_rewrite.specs.StProgramTree.{StNodeTree, StFuncTree}
use Rattle.ae_rewrite.specs.Sound.{item_layouts}
use Rattle.ae_delay.specs.Costs.{Use, all_costs, chain_of, latest, uses_at}
use Rattle.ae_delay.specs.Timings.{item_arrivals}
use Rattle.ae_delay.specs.Weighing.{AllBelow}

-- what is seen of slacks: those of arguments by instance, node and argument, chains by instance and item, and those of results by instance
pub record SlackTables : Type 0 where
  pub arguments : List (List (List ℕ))
  pub chains : List (List ℕ)
  pub results : List (List ℕ)

-- ---- of an instance with these arrivals

-- items that are used together, when the latest arrives
abbrev pub joint_uses : (arrivals items : List ℕ) → List Use
joint_uses arrivals items = uses_at arrivals (latest arrivals items) items

-- by how many clocks each of them arrives before the latest
abbrev pub joint_slacks : (arrivals items : List ℕ) → List ℕ
joint_slacks arrivals items = map (λ a. latest arrivals items - get_or arrivals a 0) items

-- of each node's arguments
abbrev pub argument_slacks : (arrivals : List ℕ) → StFuncTree → List (List ℕ)
argument_slacks arrivals s = map (λ (n : StNodeTree). joint_slacks arrivals n.args) s.nodes

-- the uses of items: as arguments, node by node, and as results
abbrev pub item_uses : (arrivals : List ℕ) → StFuncTree → List Use
item_uses arrivals s =
    flat_map (λ (n : StNodeTree). joint_uses arrivals n.args) s.nodes ++ joint_uses arrivals s.results

-- of each item the greatest slack of its uses, and 0 without a use
abbrev pub item_chains : (arrivals : List ℕ) → StFuncTree → List ℕ
item_chains arrivals s = map (λ i. chain_of (item_uses arrivals s) i) (range_with_len 0 (length (item_layouts s)))

-- ---- of a program

-- the arrivals of the items of instance k
abbrev pub arrivals_in : List StFuncTree → (k : ℕ) → StFuncTree → List ℕ
arrivals_in instances k s = item_arrivals (all_costs (take k instances)) s

-- one for each of the first instances: what f says of its number and the instance
pub record AreByInstance {X : Type 0} (f : ℕ → StFuncTree → X) (instances : List StFuncTree) (count : ℕ)
    (xs : List X) : Type 0 where
  pub long : length xs ≡ count
  pub each : (k : ℕ) (s : StFuncTree) → k < count → slice_get instances k ≡ Some s → slice_get xs k ≡ Some (f k s)

abbrev pub AreArguments : List StFuncTree → (count : ℕ) → List (List (List ℕ)) → Type 0
AreArguments instances count xs =
    AreByInstance (λ k s. argument_slacks (arrivals_in instances k s) s) instances count xs

abbrev pub AreChains : List StFuncTree → (count : ℕ) → List (List ℕ) → Type 0
AreChains instances count xs = AreByInstance (λ k s. item_chains (arrivals_in instances k s) s) instances count xs

abbrev pub AreResults : List StFuncTree → (count : ℕ) → List (List ℕ) → Type 0
AreResults instances count xs =
    AreByInstance (λ k s. joint_slacks (arrivals_in instances k s) s.results) instances count xs

pub record AreSlacks (instances : List StFuncTree) (t : SlackTables) : Type 0 where
  pub arguments : AreArguments instances (length instances) t.arguments
  pub chains : AreChains instances (length instances) t.chains
  pub results : AreResults instances (length instances) t.results

-- ---- what the code knows

-- each use is of one of so many items
pub record UsesBelow (count : ℕ) (s : StFuncTree) : Type 0 where
  pub nodes : (i : ℕ) (n : StNodeTree) → slice_get s.nodes i ≡ Some n → AllBelow n.args count
  pub results : AllBelow s.results count
