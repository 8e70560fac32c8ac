-- What is told of instances that are weighed before the load of the program function is known.
use Rattle.std.specs.Prelude.{◌≡◌, ℕ, ◌<◌, List, [], ◌∷◌, ◌++◌, length, take, Some, slice_get}
use Rattle.ae_rewrite.specs.StProgramTree.{StFuncTree}
use Rattle.ae_delay.specs.declared.own.OwnCosts.{OwnCosts}
use Rattle.ae_delay.specs.Costs.{all_costs, func_costs}
use Rattle.ae_delay.specs.Timings.{item_arrivals, item_meets}

-- what is told of one more instance, where its load is below 1,000,000,000
pub record HasOneMore (told : (known : List OwnCosts) → StFuncTree → List ℕ) (known : List OwnCosts) (s : StFuncTree)
    (old new : List (List ℕ)) : Type 0 where
  pub own : List ℕ
  pub added : new ≡ old ++ own ∷ []
  pub is : (func_costs known s).load < 1000000000 → own ≡ told known s

-- its arrivals, and when the arguments of its nodes and its results have come
abbrev pub HasMore : (known : List OwnCosts) → StFuncTree → (old new : List (List ℕ)) → Type 0
HasMore known s old new = HasOneMore item_arrivals known s old new

abbrev pub HaveMoreMet : (known : List OwnCosts) → StFuncTree → (old new : List (List ℕ)) → Type 0
HaveMoreMet known s old new = HasOneMore item_meets known s old new

-- what is told of so many instances
pub record AreToldFirst (told : (known : List OwnCosts) → StFuncTree → List ℕ) (count : ℕ)
    (instances : List StFuncTree) (all : List (List ℕ)) : Type 0 where
  pub long : length all ≡ count
  pub each : (k : ℕ) (s : StFuncTree) → k < count → slice_get instances k ≡ Some s
      → (func_costs (all_costs (take k instances)) s).load < 1000000000
      → slice_get all k ≡ Some (told (all_costs (take k instances)) s)

abbrev pub AreFirst : (count : ℕ) (instances : List StFuncTree) (all : List (List ℕ)) → Type 0
AreFirst count instances all = AreToldFirst item_arrivals count instances all
