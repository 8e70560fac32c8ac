-- What is known of functions under budgets while a schedule is made.
use Rattle.std.specs.Prelude.{◌≡◌, ℕ, ◌+◌, ◌-◌, ◌<◌, ◌≤◌, List, [], ◌∷◌, ◌++◌, length, map, take, Option, Some, None, Vec, slice_get, Bool, false, ◌||◌, nat_eq, if◌then◌else◌}
use Rattle.std.specs.declared.alloc.Global.{Global}
use Rattle.ae_seq.specs.ProgramTree.{ProgramTree, FuncTree, NodeTree}
use Rattle.ae_rewrite.specs.declared.calls.Call.{Call}
use Rattle.ae_rewrite.specs.declared.plan.Plan.{Plan}
use Rattle.ae_rewrite.specs.declared.plan.Plan.TheVariants.{Failed, Instance}
use Rattle.ae_rewrite.specs.declared.plan.Row.{Row}
use Rattle.ae_rewrite.specs.Calls.{called_by, layout_at}
use Rattle.ae_rewrite.specs.FailingLine.{failing}
use Rattle.ae_rewrite.specs.Scheduled.{Keys, HasKey, IsInstance, IsReached, IsFilled, AllFilled}
use Rattle.ae_rewrite.specs.StProgramTree.{StFuncTree}

-- the lists in vectors
abbrev pub row_items : Vec Row Global → List Row
row_items v = v.items

abbrev pub row_lists : List (Vec Row Global) → List (List Row)
row_lists vs = map row_items vs

abbrev pub number_items : Vec ℕ Global → List ℕ
number_items v = v.items

abbrev pub number_lists : List (Vec ℕ Global) → List (List ℕ)
number_lists vs = map number_items vs

-- ---- budgets, by function

-- the budget is among those of the function
pub record IsAmong (budgets : List (List ℕ)) (func budget : ℕ) : Type 0 where
  pub own : List ℕ
  pub here : slice_get budgets func ≡ Some own
  pub at : ℕ
  pub is : slice_get own at ≡ Some budget

-- no budget of a function stands twice
abbrev pub IsEachOnce : List ℕ → Type 0
IsEachOnce us = (i k u : ℕ) → slice_get us i ≡ Some u → slice_get us k ≡ Some u → i ≡ k

abbrev pub AllOnce : List (List ℕ) → Type 0
AllOnce budgets = (f : ℕ) (us : List ℕ) → slice_get budgets f ≡ Some us → IsEachOnce us

abbrev pub AllReached : ProgramTree → (slowdown : ℕ) → List (List ℕ) → Type 0
AllReached p slowdown budgets = (f u : ℕ) → IsAmong budgets f u → IsReached p slowdown f u

-- what node k of a function calls under the budget, if it calls
pub record IsCall (p : ProgramTree) (func budget k : ℕ) (c : Call) : Type 0 where
  pub of : FuncTree
  pub node : NodeTree
  pub known : slice_get p.funcs func ≡ Some of
  pub here : slice_get of.nodes k ≡ Some node
  pub is : called_by p func budget node ≡ Some c

-- the node stands in the function
pub record IsNodeOf (p : ProgramTree) (func : ℕ) (n : NodeTree) : Type 0 where
  pub of : FuncTree
  pub k : ℕ
  pub known : slice_get p.funcs func ≡ Some of
  pub here : slice_get of.nodes k ≡ Some n

-- the calls of the first nodes of a function under the budget are among the budgets
abbrev pub AreCallsAmong : ProgramTree → (func budget count : ℕ) → List (List ℕ) → Type 0
AreCallsAmong p f u m budgets = (k : ℕ) (c : Call) → k < m → IsCall p f u k c → IsAmong budgets c.func c.budget

-- all calls of a function under the budget are
abbrev pub IsClosedAt : ProgramTree → (func budget : ℕ) → List (List ℕ) → Type 0
IsClosedAt p f u budgets = (k : ℕ) (c : Call) → IsCall p f u k c → IsAmong budgets c.func c.budget

-- the budgets of functions from this number on stay, and others are added, which are reached with each slowdown of these
pub record Adds (p : ProgramTree) (slowdowns : ℕ → Type 0) (func : ℕ) (old new : List (List ℕ)) : Type 0 where
  pub count : length new ≡ length old
  pub high : (f : ℕ) → func ≤ f → slice_get new f ≡ slice_get old f
  pub kept : (f u : ℕ) → IsAmong old f u → IsAmong new f u
  pub reached : (s : ℕ) → slowdowns s → AllReached p s old → AllReached p s new
  pub once : AllOnce old → AllOnce new

-- ---- plans

-- one of a function's rows has this plan under the budget
pub record IsRowAt (own : List Row) (budget : ℕ) (plan : Plan) : Type 0 where
  pub at : ℕ
  pub is : slice_get own at ≡ Some (record { budget = budget; plan = plan })

-- row by row, the function has this plan under the budget
pub record IsPlanned (rows : List (List Row)) (func budget : ℕ) (plan : Plan) : Type 0 where
  pub own : List Row
  pub here : slice_get rows func ≡ Some own
  pub row : IsRowAt own budget plan

abbrev pub HasPlan : List (List Row) → Keys
HasPlan rows k f u = IsPlanned rows f u (Instance k)

-- a plan says whether the function fails under the budget, and at which line
abbrev pub IsFailing : ProgramTree → (func budget : ℕ) → Plan → Type 0
IsFailing p f u (Failed line) = failing p f u ≡ Some line
IsFailing p f u (Instance k) = failing p f u ≡ None

abbrev pub AreSound : ProgramTree → List (List Row) → Type 0
AreSound p rows = (f u : ℕ) (plan : Plan) → IsPlanned rows f u plan → IsFailing p f u plan

-- there is a plan for what is called
pub record IsKnown (rows : List (List Row)) (c : Call) : Type 0 where
  pub plan : Plan
  pub row : IsPlanned rows c.func c.budget plan

abbrev pub IfCalled : Option Call → (Call → Type 0) → Type 0
IfCalled None P = Unit {0}
IfCalled (Some c) P = P c

-- the node stands in the function as this item
pub record IsNodeAt (p : ProgramTree) (func item : ℕ) (n : NodeTree) : Type 0 where
  pub of : FuncTree
  pub k : ℕ
  pub known : slice_get p.funcs func ≡ Some of
  pub here : slice_get of.nodes k ≡ Some n
  pub is : item ≡ length of.params + k

-- all calls of a function under the budget have plans
abbrev pub AreCallsKnown : ProgramTree → (func budget : ℕ) → List (List Row) → Type 0
AreCallsKnown p f u rows = (k : ℕ) (c : Call) → IsCall p f u k c → IsKnown rows c

-- each item below this number has a layout
abbrev pub AreLaid : ProgramTree → (func budget count : ℕ) → Type 0
AreLaid p f u m = (i : ℕ) → i < m → layout_at p f u i ≡ None → ⊥

-- the instances are right, each once, and the rows name them all
pub record Plans (p : ProgramTree) (rows : List (List Row)) (instances : List StFuncTree) : Type 0 where
  pub sound : AreSound p rows
  pub named : (k f u : ℕ) → HasPlan rows k f u → HasKey instances k f u
  pub planned : (k f u : ℕ) → HasKey instances k f u → HasPlan rows k f u
  pub right : (k : ℕ) (s : StFuncTree) → slice_get instances k ≡ Some s → IsInstance p (HasKey (take k instances)) s
  pub filled : AllFilled instances
  pub once : (i k f u : ℕ) → HasKey instances i f u → HasKey instances k f u → i ≡ k

-- the budgets of rows
abbrev pub row_budgets : List Row → List ℕ
row_budgets rows = map (λ (r : Row). r.budget) rows

abbrev pub all_row_budgets : List (List Row) → List (List ℕ)
all_row_budgets rows = map row_budgets rows

-- no function has a budget
abbrev pub AllEmpty : List (List ℕ) → Type 0
AllEmpty budgets = (f u : ℕ) → IsAmong budgets f u → ⊥

-- a number among others, once
abbrev pub is_in : ℕ → List ℕ → Bool
is_in u [] = false
is_in u (x ∷ xs) = nat_eq x u || is_in u xs

abbrev pub with_number : List ℕ → ℕ → List ℕ
with_number xs u = if is_in u xs then xs else xs ++ u ∷ []

-- the new budgets are the old ones, and this one of this function
pub record IsWith (old : List (List ℕ)) (func budget : ℕ) (new : List (List ℕ)) : Type 0 where
  pub count : length new ≡ length old
  pub own : (us : List ℕ) → slice_get old func ≡ Some us → slice_get new func ≡ Some (with_number us budget)
  pub others : (f : ℕ) → (f ≡ func → ⊥) → slice_get new f ≡ slice_get old f

-- the budgets of the functions below the program function, where those of functions from number m on have been visited
pub record Reaches (p : ProgramTree) (slowdown m : ℕ) (budgets : List (List ℕ)) : Type 0 where
  pub count : length budgets ≡ length p.funcs - 1
  pub reached : AllReached p slowdown budgets
  pub once : AllOnce budgets
  pub program : IsClosedAt p (length p.funcs - 1) slowdown budgets
  pub closed : (f u : ℕ) → m ≤ f → IsAmong budgets f u → IsClosedAt p f u budgets

-- a new instance, right by the rows
pub record IsNext (p : ProgramTree) (rows : List (List Row)) (func budget k : ℕ)
    (old new : List StFuncTree) : Type 0 where
  pub instance : StFuncTree
  pub number : k ≡ length old
  pub more : new ≡ old ++ instance ∷ []
  pub right : IsInstance p (HasPlan rows) instance
  pub filled : IsFilled instance
  pub is_func : instance.func ≡ func
  pub is_budget : instance.budget ≡ budget

-- the plan of a function under the budget: an instance is added, or none
abbrev pub IsMade : ProgramTree → List (List Row) → (func budget : ℕ) → Plan → (old new : List StFuncTree) → Type 0
IsMade p rows f u (Failed line) old new = new ≡ old
IsMade p rows f u (Instance k) old new = IsNext p rows f u k old new
