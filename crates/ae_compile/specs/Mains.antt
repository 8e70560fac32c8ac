-- The program function of a program with a schedule, and its instance.
use Rattle.std.specs.Prelude.{◌≡◌, ℕ, ◌+◌, ◌-◌, ◌<◌, List, length, take, Some, slice_get}
use Rattle.ae_seq.specs.ProgramTree.{FuncTree, ProgramTree}
use Rattle.ae_rewrite.specs.StProgramTree.{StFuncTree}
use Rattle.ae_rewrite.specs.Sound.{item_layouts}
use Rattle.ae_delay.specs.Costs.{NodeTiming, node_timings, all_costs}
use Rattle.ae_rewrite.specs.Interface.{main_of}

-- the instance of the program function, and the timings of its nodes
pub record IsMainInstance (p : ProgramTree) (instances : List StFuncTree) (f : FuncTree) (s : StFuncTree)
    (ts : List NodeTiming) : Type 0 where
  pub func : slice_get p.funcs (main_of p) ≡ Some f
  pub last : slice_get instances (length instances - 1) ≡ Some s
  pub timings : ts ≡ node_timings (all_costs (take (length instances - 1) instances)) s

-- the instance has a layout for each item of the function, and its results are items
pub record IsInstanceOf (f : FuncTree) (s : StFuncTree) : Type 0 where
  pub items : length (item_layouts s) ≡ length f.params + length f.nodes
  pub few : length f.params + length f.nodes < 4294967296
  pub results : (i r : ℕ) → slice_get f.results i ≡ Some r → r < length (item_layouts s)

-- something is so of the program function, its instance and the timings of its nodes
pub record HasMain (p : ProgramTree) (instances : List StFuncTree)
    (P : FuncTree → StFuncTree → List NodeTiming → Type 0) : Type 0 where
  pub func : FuncTree
  pub instance : StFuncTree
  pub timings : List NodeTiming
  pub main : IsMainInstance p instances func instance timings
  pub so : P func instance timings
