-- The schedule of a program: each function and budget that is reached, once.
use Rattle.std.specs.Prelude.{◌≡◌, ℕ, ◌+◌, ◌-◌, List, [], ◌∷◌, length, map, take, Option, Some, None, slice_get}
use Rattle.ae_seq.specs.ProgramTree.{ProgramTree, FuncTree, NodeTree, ParamTree}
use Rattle.ae_sttype.specs.StTree.{StTree, time}
use Rattle.ae_sttype.specs.Size.{IsInSize}
use Rattle.ae_rewrite.specs.LayoutRule.{lay_of}
use Rattle.ae_rewrite.specs.declared.calls.Call.{Call}
use Rattle.ae_rewrite.specs.Calls.{layout_at, called_by, plain_op}
use Rattle.ae_rewrite.specs.StProgramTree.{StOpTree, body, StNodeTree, StFuncTree}

-- the function is reached under the budget: it is the program function, or a node of a reached one calls it
pub data IsReached (p : ProgramTree) (slowdown : ℕ) : (func budget : ℕ) → Type 0 where
  as_program : (func budget : ℕ) → func ≡ length p.funcs - 1 → budget ≡ slowdown → IsReached p slowdown func budget
  as_called : (func budget caller clocks k : ℕ) (f : FuncTree) (n : NodeTree) (c : Call)
      → IsReached p slowdown caller clocks
      → slice_get p.funcs caller ≡ Some f → slice_get f.nodes k ≡ Some n → called_by p caller clocks n ≡ Some c
      → func ≡ c.func → budget ≡ c.budget → IsReached p slowdown func budget

-- instance number k is that of the function under the budget
pub record HasKey (instances : List StFuncTree) (k func budget : ℕ) : Type 0 where
  pub instance : StFuncTree
  pub here : slice_get instances k ≡ Some instance
  pub is_func : instance.func ≡ func
  pub is_budget : instance.budget ≡ budget

-- which instances there are, by number, function and budget
abbrev pub Keys : Type 1
Keys = (k func budget : ℕ) → Type 0

-- the node is a body: an instance of the function that it calls, under its budget
pub record IsBody (keys : Keys) (c : Call) (op : StOpTree) : Type 0 where
  pub at : ℕ
  pub is : op ≡ body at
  pub key : keys at c.func c.budget

-- what a node does, where it calls this or nothing
abbrev pub IsOp : (keys : Keys) → Option Call → (plain : Option StOpTree) → StOpTree → Type 0
IsOp keys (Some c) plain op = IsBody keys c op
IsOp keys None plain op = plain ≡ Some op

-- one copy, or as many as there are lanes
abbrev pub copies_of : Option Call → ℕ
copies_of (Some c) = c.copies
copies_of None = 1

-- a node of a function under the budget, which is item i
pub record IsStNode (p : ProgramTree) (keys : Keys) (func budget i : ℕ) (n : NodeTree) (s : StNodeTree) : Type 0 where
  pub op : IsOp keys (called_by p func budget n) (plain_op p func budget n.op n.args) s.op
  pub args : s.args ≡ n.args
  pub type : layout_at p func budget i ≡ Some s.type
  pub copies : s.copies ≡ copies_of (called_by p func budget n)
  pub line : s.line ≡ n.line

-- the nodes, one for each; they are item i and those after it
abbrev pub AreStNodes : ProgramTree → Keys → (func budget i : ℕ) → List NodeTree → List StNodeTree → Type 0
AreStNodes p keys f clocks i [] [] = Unit {0}
AreStNodes p keys f clocks i (n ∷ ns) (s ∷ ss) =
    IsStNode p keys f clocks i n s × AreStNodes p keys f clocks (i + 1) ns ss
AreStNodes p keys f clocks i _ _ = ⊥

abbrev pub param_layouts : (budget : ℕ) → List ParamTree → List (Option StTree)
param_layouts clocks ps = map (λ (q : ParamTree). lay_of q.type clocks) ps

-- an instance of its function under its budget, whose bodies are among the keys
pub record IsInstance (p : ProgramTree) (keys : Keys) (s : StFuncTree) : Type 0 where
  pub of : FuncTree
  pub known : slice_get p.funcs s.func ≡ Some of
  pub ins : param_layouts s.budget of.params ≡ map Some s.ins
  pub nodes : AreStNodes p keys s.func s.budget (length of.params) of.nodes s.nodes
  pub results : s.results ≡ of.results
  pub end_line : s.end_line ≡ of.end_line

-- ---- every layout takes the budget

pub record IsFilling (budget : ℕ) (s : StTree) : Type 0 where
  pub time : time s ≡ budget
  pub size : IsInSize s

abbrev pub AreFilling : (budget : ℕ) → List StTree → Type 0
AreFilling clocks ss = (i : ℕ) (s : StTree) → slice_get ss i ≡ Some s → IsFilling clocks s

abbrev pub node_layouts : List StNodeTree → List StTree
node_layouts ns = map (λ (n : StNodeTree). n.type) ns

-- the layouts of an instance's parameters and nodes take its budget, and are in size
pub record IsFilled (s : StFuncTree) : Type 0 where
  pub ins : AreFilling s.budget s.ins
  pub nodes : AreFilling s.budget (node_layouts s.nodes)

abbrev pub AllFilled : List StFuncTree → Type 0
AllFilled instances = (k : ℕ) (s : StFuncTree) → slice_get instances k ≡ Some s → IsFilled s

-- the instances of a program under a slowdown: each is right by those before it, and the last is the program function
pub record IsSchedule (p : ProgramTree) (slowdown : ℕ) (instances : List StFuncTree) : Type 0 where
  pub right : (k : ℕ) (s : StFuncTree) → slice_get instances k ≡ Some s → IsInstance p (HasKey (take k instances)) s
  pub once : (i k func budget : ℕ) → HasKey instances i func budget → HasKey instances k func budget → i ≡ k
  pub reached : (k func budget : ℕ) → HasKey instances k func budget → IsReached p slowdown func budget
  pub last : HasKey instances (length instances - 1) (length p.funcs - 1) slowdown
