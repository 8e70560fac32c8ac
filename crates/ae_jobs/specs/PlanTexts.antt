-- The text of `plan`: what a program costs, and when and how each item of the program function arrives.
use Rattle.std.specs.Prelude.{ℕ, ◌+◌, List, [], ◌∷◌, ◌++◌, length, flat_map, slice_get, unwrap_or, codes}
use Rattle.std.specs.Fmt.{decimal}
use Rattle.ae_seq.specs.ProgramTree.{ParamTree, NodeTree, FuncTree, ProgramTree}
use Rattle.ae_sttype.specs.StTree.{StTree}
use Rattle.ae_sttype.specs.TypeText.{st_text}
use Rattle.ae_rewrite.specs.StProgramTree.{StFuncTree}
use Rattle.ae_rewrite.specs.Sound.{item_layout, item_layouts}
use Rattle.ae_delay.specs.declared.own.OwnCosts.{OwnCosts}
use Rattle.ae_delay.specs.Costs.{NodeTiming}
use Rattle.ae_fuse.specs.Costing.{costing}

-- `WORDS NUMBER`
abbrev pub counted_line : (words : List ℕ) (number : ℕ) → List ℕ
counted_line words n = ((words ++ 32 ∷ []) ++ decimal n) ++ 10 ∷ []

-- `LINE NAME ARRIVAL LAYOUT`
abbrev pub item_line : (line : ℕ) (name : List ℕ) (arrival : ℕ) (layout : StTree) → List ℕ
item_line l n a s = ((((((decimal l ++ 32 ∷ []) ++ n) ++ 32 ∷ []) ++ decimal a) ++ 32 ∷ []) ++ st_text s) ++ 10 ∷ []

-- the lines of parameters, the first of which is item i, and of nodes
abbrev pub param_item_lines : (line : ℕ) (arrivals : List ℕ) (layouts : List StTree) (i : ℕ) → List ParamTree → List ℕ
param_item_lines line as_all layouts i [] = []
param_item_lines line as_all layouts i (q ∷ qs) =
    item_line line q.name (unwrap_or (slice_get as_all i) 0) (item_layout layouts i)
    ++ param_item_lines line as_all layouts (i + 1) qs

abbrev pub node_item_lines : (arrivals : List ℕ) (layouts : List StTree) (i : ℕ) → List NodeTree → List ℕ
node_item_lines as_all layouts i [] = []
node_item_lines as_all layouts i (n ∷ ns) =
    item_line n.line n.name (unwrap_or (slice_get as_all i) 0) (item_layout layouts i)
    ++ node_item_lines as_all layouts (i + 1) ns

abbrev pub result_line : (line : ℕ) (arrivals : List ℕ) (layouts : List StTree) (item : ℕ) → List ℕ
result_line line as_all layouts r =
    item_line line (codes "end") (unwrap_or (slice_get as_all r) 0) (item_layout layouts r)

abbrev pub cost_lines : (slowdown : ℕ) → OwnCosts → List ℕ
cost_lines slowdown c =
    ((counted_line (codes "slowdown") slowdown ++ counted_line (codes "latency") c.latency)
    ++ counted_line (codes "muls") c.muls) ++ counted_line (codes "load") c.load

abbrev pub item_lines : FuncTree → (arrivals : List ℕ) (layouts : List StTree) → List ℕ
item_lines f as_all layouts =
    (param_item_lines f.line as_all layouts 0 f.params ++ node_item_lines as_all layouts (length f.params) f.nodes)
    ++ flat_map (result_line f.end_line as_all layouts) f.results

-- what `plan` writes of a function with these costs and arrivals
abbrev pub planned_text : (slowdown : ℕ) → OwnCosts → FuncTree → (arrivals : List ℕ) (layouts : List StTree) → List ℕ
planned_text slowdown c f as_all layouts = cost_lines slowdown c ++ item_lines f as_all layouts

-- the costs, and then the items and the results of the program function
abbrev pub plan_text : (slowdown : ℕ) → ProgramTree → FuncTree → StFuncTree → List NodeTiming → List ℕ
plan_text slowdown p f s ts =
    planned_text slowdown (costing p f s ts).costs f (costing p f s ts).arrivals (item_layouts s)
