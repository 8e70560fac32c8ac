-- Where the cells of the nodes of an instance stand in a netlist.
use Rattle.std.specs.Prelude.{◌≡◌, ℕ, ◌+◌, ◌*◌, ◌≤◌, List, length, Some, slice_get}
use Rattle.ae_netlist.specs.declared.cell.SizedCell.{SizedCell}
use Rattle.ae_netlist.specs.Counts.{is_mul, number_of}
use Rattle.ae_rewrite.specs.Sound.{item_layouts}
use Rattle.ae_rewrite.specs.StProgramTree.{StFuncTree}
use Rattle.ae_delay.specs.Costs.{NodeTiming, result_uses, slack_load}
use Rattle.ae_lower.specs.Lowering.{timings_in}

-- from one cell to another there are at most 16 for each unit of load, and exactly so many products
pub record IsStretch (cells : List SizedCell) (from to load products : ℕ) : Type 0 where
  pub rising : from ≤ to
  pub few : to ≤ from + 16 * load
  pub muls : number_of is_mul cells to ≡ number_of is_mul cells from + products

-- the cells of the first node begin behind so many others, those of each node end where the next begin, and those of the last
-- with the netlist, where the delays of the results stand
pub record AreStretches (cells : List SizedCell) (begin : ℕ) (ts : List NodeTiming) (delays : ℕ)
    (marks : List ℕ) : Type 0 where
  pub first : (m : ℕ) → slice_get marks 0 ≡ Some m → m ≡ begin
  pub between : (j m n : ℕ) (t : NodeTiming) → slice_get ts j ≡ Some t → slice_get marks j ≡ Some m
      → slice_get marks (j + 1) ≡ Some n → IsStretch cells m n t.load t.muls
  pub last : (j m : ℕ) (t : NodeTiming) → slice_get ts j ≡ Some t → slice_get marks j ≡ Some m → length marks ≡ j + 1
      → IsStretch cells m (length cells) (t.load + delays) t.muls

-- the load of the delays of an instance's results
abbrev pub results_load : List StFuncTree → (k : ℕ) → StFuncTree → ℕ
results_load instances k s = slack_load (item_layouts s) (result_uses s (timings_in instances k s))

-- the cells of the nodes of instance k, the first behind so many others
abbrev pub AreNodeCells : List StFuncTree → (k : ℕ) → StFuncTree → List SizedCell → (begin : ℕ) → (marks : List ℕ)
    → Type 0
AreNodeCells instances k s cells begin marks =
    AreStretches cells begin (timings_in instances k s) (results_load instances k s) marks
