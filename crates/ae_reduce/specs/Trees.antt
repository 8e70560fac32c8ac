-- Levels of pairs over the lanes of many nets.
use Rattle.std.specs.Prelude.{◌≡◌, ℕ, ◌+◌, ◌-◌, ◌*◌, ◌/◌, ◌<◌, ◌≤◌, List, length, slice_get, Some}
use Rattle.ae_netlist.specs.declared.cell.NetId.{NetId}
use Rattle.ae_netlist.specs.declared.cell.SizedCell.{SizedCell}
use Rattle.ae_netlist.specs.Circuit.{IsNet}
use Rattle.ae_netlist.specs.Runs.{InEveryRun}
use Rattle.ae_clocked.specs.Signals.{IsNextOf}
use Rattle.ae_ops.specs.Folds.{fold_to}
use Rattle.ae_fold.specs.declared.words.WordFold.{WordFold}
use Rattle.ae_fold.specs.Feedback.{IsJoined}
use Rattle.ae_fold.specs.Folding.{fold_at}
use Rattle.ae_fold.specs.Rows.{net_at, row_word}

-- net y has, one clock later, the words of two of the nets combined, or that of the left one where the right one is past the last
pub record IsPair (cells : List SizedCell) (fold : WordFold) (nets : List NetId) (left right y : ℕ) : Type 0 where
  pub net : IsNet cells y fold.width
  pub both : right < length nets → InEveryRun cells
      (λ run. IsJoined run y fold.op fold.width (net_at nets left) (net_at nets right))
  pub one : length nets ≤ right → InEveryRun cells (λ run. IsNextOf run y (net_at nets left))

-- a net at each place of lane l for the nets at that place of lanes 2 l and 2 l + 1
pub record ArePairs (cells : List SizedCell) (folds : List WordFold) (nets : List NetId) (stride : ℕ)
    (outs : List NetId) : Type 0 where
  pub each : (q : ℕ) (y : NetId) → slice_get outs q ≡ Some y
      → IsPair cells (fold_at folds q) nets (q + q / stride * stride) (q + q / stride * stride + stride) y.0

-- the words of later nets on so many lanes fold, some clocks later and at each place, to what those of the first nets fold to
abbrev pub FoldAlike : List SizedCell → List WordFold → (stride lanes : ℕ) → List NetId → (count d : ℕ) → List NetId
    → Type 0
FoldAlike cells folds stride lanes nets count d later =
    InEveryRun cells (λ run. (p t : ℕ) → p < stride → t + d < length run
    → fold_to (fold_at folds p).op (fold_at folds p).width (row_word run (t + d) later stride p) (count - 1) ≡ fold_to
    (fold_at folds p).op (fold_at folds p).width (row_word run t nets stride p) (lanes - 1))
