-- Levels of a sweep over the lanes of many nets.
use Rattle.std.specs.Prelude.{◌≡◌, ℕ, ◌+◌, ◌-◌, ◌<◌, ◌≤◌, ◌^◌, List, length, slice_get, Some}
use Rattle.ae_word.specs.declared.op.WordOp.{WordOp}
use Rattle.ae_netlist.specs.declared.cell.NetId.{NetId}
use Rattle.ae_netlist.specs.declared.cell.SizedCell.{SizedCell}
use Rattle.ae_netlist.specs.Circuit.{IsNet}
use Rattle.ae_netlist.specs.Runs.{InEveryRun}
use Rattle.ae_clocked.specs.Signals.{IsNextOf}
use Rattle.ae_ops.specs.Folds.{combine, fold_to}
use Rattle.ae_fold.specs.declared.words.WordFold.{WordFold}
use Rattle.ae_fold.specs.Feedback.{IsJoined}
use Rattle.ae_fold.specs.Folding.{fold_at}
use Rattle.ae_fold.specs.Rows.{net_at, row_word}

-- f has at l the fold of the last s numbers of x up to number l, or of all of them where they are fewer
pub record AreWindows (op : WordOp) (w : ℕ) (x f : ℕ → ℕ) (s n : ℕ) : Type 0 where
  pub few : (l : ℕ) → l < n → l < s → f l ≡ fold_to op w x l
  pub many : (l : ℕ) → l < n → s ≤ l → f l ≡ fold_to op w (λ i. x (l + 1 - s + i)) (s - 1)

-- one level of the sweep: each number from s on is combined with the one s places before
pub record IsSweep (op : WordOp) (w : ℕ) (f g : ℕ → ℕ) (s n : ℕ) : Type 0 where
  pub stay : (l : ℕ) → l < n → l < s → g l ≡ f l
  pub join : (l : ℕ) → l < n → s ≤ l → g l ≡ combine op w (f (l - s)) (f l)

-- net y has, one clock later, the word of net q behind that of the net so many places before, or alone where there is none
pub record IsJoin (cells : List SizedCell) (fold : WordFold) (nets : List NetId) (q reach y : ℕ) : Type 0 where
  pub net : IsNet cells y fold.width
  pub both : reach ≤ q → InEveryRun cells (λ run. IsJoined run y fold.op fold.width (net_at nets (q - reach))
      (net_at nets q))
  pub one : q < reach → InEveryRun cells (λ run. IsNextOf run y (net_at nets q))

pub record AreJoins (cells : List SizedCell) (folds : List WordFold) (nets : List NetId) (reach : ℕ)
    (outs : List NetId) : Type 0 where
  pub each : (q : ℕ) (y : NetId) → slice_get outs q ≡ Some y → IsJoin cells (fold_at folds q) nets q reach y.0

-- the words of later nets are, some clocks later and at each place, folds of windows of those of the first nets
abbrev pub Windowed : List SizedCell → List WordFold → (stride lanes : ℕ) → List NetId → (d : ℕ) → List NetId → Type 0
Windowed cells folds stride lanes nets d later =
    InEveryRun cells (λ run. (p t : ℕ) → p < stride → t + d < length run
    → AreWindows (fold_at folds p).op (fold_at folds p).width (row_word run t nets stride p)
    (row_word run (t + d) later stride p) (2 ^ d) lanes)
