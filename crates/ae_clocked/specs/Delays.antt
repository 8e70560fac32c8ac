-- Nets that have the words of another net, some clocks later.
use Rattle.std.specs.Prelude.{fold, max, count_by, nat_lt, ◌≡◌, ℕ, ◌+◌, ◌*◌, ◌<◌, List, length, Some, slice_get}
use Rattle.ae_netlist.specs.declared.cell.NetId.{NetId}
use Rattle.ae_netlist.specs.declared.cell.SizedCell.{SizedCell}
use Rattle.ae_netlist.specs.Circuit.{IsNet}
use Rattle.ae_netlist.specs.Runs.{Clock, word_at, InEveryRun, InEveryResetRun}
use Rattle.ae_clocked.specs.Signals.{IsLater}

-- y has in every run the word that x had d clocks before
abbrev pub IsLate : List Clock → ℕ → ℕ → ℕ → Type 0
IsLate run y x d = (t : ℕ) → t + d < length run → word_at run (t + d) y ≡ word_at run t x

-- a net that is no memory and is d clocks late
pub record IsDelay (cells : List SizedCell) (width x d y : ℕ) : Type 0 where
  pub net : IsNet cells y width
  pub words : InEveryRun cells (λ run. IsLate run y x d)

-- net k of the list is k clocks late
pub record AreDelays (cells : List SizedCell) (width x : ℕ) (nets : List NetId) : Type 0 where
  pub each : (k : ℕ) (y : NetId) → slice_get nets k ≡ Some y → IsDelay cells width x k y.0

-- net y taps x: in every reset run it has, from clock d on, the word that x had d clocks before
pub record IsTap (cells : List SizedCell) (rst width x d y : ℕ) : Type 0 where
  pub net : IsNet cells y width
  pub words : InEveryResetRun cells rst (λ run start. IsLater run start y x d)

-- each net taps x at the delay of its place
pub record AreTaps (cells : List SizedCell) (rst width x : ℕ) (taps : List ℕ) (nets : List NetId) : Type 0 where
  pub long : length nets ≡ length taps
  pub each : (k d : ℕ) (y : NetId) → slice_get taps k ≡ Some d → slice_get nets k ≡ Some y
      → IsTap cells rst width x d y.0

-- the greatest of the numbers, and 0 of none
abbrev pub greatest_of : List ℕ → ℕ
greatest_of taps = fold max 0 taps

-- the most cells that a line with these taps takes: eight for each clock of delay, and four for each tap that is late
abbrev pub line_cells : List ℕ → ℕ
line_cells taps = 8 * greatest_of taps + 4 * count_by (λ tap. nat_lt 0 tap) taps
