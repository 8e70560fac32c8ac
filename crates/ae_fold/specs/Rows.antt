-- Nets by lane and then by place, and their folds.
use Rattle.std.specs.Prelude.{◌≡◌, ℕ, ◌+◌, ◌-◌, ◌*◌, ◌/◌, ◌%◌, ◌^◌, ◌<◌, ◌≤◌, ◌++◌, List, map, Option, Some, None, length, get_or, slice_get, nat_lt, if◌then◌else◌}
use Rattle.ae_netlist.specs.declared.cell.NetId.{NetId}
use Rattle.ae_netlist.specs.declared.cell.SizedCell.{SizedCell}
use Rattle.ae_netlist.specs.Circuit.{IsNet}
use Rattle.ae_netlist.specs.Runs.{Clock, word_at, InEveryRun, InEveryResetRun}
use Rattle.ae_clocked.specs.Signals.{IsLater}
use Rattle.ae_clocked.specs.Rings.{rings}
use Rattle.ae_ops.specs.Folds.{fold_to}
use Rattle.ae_fold.specs.declared.words.WordFold.{WordFold}
use Rattle.ae_fold.specs.declared.plan.Plan.{Plan}
use Rattle.ae_fold.specs.declared.feedback.Loop.{Loop}
use Rattle.ae_fold.specs.declared.marks.SlotMark.{SlotMark}
use Rattle.ae_fold.specs.Folding.{Fit, fold_at}
use Rattle.ae_fold.specs.Feedback.{Continues, Leads, MayPlace, TurnsAlways}

-- the numbers of a fold, where the levels are the logarithm of the lanes, rounded up
pub record IsPlan (plan : Plan) : Type 0 where
  pub some : 1 ≤ plan.slots
  pub wide : 1 ≤ plan.lanes
  pub few : plan.lanes ≤ 4096
  pub deep : plan.lanes ≤ 2 ^ plan.levels
  pub least : (k : ℕ) → k < plan.levels → 2 ^ k < plan.lanes
  pub shallow : plan.levels ≤ 12
  pub lasting : 1 ≤ plan.inner
  pub room : plan.slots * plan.inner ≤ plan.period
  pub high : plan.period ≤ 4096
  pub placed : 1 ≤ plan.stride
  pub small : plan.stride ≤ 16384

-- net i of a list
abbrev pub net_at : List NetId → ℕ → ℕ
net_at nets i = (get_or nets i (record { 0 = 0 })).0

-- nets of the words that are folded by these, in turn
pub record AreFoldNets (cells : List SizedCell) (folds : List WordFold) (nets : List NetId) : Type 0 where
  pub each : (q : ℕ) → q < length nets → IsNet cells (net_at nets q) (fold_at folds q).width

-- the word at a place of lane i, where a lane has so many places
abbrev pub row_word : List Clock → (t : ℕ) → List NetId → (stride place i : ℕ) → ℕ
row_word run t nets stride place i = word_at run t (net_at nets (i * stride + place))

-- net y has, so many clocks later, the fold of the words at its place from lane 0 to lane l
pub record IsOverLanes (cells : List SizedCell) (fold : WordFold) (nets : List NetId)
    (stride place l levels y : ℕ) : Type 0 where
  pub net : IsNet cells y fold.width
  pub words : InEveryRun cells (λ run. (t : ℕ) → t + levels < length run
      → word_at run (t + levels) y ≡ fold_to fold.op fold.width (row_word run t nets stride place) l)

-- net q of the second list has the fold at the place and up to the lane of net from + q
pub record AreOverLanes (cells : List SizedCell) (folds : List WordFold) (nets : List NetId) (stride levels from : ℕ)
    (outs : List NetId) : Type 0 where
  pub each : (q : ℕ) → q < length outs → IsOverLanes cells (fold_at folds (from + q)) nets stride ((from + q) % stride)
      ((from + q) / stride) levels (net_at outs q)

-- a net that marks slot 0, where there are more slots than one, and where loops may wait; blocks begin at clock k after reset
pub record IsMark (cells : List SizedCell) (rst slots period k inner : ℕ) (mark : SlotMark) : Type 0 where
  pub many : 2 ≤ slots
  pub net : IsNet cells mark.first.0 1
  pub words : InEveryResetRun cells rst (λ run start. Leads run start mark.first.0 period k inner)
  pub place : MayPlace cells (inner - 1) mark.ring
  pub turns : TurnsAlways cells rst mark.ring

abbrev pub Marks : List SizedCell → (rst slots period k inner : ℕ) → Option SlotMark → Type 0
Marks cells rst slots period k inner None = slots ≡ 1
Marks cells rst slots period k inner (Some mark) = IsMark cells rst slots period k inner mark

-- a loop over net x
pub record IsLoop (cells : List SizedCell) (rst : ℕ) (fold : WordFold) (x first inner : ℕ) (one : Loop) : Type 0 where
  pub net : IsNet cells one.word.0 fold.width
  pub old : IsNet cells one.back.0 fold.width
  pub words : InEveryResetRun cells rst
      (λ run start. Continues run start one.word.0 fold.op fold.width x first one.word.0 (inner - 1))
  pub late : InEveryResetRun cells rst (λ run start. IsLater run start one.back.0 one.word.0 (inner - 1))

-- a loop over each net from a place on
pub record AreLoops (cells : List SizedCell) (rst : ℕ) (folds : List WordFold) (nets : List NetId)
    (from first inner : ℕ) (loops : List Loop) : Type 0 where
  pub each : (p : ℕ) (one : Loop) → slice_get loops p ≡ Some one
      → IsLoop cells rst (fold_at folds (from + p)) (net_at nets (from + p)) first inner one

-- net y has, d clocks after the place and lane l of each slot, the fold of that place's words of all lanes of the slots before and of lanes 0 to l of this
abbrev pub Scans : (fold : WordFold) (nets : List NetId) → Plan → (k d place l : ℕ) → List Clock → (start y : ℕ)
    → Type 0
Scans fold nets plan k d place l run start y =
    (b q m : ℕ) (v : ℕ → ℕ) → q < plan.slots → m < plan.inner
    → start + (k + b * plan.period + q * plan.inner + m + d) < length run → Fit fold.width v (q * plan.lanes + l)
    → ((j i : ℕ) → j ≤ q → i < plan.lanes → row_word run
    (start + (k + b * plan.period + j * plan.inner + m)) nets plan.stride place i ≡ v (j * plan.lanes + i))
    → word_at run (start + (k + b * plan.period + q * plan.inner + m + d)) y ≡ fold_to fold.op fold.width v
    (q * plan.lanes + l)

-- the same in every reset run
pub record IsScan (cells : List SizedCell) (rst : ℕ) (fold : WordFold) (nets : List NetId) (plan : Plan)
    (k d place l y : ℕ) : Type 0 where
  pub net : IsNet cells y fold.width
  pub words : InEveryResetRun cells rst (λ run start. Scans fold nets plan k d place l run start y)

-- net q of the second list scans up to the place and lane of net from + q
pub record AreScans (cells : List SizedCell) (rst : ℕ) (folds : List WordFold) (nets : List NetId) (plan : Plan)
    (k d from : ℕ) (outs : List NetId) : Type 0 where
  pub each : (q : ℕ) (y : NetId) → slice_get outs q ≡ Some y
      → IsScan cells rst (fold_at folds (from + q)) nets plan k d ((from + q) % plan.stride)
      ((from + q) / plan.stride) y.0

-- net z goes on from a loop over another lane
pub record Follows (cells : List SizedCell) (fold : WordFold) (x first : ℕ) (one : Loop) (z : ℕ) : Type 0 where
  pub net : IsNet cells z fold.width
  pub words : InEveryRun cells (λ run. (start y d : ℕ) → IsLater run start one.back.0 y d
      → Continues run start z fold.op fold.width x first y d)

-- so many nets go on from the loops over the last lane, place by place
pub record AreFollowers (cells : List SizedCell) (folds : List WordFold) (nets : List NetId) (stride first : ℕ)
    (loops : List Loop) (outs : List NetId) : Type 0 where
  pub each : (q : ℕ) (one : Loop) (z : NetId) → slice_get loops (q % stride) ≡ Some one → slice_get outs q ≡ Some z
      → Follows cells (fold_at folds q) (net_at nets q) first one z.0

-- loops over the nets from a place on, the nets before it going on from them
pub record AreLooped (cells : List SizedCell) (rst : ℕ) (folds : List WordFold) (nets : List NetId)
    (from stride first inner : ℕ) (outs : List NetId) : Type 0 where
  pub loops : List Loop
  pub followers : List NetId
  pub long : length loops ≡ stride
  pub before : length followers ≡ from
  pub over : AreLoops cells rst folds nets from first inner loops
  pub follow : AreFollowers cells folds nets stride first loops followers
  pub is : outs ≡ followers ++ map (λ (one : Loop). one.word) loops

-- the nets themselves where there is no mark, and else those of the loops
abbrev pub AreEnds : List SizedCell → (rst : ℕ) → List WordFold → List NetId → (from stride inner : ℕ) → Option SlotMark
    → List NetId → Type 0
AreEnds cells rst folds nets from stride inner None outs = outs ≡ nets
AreEnds cells rst folds nets from stride inner (Some mark) outs =
    AreLooped cells rst folds nets from stride mark.first.0 inner outs

-- one where there is a mark
abbrev pub marks_in : Option SlotMark → ℕ
marks_in None = 0
marks_in (Some mark) = 1

-- the clocks that a loop takes
abbrev pub wait_of : (slots : ℕ) → ℕ
wait_of slots = if nat_lt 1 slots then 1 else 0

-- the most memories in which the words of its loops wait
abbrev pub loop_memories : Plan → ℕ
loop_memories plan = wait_of plan.slots * (plan.stride * rings plan.inner)
