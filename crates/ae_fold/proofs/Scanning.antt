-- Folds over slots behind those over lanes.
use Rattle.std.proofs.Common.{ℕ, suc, ◌≡◌, ◌+◌, ◌-◌, ◌*◌, ◌<◌, ◌≤◌, List, length, arith, ap, ◌∙◌}
use Rattle.std.proofs.Math.Nat.{suc-mul, mul-le-mul_right}
use Rattle.ae_netlist.specs.declared.cell.NetId.{NetId}
use Rattle.ae_netlist.specs.declared.cell.SizedCell.{SizedCell}
use Rattle.ae_netlist.specs.Circuit.{IsNet}
use Rattle.ae_netlist.specs.Runs.{Clock, word_at, InEveryRun}
use Rattle.ae_clocked.specs.Signals.{IsLater}
use Rattle.ae_ops.specs.Folds.{IsFold, fold_to}
use Rattle.ae_fold.specs.declared.words.WordFold.{WordFold}
use Rattle.ae_fold.specs.declared.plan.Plan.{Plan}
use Rattle.ae_fold.specs.declared.feedback.Loop.{Loop}
use Rattle.ae_fold.specs.declared.marks.SlotMark.{SlotMark}
use Rattle.ae_fold.specs.Feedback.{Continues, Leads}
use Rattle.ae_fold.specs.Rows.{IsPlan, IsOverLanes, IsMark, IsLoop, IsScan, Scans, row_word}
use Rattle.ae_fold.proofs.Associative.{fold_same}
use Rattle.ae_fold.proofs.Scanned.{scanned}

-- where there is one slot, the fold over its lanes is all
pub scan_once : (cells : List SizedCell) (rst : ℕ) (fold : WordFold) (nets : List NetId) (plan : Plan) (k place l y : ℕ) → plan.slots ≡ 1 → l < plan.lanes
    → IsOverLanes cells fold nets plan.stride place l plan.levels y
    → IsScan cells rst fold nets plan k plan.levels place l y
scan_once cells rst fold nets plan k place l y one ll over = record {
  net = over.net;
  words = λ all e run r start reset b q m v lq lm long fit given.
      let t : ℕ = start + (k + b * plan.period + q * plan.inner + m) in
      let at : start + (k + b * plan.period + q * plan.inner + m + plan.levels) ≡ t + plan.levels = omega arith in
      let z : q ≡ 0 = omega arith in
      let none : q * plan.lanes ≡ 0 = ap (λ n. n * plan.lanes) z ∙ omega arith in
      let sum : word_at run (t + plan.levels) y ≡ fold_to fold.op fold.width (row_word run t nets plan.stride place) l = over.words all e run r t
      (omega arith) in
      let same : fold_to fold.op fold.width (row_word run t nets plan.stride place) l ≡ fold_to fold.op fold.width v l =
      fold_same fold.op fold.width (row_word run t nets plan.stride place) v l
      (λ i li. given q i (omega arith) (omega arith) ∙ ap v (let s : q * plan.lanes + i ≡ i = omega arith in s)) in
      let end : q * plan.lanes + l ≡ l = omega arith in
      rw (at, end) (sum ∙ same);
}

-- what a net behind a loop holds in one run
pub scans_over : (fold : WordFold) (nets : List NetId) (plan : Plan) (k place l : ℕ) (run : List Clock) (start x last first y z : ℕ) → IsPlan plan
    → IsFold fold.op → l < plan.lanes
    → Leads run start first plan.period (k + plan.levels) plan.inner
    → ((t : ℕ) → t + plan.levels < length run → word_at run (t + plan.levels) last ≡ fold_to fold.op fold.width (row_word run t nets plan.stride place)
    (plan.lanes - 1))
    → ((t : ℕ) → t + plan.levels < length run → word_at run (t + plan.levels) x ≡ fold_to fold.op fold.width (row_word run t nets plan.stride place) l)
    → Continues run start y fold.op fold.width last first y (plan.inner - 1) → Continues run start z fold.op fold.width x first y (plan.inner - 1)
    → Scans fold nets plan k (plan.levels + 1) place l run start z
scans_over fold nets plan k place l run start x last first y z p ok ll lead over_last over acc next = λ b q m v lq lm long fit given.
    let base : ℕ = start + (k + plan.levels + b * plan.period + m) in
    let at : start + (k + b * plan.period + q * plan.inner + m + (plan.levels + 1)) ≡ base + q * plan.inner + 1 = omega arith in
    let more : suc q * plan.inner ≡ q * plan.inner + plan.inner = suc-mul q plan.inner in
    let room : suc q * plan.inner ≤ plan.slots * plan.inner = mul-le-mul_right plan.inner (let s : suc q ≤ plan.slots = omega arith in s) in
    let high : plan.slots * plan.inner ≤ plan.period = p.room in
    let low : (j : ℕ) → 1 ≤ j → j ≤ q → word_at run (base + j * plan.inner) first ≡ 0 = λ j pos le.
    let up : j * plan.inner ≤ q * plan.inner = mul-le-mul_right plan.inner le in
    let one_more : 1 * plan.inner ≤ j * plan.inner = mul-le-mul_right plan.inner pos in
    let here : base + j * plan.inner ≡ start + (k + plan.levels + b * plan.period + (j * plan.inner + m)) = omega arith in
    rw here (lead.low b (j * plan.inner + m) (omega arith) (omega arith) (omega arith))
    in
    let clock : (j : ℕ) → base + j * plan.inner ≡ start + (k + b * plan.period + j * plan.inner + m) + plan.levels = λ j. omega arith in
    let slot : (j n : ℕ) → j ≤ q → n < plan.lanes
    → fold_to fold.op fold.width (row_word run (start + (k + b * plan.period + j * plan.inner + m)) nets plan.stride place) n ≡ fold_to fold.op fold.width
    (λ i. v (j * plan.lanes + i)) n = λ j n lj ln.
    fold_same fold.op fold.width (row_word run (start + (k + b * plan.period + j * plan.inner + m)) nets plan.stride place) (λ i. v (j * plan.lanes + i)) n
    (λ i li. given j i lj (omega arith))
    in
    let own : (j : ℕ) → j ≤ q → word_at run (base + j * plan.inner) x ≡ fold_to fold.op fold.width (λ i. v (j * plan.lanes + i)) l = λ j lj.
    let up : j * plan.inner ≤ q * plan.inner = mul-le-mul_right plan.inner lj in
    rw (clock j) (over (start + (k + b * plan.period + j * plan.inner + m)) (omega arith) ∙ slot j l lj ll)
    in
    let all_of : (j : ℕ) → j < q → word_at run (base + j * plan.inner) last ≡ fold_to fold.op fold.width (λ i. v (j * plan.lanes + i))
    (plan.lanes - 1) = λ j lj.
    let up : j * plan.inner ≤ q * plan.inner = mul-le-mul_right plan.inner (let s : j ≤ q = omega arith in s) in
    let wide : 1 ≤ plan.lanes = p.wide in
    rw (clock j) (over_last (start + (k + b * plan.period + j * plan.inner + m)) (omega arith) ∙ slot j (plan.lanes - 1) (omega arith) (omega arith))
    in
    rw at (scanned run start z y fold.op fold.width x last first plan.inner base v plan.lanes l (omega arith) ok p.lasting p.wide acc next
    (lead.high b m lm (omega arith)) q fit low own all_of (omega arith))

-- the loop of the last lane
pub scan_loop : (cells : List SizedCell) (rst : ℕ) (fold : WordFold) (nets : List NetId) (plan : Plan) (k place last : ℕ) (mark_of : SlotMark) (one : Loop)
    → IsPlan plan
    → IsFold fold.op
    → IsMark cells rst plan.slots plan.period (k + plan.levels) plan.inner mark_of
    → IsOverLanes cells fold nets plan.stride place (plan.lanes - 1) plan.levels last → IsLoop cells rst fold last mark_of.first.0 plan.inner one
    → IsScan cells rst fold nets plan k (plan.levels + 1) place (plan.lanes - 1) one.word.0
scan_loop cells rst fold nets plan k place last mark_of one p ok mark over loop = record {
  net = loop.net;
  words = λ all e run r start reset.
      let wide : 1 ≤ plan.lanes = p.wide in
      scans_over fold nets plan k place (plan.lanes - 1) run start last last mark_of.first.0 one.word.0 one.word.0 p ok (omega arith)
      (mark.words all e run r start reset)
      (over.words all e run r) (over.words all e run r) (loop.words all e run r start reset) (loop.words all e run r start reset);
}

-- a lane behind it
pub scan_follow : (cells : List SizedCell) (rst : ℕ) (fold : WordFold) (nets : List NetId) (plan : Plan) (k place l x last : ℕ) (mark_of : SlotMark) (z : ℕ)
    (one : Loop)
    → IsPlan plan → IsFold fold.op → l < plan.lanes
    → IsMark cells rst plan.slots plan.period (k + plan.levels) plan.inner mark_of
    → IsOverLanes cells fold nets plan.stride place (plan.lanes - 1) plan.levels last → IsOverLanes cells fold nets plan.stride place l plan.levels x
    → IsLoop cells rst fold last mark_of.first.0 plan.inner one → IsNet cells z fold.width
    → InEveryRun cells (λ run. (start y d : ℕ) → IsLater run start one.back.0 y d → Continues run start z fold.op fold.width x mark_of.first.0 y d)
    → IsScan cells rst fold nets plan k (plan.levels + 1) place l z
scan_follow cells rst fold nets plan k place l x last mark_of z one p ok ll mark over_last over loop net next = record {
  net = net;
  words = λ all e run r start reset.
      scans_over fold nets plan k place l run start x last mark_of.first.0 one.word.0 z p ok ll (mark.words all e run r start reset)
      (over_last.words all e run r) (over.words all e run r) (loop.words all e run r start reset)
      (next all e run r start one.word.0 (plan.inner - 1) (loop.late all e run r start reset));
}
