-- A source, and a choice by phase between an earlier net and a source.
use Rattle.std.proofs.Common.{ℕ, ◌≡◌, ◌+◌, ◌%◌, ◌^◌, ◌<◌, ◌≤◌, ◌==◌, if◌then◌else◌, Bool, true, false, nat_lt, List, ◌∷◌, ◌++◌, [], length, take, Some, slice_get, arith, refl, sym, ap, ◌∙◌}
use Rattle.std.proofs.Math.Nat.{mod-eq_of_lt}
use Rattle.std.proofs.lemmas.List.Sums.{fold-append}
use Rattle.std.proofs.lemmas.List.{take_more, take_all, length-take-le}
use Rattle.std.proofs.lemmas.Option.{get_or_from_slice_get}
use Rattle.ae_word.specs.declared.op.WordOp.TheVariants.{Cast, Lt, Mux}
use Rattle.ae_netlist.specs.declared.cell.NetId.{NetId}
use Rattle.ae_netlist.specs.declared.cell.SizedCell.{SizedCell}
use Rattle.ae_netlist.specs.Circuit.{IsNet, Extends}
use Rattle.ae_netlist.specs.Runs.{Clock, word_at, InEveryResetRun, InEveryRunFrom}
use Rattle.ae_netlist.proofs.Growing.{extends_trans, net_later}
use Rattle.ae_netlist.proofs.Carried.{carries_extends, carries_trans}
use Rattle.ae_gates.specs.Cells.{IsConstant, IsResult}
use Rattle.ae_clocked.specs.Phases.{IsMark}
use Rattle.ae_clocked.proofs.Belonging.{counter_grows}
use Rattle.ae_moves.specs.declared.trip.Choice.{Choice}
use Rattle.ae_moves.specs.declared.trip.Choice.TheVariants.{Delayed, Constant}
use Rattle.ae_columns.specs.declared.steps.PhaseNet.{PhaseNet}
use Rattle.ae_columns.specs.declared.steps.Step.{Step}
use Rattle.ae_columns.specs.Plans.{later, choice_in}
use Rattle.ae_columns.specs.Columns.{age_of, taken, IsMarkTo, IsSource, IsPhaseNet, IsReady, AreReady, IsColumn}
use Rattle.ae_clocked.proofs.Making.{tap_grows}

-- ---- what goes on as a netlist grows

pub column_grows : (a b : List SizedCell) (rst w phase limit : ℕ) (ins : List NetId) (choice : ℕ → Choice) (y : ℕ) → Extends a b
    → IsColumn a rst w phase limit ins choice y → IsColumn b rst w phase limit ins choice y
column_grows a b rst w phase limit ins choice y g h = record { net = net_later g h.net; words = λ all e run r. h.words all (extends_trans g e) run r }

pub phase_grows : {a b : List SizedCell} {rst : ℕ} {phase : PhaseNet} → Extends a b → IsPhaseNet a rst phase → IsPhaseNet b rst phase
phase_grows {a} {b} {rst} {phase} g h =
    record {
      reset = net_later g h.reset;
      counts = counter_grows a b rst (record { period = phase.period; offset = phase.offset }) phase.net.0 g h.counts;
      low = h.low;
      high = h.high;
      limited = h.limited;
    }

pub mark_grows : (a b : List SizedCell) (rst limit y phase from : ℕ) → Extends a b → InEveryResetRun a rst (λ run start. IsMarkTo limit run start y phase from)
    → InEveryResetRun b rst (λ run start. IsMarkTo limit run start y phase from)
mark_grows a b rst limit y phase from g h = λ all e run r. h all (extends_trans g e) run r

pub ready_grows : (a b : List SizedCell) (rst w : ℕ) (ins : List NetId) (lines : List (List NetId)) (tap : ℕ) (choice : Choice) → Extends a b
    → IsReady a rst w ins lines tap choice → IsReady b rst w ins lines tap choice
ready_grows a b rst w ins lines tap (Delayed column age) g h = record { nets = h.nets; y = h.y; line = h.line; found = h.found; taps = tap_grows g h.taps }
ready_grows a b rst w ins lines tap (Constant v) g h = h

pub all_ready_grows : (a b : List SizedCell) (rst w v : ℕ) (ins : List NetId) (lines : List (List NetId)) (steps : List Step) → Extends a b
    → AreReady a rst w v ins lines steps → AreReady b rst w v ins lines steps
all_ready_grows a b rst w v ins lines steps g h = record {
  low = h.low;
  high = h.high;
  ready = λ k step found. ready_grows a b rst w ins lines step.tap step.take g (h.ready k step found);
  within = h.within;
}

-- ---- sources

pub constant_source : (cells : List SizedCell) (from rst w : ℕ) (ins : List NetId) (k y : ℕ) → IsNet cells y w
    → InEveryRunFrom from cells (λ run. IsConstant run y k) → IsSource cells rst w ins (Constant k) y
constant_source cells from rst w ins k y net h =
    record { net = net; words = λ all e run r start reset c le l. h all (carries_extends from e) run r (start + c) l }

-- ---- a comparison of the counter is a mark

pub compared_marks : (cells : List SizedCell) (rst v limit from fk fe : ℕ) (phase k : NetId) (y : NetId)
    → InEveryRunFrom fk cells (λ run. IsConstant run k.0 from)
    → InEveryRunFrom fe cells (λ run. IsResult run y.0 Lt v (phase ∷ k ∷ phase ∷ []))
    → InEveryResetRun cells rst (λ run start. IsMarkTo limit run start y.0 phase.0 from)
compared_marks cells rst v limit from fk fe phase k y ck ce = λ all e run r start reset c l small.
    let b : word_at run (start + c) k.0 ≡ from = ck all (carries_extends fk e) run r (start + c) l in
    let h : word_at run (start + c) y.0 ≡ (if nat_lt (word_at run (start + c) phase.0) (word_at run (start + c) k.0) then 1 else 0) = ce all
    (carries_extends fe e) run r (start + c) l in
    rw (← b) h

-- so is one of its low bits, where they show the phase
pub low_marks : (cells : List SizedCell) (rst v w limit from fk fs fe : ℕ) (phase shown k : NetId) (y : NetId) → limit ≤ 2 ^ v
    → InEveryRunFrom fk cells (λ run. IsConstant run k.0 from)
    → InEveryRunFrom fs cells (λ run. IsResult run shown.0 (Cast v) w (phase ∷ phase ∷ phase ∷ []))
    → InEveryRunFrom fe cells (λ run. IsResult run y.0 Lt v (shown ∷ k ∷ shown ∷ []))
    → InEveryResetRun cells rst (λ run start. IsMarkTo limit run start y.0 phase.0 from)
low_marks cells rst v w limit from fk fs fe phase shown k y enough ck cs ce = λ all e run r start reset c l small.
    let b : word_at run (start + c) k.0 ≡ from = ck all (carries_extends fk e) run r (start + c) l in
    let d : word_at run (start + c) shown.0 ≡ word_at run (start + c) phase.0 % 2 ^ v = cs all (carries_extends fs e) run r (start + c) l in
    let fits : word_at run (start + c) phase.0 < 2 ^ v = omega arith in
    let same : word_at run (start + c) shown.0 ≡ word_at run (start + c) phase.0 = d ∙ mod-eq_of_lt fits in
    let h : word_at run (start + c) y.0 ≡ (if nat_lt (word_at run (start + c) shown.0) (word_at run (start + c) k.0) then 1 else 0) = ce all
    (carries_extends fe e) run r (start + c) l in
    rw (← b, ← same) h

pub marked_marks : (cells : List SizedCell) (rst limit from : ℕ) (phase : NetId) (y : NetId)
    → InEveryResetRun cells rst (λ run start. IsMark run start y.0 phase.0 from)
    → InEveryResetRun cells rst (λ run start. IsMarkTo limit run start y.0 phase.0 from)
marked_marks cells rst limit from phase y h = λ all e run r start reset c l small. h all e run r start reset c l

-- ---- a column of one choice, and of one step more

pub column_of : (cells : List SizedCell) (rst w phase limit : ℕ) (ins : List NetId) (choice : Choice) (y : ℕ) → IsSource cells rst w ins choice y
    → IsColumn cells rst w phase limit ins (λ p. choice) y
column_of cells rst w phase limit ins choice y h =
    record { net = h.net; words = λ all e run r start reset c small le l. h.words all e run r start reset c le l }

-- the word of a choice between two
choose_word : (run : List Clock) (start c : ℕ) (ins : List NetId) (p e b s y : ℕ) (before : Choice) (step : Step) → e ≡ (if nat_lt p step.from then 1 else 0)
    → y ≡ (if e == 1 then b else s)
    → (age_of before ≤ c → b ≡ taken run start c ins before) → (age_of step.take ≤ c → s ≡ taken run start c ins step.take)
    → age_of (later p before step) ≤ c → y ≡ taken run start c ins (later p before step)
choose_word run start c ins p e b s y before step ee ey hb hs = by_case (nat_lt p step.from) refl
  where
    by_case : (v : Bool) → nat_lt p step.from ≡ v → age_of (later p before step) ≤ c → y ≡ taken run start c ins (later p before step)
    by_case true is = rw is (λ le. rw (ey, ee, is) (hb le))
    by_case false is = rw is (λ le. rw (ey, ee, is) (hs le))

pub column_more : (a b d : List SizedCell) (rst w phase limit : ℕ) (ins : List NetId) (choice : ℕ → Choice) (step : Step) (before early s y : NetId) (fy : ℕ)
    → Extends a d → Extends b d → IsColumn a rst w phase limit ins choice before.0 → IsSource b rst w ins step.take s.0 → IsNet d y.0 w
    → InEveryResetRun d rst (λ run start. IsMarkTo limit run start early.0 phase step.from)
    → InEveryRunFrom fy d (λ run. IsResult run y.0 Mux w (early ∷ before ∷ s ∷ []))
    → IsColumn d rst w phase limit ins (λ p. later p (choice p) step) y.0
column_more a b d rst w phase limit ins choice step before early s y fy ga gb hc hs net ce cy = record {
  net = net;
  words = λ all e run r start reset c small le l.
      choose_word run start c ins (word_at run (start + c) phase) (word_at run (start + c) early.0) (word_at run (start + c) before.0)
      (word_at run (start + c) s.0) (word_at run (start + c) y.0)
      (choice (word_at run (start + c) phase)) step
      (ce all e run r start reset c l small)
      (cy all (carries_extends fy e) run r (start + c) l)
      (λ m. hc.words all (extends_trans ga e) run r start reset c small m l)
      (λ m. hs.words all (extends_trans gb e) run r start reset c m l)
      le;
}

-- what every later netlist keeps
pub from_grows : {a b : List SizedCell} (from : ℕ) (P : List Clock → Type 0) → Extends a b → InEveryRunFrom from a P → InEveryRunFrom from b P
from_grows from P g h = λ all k run r. h all (carries_trans (carries_extends from g) k) run r

-- ---- with an answer that may be want of memory

pub constant_sources : (cells : List SizedCell) (from rst w : ℕ) (ins : List NetId) (k : ℕ) (y : NetId) → IsNet cells y.0 w
    → InEveryRunFrom from cells (λ run. IsConstant run y.0 k) → IsSource cells rst w ins (Constant k) y.0
constant_sources cells from rst w ins k y net h = constant_source cells from rst w ins k y.0 net h

pub columns_more : (a b d : List SizedCell) (rst w phase limit : ℕ) (ins : List NetId) (step : Step) (before early s : NetId) (fy : ℕ)
    (y : NetId)
    → Extends a d → Extends b d → IsSource b rst w ins step.take s.0 → IsNet d y.0 w
    → InEveryResetRun d rst (λ run start. IsMarkTo limit run start early.0 phase step.from)
    → InEveryRunFrom fy d (λ run. IsResult run y.0 Mux w (early ∷ before ∷ s ∷ []))
    → (choice : ℕ → Choice) → IsColumn a rst w phase limit ins choice before.0
    → IsColumn d rst w phase limit ins (λ p. later p (choice p) step) y.0
columns_more a b d rst w phase limit ins step before early s fy y ga gb hs net ce cy =
    λ choice hc. column_more a b d rst w phase limit ins choice step before early s y fy ga gb hc hs net ce cy

pub column_same : (cells : List SizedCell) (rst w phase limit : ℕ) (ins : List NetId) (f g : ℕ → Choice) (y : ℕ) → ((p : ℕ) → g p ≡ f p)
    → IsColumn cells rst w phase limit ins f y → IsColumn cells rst w phase limit ins g y
column_same cells rst w phase limit ins f g y e h = record {
  net = h.net;
  words = λ all x run r start reset c. rw (e (word_at run (start + c) phase)) (h.words all x run r start reset c);
}

pub choice_one : (p : ℕ) (step : Step) → choice_in p (step ∷ []) ≡ step.take
unfolding choice_in
choice_one p step = refl

pub choice_push : (p : ℕ) (steps : List Step) (step : Step) → 1 ≤ length steps → choice_in p (steps ++ step ∷ []) ≡ later p (choice_in p steps) step
unfolding choice_in
choice_push p [] step some = absurd (omega (arith, some))
choice_push p (s ∷ steps) step some = fold-append (later p) s.take steps (step ∷ [])

pub choice_more : (p : ℕ) (steps : List Step) (i : ℕ) (step : Step) → 1 ≤ i → i < length steps → slice_get steps i ≡ Some step
    → choice_in p (take (i + 1) steps) ≡ later p (choice_in p (take i steps)) step
choice_more p steps i step some l is =
    let n : length (take i steps) ≡ i = length-take-le i steps (omega arith) in
    ap (choice_in p) (take_more steps i step l ∙ ap (λ s. take i steps ++ s ∷ []) (get_or_from_slice_get steps i step step is)) ∙
    choice_push p (take i steps) step (omega arith)

pub first_take : (steps : List Step) (step : Step) → slice_get steps 0 ≡ Some step → take 1 steps ≡ step ∷ []
first_take [] step e = cc
first_take (s ∷ steps) step e = let same : s ≡ step = cc in ap (λ (x : Step). x ∷ []) same

pub first_column : (cells : List SizedCell) (rst w phase limit : ℕ) (ins : List NetId) (steps : List Step) (step : Step) (y : ℕ)
    → slice_get steps 0 ≡ Some step → IsSource cells rst w ins step.take y → IsColumn cells rst w phase limit ins (λ p. choice_in p (take 1 steps)) y
first_column cells rst w phase limit ins steps step y e h =
    column_same cells rst w phase limit ins (λ p. step.take) (λ p. choice_in p (take 1 steps)) y
    (λ p. ap (choice_in p) (first_take steps step e) ∙ choice_one p step) (column_of cells rst w phase limit ins step.take y h)

pub next_column : (cells : List SizedCell) (rst w phase limit : ℕ) (ins : List NetId) (steps : List Step) (i : ℕ) (step : Step) (y : ℕ) → 1 ≤ i
    → i < length steps → slice_get steps i ≡ Some step
    → IsColumn cells rst w phase limit ins (λ p. later p (choice_in p (take i steps)) step) y
    → IsColumn cells rst w phase limit ins (λ p. choice_in p (take (i + 1) steps)) y
next_column cells rst w phase limit ins steps i step y some l is h =
    column_same cells rst w phase limit ins (λ p. later p (choice_in p (take i steps)) step) (λ p. choice_in p (take (i + 1) steps)) y
    (λ p. choice_more p steps i step some l is) h

pub whole_column : (cells : List SizedCell) (rst w phase limit : ℕ) (ins : List NetId) (steps : List Step) (i : ℕ) (y : ℕ) → length steps ≤ i
    → IsColumn cells rst w phase limit ins (λ p. choice_in p (take i steps)) y → IsColumn cells rst w phase limit ins (λ p. choice_in p steps) y
whole_column cells rst w phase limit ins steps i y l h =
    column_same cells rst w phase limit ins (λ p. choice_in p (take i steps)) (λ p. choice_in p steps) y (λ p. ap (choice_in p) (sym (take_all i steps l))) h

-- ---- by a bit that marks the phases before a step

pub columns_by : (a b d : List SizedCell) (rst w : ℕ) (ins : List NetId) (step : Step) (before early s : NetId) (fy : ℕ) (y : NetId)
    → Extends a d → Extends b d → IsSource b rst w ins step.take s.0 → IsNet d y.0 w
    → InEveryRunFrom fy d (λ run. IsResult run y.0 Mux w (early ∷ before ∷ s ∷ []))
    → (phase limit : ℕ) (choice : ℕ → Choice) → InEveryResetRun a rst (λ run start. IsMarkTo limit run start early.0 phase step.from)
    → IsColumn a rst w phase limit ins choice before.0 → IsColumn d rst w phase limit ins (λ p. later p (choice p) step) y.0
columns_by a b d rst w ins step before early s fy y ga gb hs net cy = λ phase limit choice marks hc.
    column_more a b d rst w phase limit ins choice step before early s y fy ga gb hc hs net
    (mark_grows a d rst limit early.0 phase step.from ga marks) cy

pub columns_then : (a b d : List SizedCell) (rst w phase limit : ℕ) (ins : List NetId) (step : Step) (before early : NetId) (y : NetId)
    → Extends a b → InEveryResetRun b rst (λ run start. IsMarkTo limit run start early.0 phase step.from)
    → ((phase limit : ℕ) (choice : ℕ → Choice) → InEveryResetRun b rst (λ run start. IsMarkTo limit run start early.0 phase step.from)
    → IsColumn b rst w phase limit ins choice before.0 → IsColumn d rst w phase limit ins (λ p. later p (choice p) step) y.0)
    → (choice : ℕ → Choice) → IsColumn a rst w phase limit ins choice before.0
    → IsColumn d rst w phase limit ins (λ p. later p (choice p) step) y.0
columns_then a b d rst w phase limit ins step before early y g marks h = λ choice hc.
    h phase limit choice marks (column_grows a b rst w phase limit ins choice before.0 g hc)

-- two steps are one of each kind
pub columns_two : (a b d : List SizedCell) (rst w phase limit : ℕ) (ins : List NetId) (steps : List Step) (one two : Step) (before early : NetId)
    (y : NetId) → length steps ≡ 2 → slice_get steps 0 ≡ Some one → slice_get steps 1 ≡ Some two → Extends a b
    → IsSource a rst w ins one.take before.0 → InEveryResetRun b rst (λ run start. IsMarkTo limit run start early.0 phase two.from)
    → ((phase limit : ℕ) (choice : ℕ → Choice) → InEveryResetRun b rst (λ run start. IsMarkTo limit run start early.0 phase two.from)
    → IsColumn b rst w phase limit ins choice before.0 → IsColumn d rst w phase limit ins (λ p. later p (choice p) two) y.0)
    → IsColumn d rst w phase limit ins (λ p. choice_in p steps) y.0
columns_two a b d rst w phase limit ins steps one two before early y count first second g hs marks h =
    let begun = column_grows a b rst w phase limit ins (λ p. choice_in p (take 1 steps)) before.0 g
    (first_column a rst w phase limit ins steps one before.0 first hs) in
    whole_column d rst w phase limit ins steps 2 y.0 (omega (arith, count))
    (next_column d rst w phase limit ins steps 1 two y.0 (omega arith) (omega (arith, count)) second
    (h phase limit (λ p. choice_in p (take 1 steps)) marks begun))
