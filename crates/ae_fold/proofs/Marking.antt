-- The phase of a block's clocks, and the net that marks the first of them.
use Rattle.std.proofs.Common.{ℕ, ◌≡◌, ◌+◌, ◌-◌, ◌*◌, ◌/◌, ◌%◌, ◌<◌, ◌≤◌, nat_lt, if◌then◌else◌, Bool, true, false, Option, Some, None, IfSome, List, arith, refl, ◌∙◌, rules}
use Rattle.std.proofs.Math.Nat.{add-mul, mod-add-div'}
use Rattle.std.proofs.lemmas.Nat.{mod-mul-add}
use Rattle.ae_netlist.specs.Runs.{Clock}
use Rattle.ae_clocked.specs.Phases.{phase_of, MarksPhases}
use Rattle.ae_netlist.specs.declared.cell.SizedCell.{SizedCell}
use Rattle.ae_netlist.specs.Circuit.{Extends, IsNet}
use Rattle.ae_netlist.proofs.Growing.{extends_trans, net_later}
use Rattle.ae_fold.specs.declared.marks.SlotMark.{SlotMark}
use Rattle.ae_fold.specs.Feedback.{Leads, MayPlace, TurnsAlways}
use Rattle.ae_fold.specs.Rows.{IsMark, Marks, marks_in, wait_of}
use Rattle.ae_fold.proofs.Storing.{may_place_grows, turns_grow}

-- clock m of block b, where the blocks begin at clock k
pub block_phase : (p k b m : ℕ) → m < p → phase_of p (k % p) (k + b * p + m) ≡ m
unfolding phase_of
block_phase p k b m l =
    let d : k % p + k / p * p ≡ k = mod-add-div' k p in
    let s1 : (k / p + b + 1) * p ≡ (k / p + b) * p + 1 * p = add-mul (k / p + b) 1 p in
    let s2 : (k / p + b) * p ≡ k / p * p + b * p = add-mul (k / p) b p in
    let e : k + b * p + m + p - k % p ≡ (k / p + b + 1) * p + m = omega arith in
    rw e (mod-mul-add (k / p + b + 1) p m l)

pub leads : (run : List Clock) (start p k inner y : ℕ) → inner < p → MarksPhases run start y p (k % p) inner → Leads run start y p k inner
leads run start p k inner y less marks = record {
  high = λ b m l long.
      let at : phase_of p (k % p) (k + b * p + m) ≡ m = block_phase p k b m (omega arith) in
      let lt : nat_lt m inner ≡ true = search rules in
      marks (k + b * p + m) long ∙ rw (at, lt) refl;
  low = λ b m ge l long.
      let at : phase_of p (k % p) (k + b * p + m) ≡ m = block_phase p k b m l in
      let lt : nat_lt m inner ≡ false = search rules in
      marks (k + b * p + m) long ∙ rw (at, lt) refl;
}

-- ---- as a netlist grows

pub mark_grows : {a b : List SizedCell} {rst slots period k inner : ℕ} {mark : SlotMark} → Extends a b → IsMark a rst slots period k inner mark
    → IsMark b rst slots period k inner mark
mark_grows {mark = mark} g h = record {
  many = h.many;
  net = net_later g h.net;
  words = λ all e run r. h.words all (extends_trans g e) run r;
  place = may_place_grows _ _ _ mark.ring g h.place;
  turns = turns_grow _ _ _ mark.ring g h.turns;
}

pub marks_grow : (a b : List SizedCell) (rst slots period k inner : ℕ) (mark : Option SlotMark) → Extends a b → Marks a rst slots period k inner mark
    → Marks b rst slots period k inner mark
marks_grow a b rst slots period k inner None g h = h
marks_grow a b rst slots period k inner (Some y) g h = mark_grows g h

pub marks_net : (a : List SizedCell) (rst slots period k inner : ℕ) (mark : Option SlotMark) → Marks a rst slots period k inner mark
    → IfSome mark (λ (m : SlotMark). IsNet a m.first.0 1)
marks_net a rst slots period k inner None h = tt
marks_net a rst slots period k inner (Some y) h = h.net

pub marks_place : (a : List SizedCell) (rst slots period k inner : ℕ) (mark : Option SlotMark) → Marks a rst slots period k inner mark
    → IfSome mark (λ (m : SlotMark). MayPlace a (inner - 1) m.ring)
marks_place a rst slots period k inner None h = tt
marks_place a rst slots period k inner (Some y) h = h.place

pub marks_turn : (a : List SizedCell) (rst slots period k inner : ℕ) (mark : Option SlotMark) → Marks a rst slots period k inner mark
    → IfSome mark (λ (m : SlotMark). TurnsAlways a rst m.ring)
marks_turn a rst slots period k inner None h = tt
marks_turn a rst slots period k inner (Some y) h = h.turns

pub marks_wait : (a : List SizedCell) (rst slots period k inner : ℕ) (mark : Option SlotMark) → Marks a rst slots period k inner mark
    → marks_in mark ≡ wait_of slots
marks_wait a rst slots period k inner None h = rw h refl
marks_wait a rst slots period k inner (Some y) h = one_more slots h.many
  where
    one_more : (slots : ℕ) → 2 ≤ slots → 1 ≡ wait_of slots
    one_more slots h = let t : nat_lt 1 slots ≡ true = search rules in rw t refl

-- one where there are more slots than one
pub wait_times : (slots n : ℕ) → wait_of slots * n ≡ (if nat_lt 1 slots then n else 0)
wait_times slots n = by (nat_lt 1 slots)
  where
    by : (b : Bool) → (if b then 1 else 0) * n ≡ (if b then n else 0)
    by true = omega arith
    by false = omega arith
