-- A register that is written in one phase of a counter holds a word for a period.
use Rattle.std.proofs.Common.{ℕ, ◌≡◌, ◌+◌, ◌<◌, List, ◌∷◌, ◌++◌, [], length, get_or, Option, Some, None, slice_get, inl, inr, arith, refl, ap, ◌∙◌}
use Rattle.std.proofs.lemmas.Bool.{cases_eq}
use Rattle.std.proofs.lemmas.List.{length_push}
use Rattle.std.proofs.lemmas.Option.{slice_get-get_or, get_or_from_slice_get}
use Rattle.ae_netlist.specs.declared.cell.SizedCell.{SizedCell}
use Rattle.ae_netlist.proofs.Gets.{get_left, get_pushed}
use Rattle.ae_columns.specs.Columns.{net_of}
use Rattle.ae_netlist.specs.declared.cell.NetId.{NetId}
use Rattle.ae_netlist.specs.Circuit.{Circuit, Extends, IsNet}
use Rattle.ae_netlist.specs.Runs.{InEveryRunFrom}
use Rattle.ae_netlist.proofs.Growing.{extends_trans, net_later}
use Rattle.ae_netlist.proofs.Carried.{carries_extends}
use Rattle.ae_gates.specs.Cells.{Grows}
use Rattle.ae_clocked.specs.Phases.{IsCounter}
use Rattle.ae_columns.specs.Held.{AreKept, IsHeld, IsKept, Keeps}
use Rattle.ae_columns.proofs.HeldLaw.{held}

pub held_made : (old new : Circuit) (y : NetId) (x counter : NetId) (w period offset q : ℕ) → offset < period → Grows old new
    → IsNet new.cells y.0 w
    → InEveryRunFrom (length old.cells) new.cells (λ run. IsKept run y.0 counter.0 q x.0)
    → (rst : ℕ) → IsCounter old.cells rst (record { period = period; offset = offset }) counter.0 → IsHeld new.cells rst w period offset q x.0 y.0
held_made old new y x counter w period offset q less g net words = λ rst counts. record {
  net = net;
  words = λ all e run is start reset.
      held run start y.0 x.0 counter.0 period offset q less (words all (carries_extends _ e) run is)
      (counts.words all (extends_trans g.extends e) run is start reset);
}

-- the input columns, and the registers of the first so many
pub record KeptSoFar (count : ℕ) (cells : List SizedCell) (rst period d arrival : ℕ) (ins : List NetId) (held : List (Option ℕ))
    (all : List NetId) : Type 0 where
  pub long : length all ≡ length ins + count
  pub first : (q : ℕ) → q < length ins → net_of all q ≡ net_of ins q
  pub each : (q : ℕ) → q < count → Keeps cells rst period d arrival (get_or held q None) (net_of ins q) (net_of all (length ins + q))

pub keeps_grows : {a b : List SizedCell} {rst period d arrival : ℕ} {held : Option ℕ} {x y : ℕ} → Extends a b → Keeps a rst period d arrival held x y
    → Keeps b rst period d arrival held x y
keeps_grows g k = record { width = k.width; from = net_later g k.from; net = net_later g k.net; words = λ c e more f. k.words c e more (extends_trans g f) }

pub net_before : (nets : List NetId) (y : NetId) (q : ℕ) → q < length nets → net_of (nets ++ y ∷ []) q ≡ net_of nets q
net_before nets y q l =
    let none : NetId = record { 0 = 0 } in
    let at : slice_get (nets ++ y ∷ []) q ≡ Some (get_or nets q none) = get_left nets (y ∷ []) q (get_or nets q none) (slice_get-get_or nets q none l) in
    ap (λ (n : NetId). n.0) (get_or_from_slice_get (nets ++ y ∷ []) q (get_or nets q none) none at)

pub net_last : (nets : List NetId) (y : NetId) → net_of (nets ++ y ∷ []) (length nets) ≡ y.0
net_last nets y = ap (λ (n : NetId). n.0) (get_or_from_slice_get (nets ++ y ∷ []) (length nets) y (record { 0 = 0 }) (get_pushed nets y))

pub kept_begin : (cells : List SizedCell) (rst period d arrival : ℕ) (ins : List NetId) (held : List (Option ℕ)) (all : List NetId) → all ≡ ins
    → KeptSoFar 0 cells rst period d arrival ins held all
kept_begin cells rst period d arrival ins held all e = rw e (record { long = omega arith; first = λ q l. refl; each = λ q l. absurd (omega arith) })

-- one column more
pub kept_more : (count : ℕ) (a b : List SizedCell) (rst period d arrival : ℕ) (ins : List NetId) (held : List (Option ℕ)) (all : List NetId) (y : NetId)
    → Extends a b → KeptSoFar count a rst period d arrival ins held all
    → Keeps b rst period d arrival (get_or held count None) (net_of ins count) y.0 → KeptSoFar (count + 1) b rst period d arrival ins held (all ++ y ∷ [])
kept_more count a b rst period d arrival ins held all y g h keeps = record {
  long = length_push all y ∙ (let l = h.long in omega arith);
  first = λ q l. net_before all y q (omega (arith, h.long)) ∙ h.first q l;
  each = λ q l. elim (cases_eq q count) [
    | inl e ↦
        let end : length ins + count ≡ length all = omega (arith, h.long) in
        rw (e, end, net_last all y) keeps
    | inr ne ↦ rw (net_before all y (length ins + q) (omega (arith, h.long))) (keeps_grows g (h.each q (omega arith)))
  ];
}

pub kept_whole : (count : ℕ) (cells : List SizedCell) (rst period d arrival : ℕ) (ins : List NetId) (held : List (Option ℕ)) (all : List NetId)
    → count ≡ length held → length held ≡ length ins → KeptSoFar count cells rst period d arrival ins held all
    → AreKept cells rst period d arrival ins held all
kept_whole count cells rst period d arrival ins held all e long h = record {
  long = omega (arith, h.long);
  first = h.first;
  each = λ q l. rw long (h.each q (omega arith));
}
