-- A look behind the counter of a ring taps what is written into it.
use Rattle.std.proofs.Common.{ℕ, ◌≡◌, ◌+◌, ◌-◌, ◌<◌, ◌≤◌, ◌^◌, ◌%◌, ◌∷◌, [], length, ap, ◌∙◌, subst}
use Rattle.ae_word.specs.declared.op.WordOp.TheVariants.{Add}
use Rattle.ae_netlist.specs.declared.cell.NetId.{NetId}
use Rattle.ae_netlist.specs.Circuit.{Circuit, IsNet, Extends}
use Rattle.ae_netlist.specs.Runs.{word_at, InEveryRunFrom}
use Rattle.ae_netlist.proofs.Growing.{extends_trans}
use Rattle.ae_netlist.proofs.Carried.{carries_extends}
use Rattle.ae_gates.specs.Cells.{Grows, IsConstant, IsResult}
use Rattle.ae_clocked.specs.Signals.{IsNextOf}
use Rattle.ae_clocked.specs.Delays.{IsTap}
use Rattle.ae_clocked.specs.Rings.{IsLook, IsRing}
use Rattle.ae_clocked.proofs.RingLaw.{look_later, register_later}

pub behind_tap : (n0 n1 n2 n3 : Circuit) (y back place m counter : NetId) (w bits tap k : ℕ) → Grows n0 n1 → Grows n1 n2
    → Grows n2 n3 → IsNet n3.cells y.0 w
    → InEveryRunFrom (length n0.cells) n1.cells (λ run. IsConstant run back.0 k)
    → InEveryRunFrom (length n1.cells) n2.cells (λ run. IsResult run place.0 Add bits (counter ∷ back ∷ counter ∷ []))
    → InEveryRunFrom (length n2.cells) n3.cells (λ run. IsLook run y.0 m.0 place.0)
    → k + tap ≡ 2 ^ bits → 1 ≤ tap
    → (rst x : ℕ) → IsRing n0.cells rst bits x counter.0 m.0 → IsTap n3.cells rst w x tap y.0
behind_tap n0 n1 n2 n3 y back place m counter w bits tap k g1 g2 g3 net constant added look sum late rst x ring = record {
  net = net;
  words = λ all e run is start reset.
      let e2 : Extends n2.cells all = extends_trans g3.extends e in
      let e1 : Extends n1.cells all = extends_trans g2.extends e2 in
      let e0 : Extends n0.cells all = extends_trans g1.extends e1 in
      look_later run m.0 counter.0 place.0 x y.0 (2 ^ bits) tap k start (ring.takes all e0 run is) (ring.counts all e0 run is start reset)
      (look all (carries_extends _ e) run is)
      (λ t l. added all (carries_extends _ e2) run is t l ∙ ap (λ b. (word_at run t counter.0 + b) % 2 ^ bits) (constant all (carries_extends _ e1) run is t l))
      sum late;
}

pub kept_tap : (n0 n1 n2 : Circuit) (y word m counter : NetId) (w bits tap before : ℕ) → Grows n1 n2
    → IsNet n2.cells y.0 w
    → InEveryRunFrom (length n1.cells) n2.cells (λ run. IsNextOf run y.0 word.0) → before + 1 ≡ tap
    → ((rst x : ℕ) → IsRing n0.cells rst bits x counter.0 m.0 → IsTap n1.cells rst w x before word.0)
    → (rst x : ℕ) → IsRing n0.cells rst bits x counter.0 m.0 → IsTap n2.cells rst w x tap y.0
kept_tap n0 n1 n2 y word m counter w bits tap before g net next sum taps rst x ring = record {
  net = net;
  words = λ all e run is start reset.
      subst (λ (d : ℕ). (c : ℕ) → d ≤ c → start + c < length run → word_at run (start + c) y.0 ≡ word_at run (start + (c - d)) x) sum
      (register_later run word.0 y.0 x before start ((taps rst x ring).words all (extends_trans g.extends e) run is start reset)
      (next all (carries_extends _ e) run is));
}
