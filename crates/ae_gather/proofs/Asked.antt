-- What is read from a ring at places that change is what was written some clocks before.
use Rattle.std.proofs.Common.{ℕ, List, ◌≡◌, ◌+◌, ◌-◌, ◌<◌, ◌≤◌, ◌%◌, ◌^◌, ◌∷◌, [], length, get_or, arith, ap, ◌∙◌}
use Rattle.std.proofs.Math.Nat.{add-mod_right, mod-add-mod}
use Rattle.ae_word.specs.declared.op.WordOp.TheVariants.{Add}
use Rattle.ae_netlist.specs.declared.cell.NetId.{NetId}
use Rattle.ae_netlist.specs.Circuit.{Circuit, Extends}
use Rattle.ae_netlist.specs.Runs.{Clock, word_at, store_at, HasWords, InEveryRunFrom}
use Rattle.ae_netlist.proofs.Growing.{extends_trans}
use Rattle.ae_netlist.proofs.Carried.{carries_extends}
use Rattle.ae_gates.specs.Cells.{Grows, IsResult}
use Rattle.ae_clocked.specs.Signals.{IsNextOf}
use Rattle.ae_clocked.specs.Rings.{IsLook, IsRing, IsStore}
use Rattle.ae_gather.specs.Readers.{IsReader}
use Rattle.ae_clocked.proofs.RingLaw.{ring_holds}

-- a register of a look at the counter and a place has the word of as many clocks before as the place is short of a turn
pub look_asked : (run : List Clock) (m at from place x y z d start : ℕ) → IsStore run m at x d → HasWords run start at (λ c. c % d) → IsLook run y m from
    → IsNextOf run z y
    → ((t : ℕ) → t < length run → word_at run t from ≡ (word_at run t at + word_at run t place) % d)
    → (c tap : ℕ) → 1 ≤ tap → tap ≤ c → tap ≤ d → start + (c + 1) < length run → word_at run (start + c) place + tap ≡ d
    → word_at run (start + (c + 1)) z ≡ word_at run (start + (c - tap)) x
look_asked run m at from place x y z d start store counts look next adds c tap some le most l short =
    let inside : start + c < length run = omega arith in
    let after : start + (c + 1) ≡ start + c + 1 = omega arith in
    let k : ℕ = word_at run (start + c) place in
    let here : word_at run (start + c) at ≡ c % d = counts c inside in
    let far : c + k ≡ (c - tap) + d = omega arith in
    let at_from : word_at run (start + c) from ≡ (c - tap) % d = adds (start + c) inside ∙
    (ap (λ p. (p + k) % d) here ∙ (mod-add-mod c d k ∙ (ap (λ n. n % d) far ∙ add-mod_right (c - tap) d))) in
    rw after (next (start + c) (omega arith) ∙ (look (start + c) inside ∙
    (ap (λ p. get_or (store_at run (start + c) m) p 0) at_from ∙
    ring_holds run m at x d start c (c - tap) store counts (omega arith) (omega arith) inside)))

pub reader_made : (n0 n1 n2 n3 : Circuit) (y : NetId) (at word place m counter : NetId) (bits : ℕ) → Grows n0 n1 → Grows n1 n2 → Grows n2 n3
    → InEveryRunFrom (length n0.cells) n1.cells (λ run. IsResult run at.0 Add bits (counter ∷ place ∷ counter ∷ []))
    → InEveryRunFrom (length n1.cells) n2.cells (λ run. IsLook run word.0 m.0 at.0)
    → InEveryRunFrom (length n2.cells) n3.cells (λ run. IsNextOf run y.0 word.0)
    → (rst x : ℕ) → IsRing n0.cells rst bits x counter.0 m.0 → IsReader n3.cells rst bits x place.0 y.0
reader_made n0 n1 n2 n3 y at word place m counter bits g1 g2 g3 added look next = λ rst x ring. record {
  words = λ all e run is start reset.
      let e2 : Extends n2.cells all = extends_trans g3.extends e in
      let e1 : Extends n1.cells all = extends_trans g2.extends e2 in
      let e0 : Extends n0.cells all = extends_trans g1.extends e1 in
      look_asked run m.0 counter.0 at.0 place.0 x word.0 y.0 (2 ^ bits) start (ring.takes all e0 run is) (ring.counts all e0 run is start reset)
      (look all (carries_extends _ e2) run is)
      (next all (carries_extends _ e) run is) (added all (carries_extends _ e1) run is);
}
