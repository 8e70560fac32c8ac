-- One more ring in a row.
use Rattle.std.proofs.Common.{Bool, true, false, nat_lt, if◌then◌else◌, ℕ, ◌≡◌, ◌+◌, ◌-◌, ◌*◌, ◌/◌, ◌<◌, ◌≤◌, min, inl, inr, List, ◌++◌, ◌∷◌, [], length, Some, slice_get, get_or, arith, ◌∙◌, subst}
use borrow.Author.Tests.{ltb-true}
use Rattle.std.proofs.lemmas.Bool.{cases_lt}
use Rattle.std.proofs.lemmas.Option.{slice_get_within, slice_get-get_or}
use Rattle.ae_netlist.specs.declared.cell.NetId.{NetId}
use Rattle.ae_netlist.specs.declared.cell.SizedCell.{SizedCell}
use Rattle.ae_netlist.specs.Circuit.{IsNet, Extends}
use Rattle.ae_netlist.proofs.Gets.{get_push_cases}
use Rattle.ae_clocked.specs.Phases.{Kept, KeepsCounters}
use Rattle.ae_clocked.specs.Delays.{IsTap}
use Rattle.ae_clocked.proofs.Late.{delay_none, late_taps}
use Rattle.ae_clocked.specs.declared.row.Link.{Link}
use Rattle.ae_clocked.specs.Rings.{HoldsRing, IsRing}
use Rattle.ae_clocked.specs.Rows.{AreLinks}
use Rattle.ae_clocked.proofs.Making.{holds_grows, tap_grows}
use Rattle.ae_clocked.proofs.RingLaw.{taps_add}

pub keeps_trans : {a b c : Kept} → KeepsCounters a b → KeepsCounters b c → KeepsCounters a c
keeps_trans p q = record { rst = q.rst ∙ p.rst; counters = λ phase net found. q.counters phase net (p.counters phase net found) }

-- a net taps itself
pub tap_none : (cells : List SizedCell) (rst w x : ℕ) → IsNet cells x w → IsTap cells rst w x 0 x
tap_none cells rst w x h = late_taps cells rst w x 0 x (delay_none cells w x h)

pub links_none : (cells : List SizedCell) (rst w x reach : ℕ) → AreLinks cells rst w x reach []
links_none cells rst w x reach = record {
  heads = λ k link h. (let no : k < 0 = slice_get_within [] k link h in absurd (omega arith));
  rings = λ k link h. (let no : k < 0 = slice_get_within [] k link h in absurd (omega arith));
}

pub links_grow : {a b : List SizedCell} {rst w x reach : ℕ} {links : List Link} → Extends a b → AreLinks a rst w x reach links → AreLinks b rst w x reach links
links_grow g h = record { heads = λ k link found. tap_grows g (h.heads k link found); rings = λ k link found. holds_grows g (h.rings k link found) }

pub links_more : (a b : List SizedCell) (rst w x reach far j : ℕ) (links : List Link) (link : Link) → Extends a b → length links ≡ j
    → AreLinks a rst w x reach links → IsTap b rst w x (4096 * j) link.head.0
    → far ≡ min 4096 (reach - 4096 * j) → HoldsRing b rst w link.head.0 far link.ring → AreLinks b rst w x reach (links ++ link ∷ [])
links_more a b rst w x reach far j links link g long h tap is holds = record {
  heads = λ k last found. elim (get_push_cases links link k last found) [
    | inl v ↦ tap_grows g (h.heads k last v.0)
    | inr v ↦ (let e : k ≡ j = v.0 ∙ long in rw e (subst (λ (l : Link). IsTap b rst w x (4096 * j) l.head.0) v.1 tap))
  ];
  rings = λ k last found. elim (get_push_cases links link k last found) [
    | inl v ↦ holds_grows g (h.rings k last v.0)
    | inr v ↦ (let e : k ≡ j = v.0 ∙ long in rw (e, ← is) (subst (λ (l : Link). HoldsRing b rst w l.head.0 far l.ring) v.1 holds))
  ];
}

-- the head after a full ring
pub next_head : (a b : List SizedCell) (rst w x j head y d : ℕ) → Extends a b → IsTap a rst w x (4096 * j) head → IsTap b rst w head 4096 y
    → 4096 * j + 4096 ≡ d → IsTap b rst w x d y
next_head a b rst w x j head y d g p q e = subst (λ (n : ℕ). IsTap b rst w x n y) e (taps_add b rst w x head y (4096 * j) 4096 (tap_grows g p) q)

-- a tap of a ring of the row
pub row_tap : (old new : List SizedCell) (y : NetId) (links : List Link) (link : Link) (w tap k far : ℕ) → Extends old new
    → slice_get links k ≡ Some link → 4096 * k + far ≡ tap
    → ((rst x : ℕ) → IsRing old rst link.ring.bits x link.ring.counter.0 link.ring.memory.0 → IsTap new rst w x far y.0)
    → (rst x reach : ℕ) → AreLinks old rst w x reach links → IsTap new rst w x tap y.0
row_tap old new y links link w tap k far g found sum taps rst x reach h =
    subst (λ (n : ℕ). IsTap new rst w x n y.0) sum
    (taps_add new rst w x link.head.0 y.0 (4096 * k) far (tap_grows g (h.heads k link found)) (taps rst link.head.0 (h.rings k link found).ring))

pub row_found : (links : List Link) (tap : ℕ) (none : Link) → 1 ≤ tap → tap ≤ 4096 * length links
    → slice_get links ((tap - 1) / 4096) ≡ Some (get_or links ((tap - 1) / 4096) none)
row_found links tap none late long = let within : (tap - 1) / 4096 < length links = omega arith in slice_get-get_or links ((tap - 1) / 4096) none within

-- what the next ring takes is kept in a register as long as some are to spare
pub head_kept : (r0 r1 r2 r3 j spare : ℕ) (kept : Bool) (c0 c1 c2 : ℕ) → nat_lt j spare ≡ kept → r1 + c0 ≤ r0 + c1 + min j spare → r2 + c1 ≤ r1 + c2
    → r3 ≤ r2 + (if kept then 1 else 0) → r3 + c0 ≤ r0 + c2 + min (j + 1) spare
head_kept r0 r1 r2 r3 j spare true c0 c1 c2 e a b d = let l : j < spare = ltb-true j spare e in omega arith
head_kept r0 r1 r2 r3 j spare false c0 c1 c2 e a b d = omega arith

-- the rings of a row but the last share one counter
pub gained_by : (j a b e : ℕ) → a ≤ e + min j 1 → b ≤ a + 1 → (1 ≤ j → b ≤ a) → b ≤ e + min (j + 1) 1
gained_by j a b e h more same = elim (cases_lt 0 j) [
  | inl some ↦ (let l : b ≤ a = same some in omega arith)
  | inr none ↦ omega arith
]
