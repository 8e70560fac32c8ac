-- Rings go on to hold words as their netlist grows, and as others are made.
use Rattle.std.proofs.Common.{ℕ, ◌≡◌, ◌+◌, ◌≤◌, nat_eq, Bool, true, false, if◌then◌else◌, List, [], Some, Result, Ok, Err, IfOk, arith, ap, sym, ◌∙◌, refl, subst}
use Rattle.std.proofs.lemmas.Bool.{eqb-true}
use Rattle.std.proofs.lemmas.Option.{none-some}
use Rattle.std.specs.Map.{lookup}
use Rattle.ae_netlist.specs.declared.cell.NetId.{NetId}
use Rattle.ae_netlist.specs.declared.cell.SizedCell.{SizedCell}
use Rattle.ae_netlist.specs.Circuit.{Circuit, Extends, width_of}
use Rattle.ae_netlist.proofs.Growing.{net_later, net_width}
use Rattle.ae_gates.specs.Cells.{Adds}
use Rattle.ae_clocked.specs.Delays.{IsTap}
use Rattle.ae_clocked.specs.Rings.{AddsMemories}
use Rattle.ae_clocked.specs.Rows.{AreLinks}
use Rattle.ae_clocked.specs.declared.row.Link.{Link}
use Rattle.ae_clocked.specs.KeptRings.{AddsRings, IsRingRow, KeptRings, RingsBelong, ring_row_at}
use Rattle.ae_clocked.specs.declared.rows.RingRow.{RingRow}
use Rattle.ae_gates.proofs.Adding.{grows_refl, grows_trans}
use Rattle.ae_clocked.proofs.InRow.{links_grow}

pub ring_row_grows : {a b : List SizedCell} {rst x : ℕ} {row : RingRow} → Extends a b → IsRingRow a rst x row → IsRingRow b rst x row
ring_row_grows g h = record { width = h.width; net = net_later g h.net; late = h.late; long = h.long; links = links_grow g h.links }

pub rings_grow : {kept : KeptRings} {rst : ℕ} {a b : List SizedCell} → Extends a b → RingsBelong kept rst a → RingsBelong kept rst b
rings_grow g h = record { each = λ x row found. ring_row_grows g (h.each x row found) }

pub no_rings : (kept : KeptRings) (rst : ℕ) (cells : List SizedCell) → kept.rows ≡ [] → RingsBelong kept rst cells
no_rings kept rst cells none = record { each = λ x row found. absurd (none-some row (rw none at found)) }

-- the same rows
pub rings_stay : (old new : KeptRings) (rst : ℕ) (cells : List SizedCell) → new.rows ≡ old.rows → RingsBelong old rst cells → RingsBelong new rst cells
rings_stay old new rst cells same h = record { each = λ x row found. h.each x row (ap (λ rows. lookup (nat_eq x) rows) (sym same) ∙ found) }

-- one row more
pub rings_kept : (old new : KeptRings) (rst net : ℕ) (row : RingRow) (cells : List SizedCell)
    → ((q : ℕ) → ring_row_at new q ≡ (if nat_eq net q then Some row else ring_row_at old q))
    → RingsBelong old rst cells → IsRingRow cells rst net row → RingsBelong new rst cells
rings_kept old new rst net row cells keeps h made = record { each = λ x r found. by x r (nat_eq net x) refl (sym (keeps x) ∙ found) }
  where
    by : (x : ℕ) (r : RingRow) (t : Bool) → nat_eq net x ≡ t → (if t then Some row else ring_row_at old x) ≡ Some r → IsRingRow cells rst x r
    by x r true s found =
        let same : row ≡ r = cc in
        let at : net ≡ x = eqb-true net x s in
        subst (λ (q : ℕ). IsRingRow cells rst q r) at (subst (λ (n : RingRow). IsRingRow cells rst net n) same made)
    by x r false s found = h.each x r found

-- ---- growth

pub rings_trans : {a b c : Circuit} {m n u v w : ℕ} → AddsRings a b m u v → AddsRings b c n v w → AddsRings a c (m + n) u w
rings_trans p q = record {
  grows = grows_trans p.grows q.grows;
  cells = omega (arith, p.cells, q.cells);
  muls = omega (arith, p.muls, q.muls);
  memories = omega (arith, p.memories, q.memories);
  whole = λ h. q.whole (p.whole h);
}

pub rings_most : {a b : Circuit} {m u v : ℕ} (n : ℕ) → m ≤ n → AddsRings a b m u v → AddsRings a b n u v
rings_most n l h = record { grows = h.grows; cells = omega (arith, h.cells); muls = h.muls; memories = h.memories; whole = h.whole }

-- what adds no memory
pub rings_same : {a b : Circuit} {m : ℕ} (left : ℕ) → Adds a b m 0 → AddsRings a b m left left
rings_same left h = record { grows = h.grows; cells = h.cells; muls = omega (arith, h.muls); memories = omega (arith, h.memories); whole = h.whole }

pub rings_made : {a b : Circuit} {m k : ℕ} (before left : ℕ) → k + left ≤ before → AddsMemories a b m k → AddsRings a b m before left
rings_made before left l h = record { grows = h.grows; cells = h.cells; muls = h.muls; memories = omega (arith, h.memories); whole = h.whole }

pub no_rings_added : (a : Circuit) (m left : ℕ) → AddsRings a a m left left
no_rings_added a m left = record { grows = grows_refl a; cells = omega arith; muls = refl; memories = omega arith; whole = λ h. h }

-- ---- results

-- what was read from rings that belong to the netlist
pub read_tap : (y : NetId) (kept : KeptRings) (rst : ℕ) (old new : List SizedCell) (v w x d : ℕ) → v ≡ w → RingsBelong kept rst old
    → ((n : ℕ) → RingsBelong kept n old → IsTap new n v x d y.0) → IsTap new rst w x d y.0
read_tap y kept rst old new v w x d e h taps = subst (λ (n : ℕ). IsTap new rst n x d y.0) e (taps rst h)

-- what is read from the rings of a net
pub row_taps : {E : Type 0} (r : Result NetId E) (kept : KeptRings) (x : ℕ) (row : RingRow) (old new : List SizedCell) (v d : ℕ) (links : List Link)
    → ring_row_at kept x ≡ Some row → links ≡ row.links.items → v ≡ width_of old x
    → IfOk r (λ y. (rst z reach : ℕ) → AreLinks old rst v z reach links → IsTap new rst v z d y.0)
    → IfOk r (λ y. (rst : ℕ) → RingsBelong kept rst old → IsTap new rst (width_of old x) x d y.0)
row_taps (Ok y) kept x row old new v d links at same wide taps = λ rst h.
    let own = h.each x row at in
    let is : v ≡ own.width = wide ∙ net_width own.net in
    rw (← wide) (taps rst x row.reach (rw (same, is) own.links))
row_taps (Err e) kept x row old new v d links at same wide taps = tt
