-- Counters go on to count as their netlist grows, and as others are made.
use Rattle.std.proofs.Common.{ℕ, ◌≡◌, ◌-◌, ◌<◌, ◌%◌, Bool, true, false, ◌==◌, ◌&&◌, if◌then◌else◌, List, length, Some, refl, sym, ap, ◌∙◌, subst, zero-add}
use Rattle.std.specs.Map.{lookup}
use Rattle.std.proofs.lemmas.Bool.{eqb-true}
use Rattle.ae_netlist.specs.declared.cell.NetId.{NetId}
use Rattle.ae_netlist.specs.declared.cell.SizedCell.{SizedCell}
use Rattle.ae_netlist.specs.Circuit.{Circuit, IsNet, Extends}
use Rattle.ae_netlist.specs.Runs.{InEveryRunFrom}
use Rattle.ae_netlist.proofs.Growing.{extends_trans, net_later}
use Rattle.ae_netlist.proofs.Carried.{carries_extends}
use Rattle.ae_clocked.specs.declared.clocks.Phase.{Phase}
use Rattle.ae_clocked.specs.declared.clocks.Mark.{Mark}
use Rattle.ae_gates.specs.Cells.{Grows}
use Rattle.ae_clocked.specs.Signals.{Counts}
use Rattle.ae_clocked.specs.Phases.{Kept, phase_of, same_phase, kept_at, same_mark, mark_at, HoldsPhases, IsCounter, IsPhaseMark, Belongs, KeepsCounters}
use Rattle.ae_clocked.proofs.PhaseLemmas.{counts_phase}

pub counter_grows : (a b : List SizedCell) (rst : ℕ) (phase : Phase) (net : ℕ) → Extends a b → IsCounter a rst phase net → IsCounter b rst phase net
counter_grows a b rst phase net g h = record {
  width = h.width;
  holds = h.holds;
  is_net = net_later g h.is_net;
  words = λ all e run r. h.words all (extends_trans g e) run r;
}

pub mark_grows : (a b : List SizedCell) (rst : ℕ) (mark : Mark) (net : ℕ) → Extends a b → IsPhaseMark a rst mark net → IsPhaseMark b rst mark net
mark_grows a b rst mark net g h = record { is_net = net_later g h.is_net; words = λ all e run r. h.words all (extends_trans g e) run r }

pub belongs_grows : (clocks : Kept) (a b : Circuit) → Grows a b → Belongs clocks a.cells → Belongs clocks b.cells
belongs_grows clocks a b g h = record {
  rst = net_later g.extends h.rst;
  counters = λ phase net found. counter_grows a.cells b.cells clocks.rst phase net.0 g.extends (h.counters phase net found);
  marks = λ mark net found. mark_grows a.cells b.cells clocks.rst mark net.0 g.extends (h.marks mark net found);
}

abbrev at : (period offset : ℕ) → Phase
at period offset = record { period = period; offset = offset }

same_at : (a b c d : ℕ) (t : Bool) → (a == c) ≡ t → (t && (b == d)) ≡ true → at a b ≡ at c d
same_at a b c d true s h = let x : a ≡ c = eqb-true a c s in let y : b ≡ d = eqb-true b d h in cc
same_at a b c d false s h = cc

-- phases with the same numbers are one
pub same_is : (p q : Phase) → same_phase p q ≡ true → p ≡ q
same_is p q e = same_at p.period p.offset q.period q.offset (p.period == q.period) refl e

abbrev mark_of : (a b m : ℕ) → Mark
mark_of a b m = record { period = a; offset = b; from = m }

same_mark_at : (a b m c d n : ℕ) (t u : Bool) → (a == c) ≡ t → (b == d) ≡ u → (t && (u && (m == n))) ≡ true → mark_of a b m ≡ mark_of c d n
same_mark_at a b m c d n true true s v h = let x : a ≡ c = eqb-true a c s in let y : b ≡ d = eqb-true b d v in let z : m ≡ n = eqb-true m n h in cc
same_mark_at a b m c d n true false s v h = cc
same_mark_at a b m c d n false u s v h = cc

-- marks with the same numbers are one
pub same_mark_is : (p q : Mark) → same_mark p q ≡ true → p ≡ q
same_mark_is p q e = same_mark_at p.period p.offset p.from q.period q.offset q.from (p.period == q.period) (p.offset == q.offset) refl refl e

-- one more mark
pub belongs_marked : (old new : Kept) (mark : Mark) (net : NetId) (cells : List SizedCell) → new.rst ≡ old.rst → new.counters ≡ old.counters
    → ((q : Mark) → mark_at new q ≡ (if same_mark mark q then Some net else mark_at old q)) → Belongs old cells → IsPhaseMark cells old.rst mark net.0
    → Belongs new cells
belongs_marked old new mark net cells rst counters keeps h made = record {
  rst = rw rst h.rst;
  counters = λ q y found. rw rst (h.counters q y (ap (λ (all : List (Phase × NetId)). lookup (same_phase q) all) (sym counters) ∙ found));
  marks = λ q y found. rw rst (by q y (same_mark mark q) refl (sym (keeps q) ∙ found));
}
  where
    by : (q : Mark) (y : NetId) (t : Bool) → same_mark mark q ≡ t → (if t then Some net else mark_at old q) ≡ Some y → IsPhaseMark cells old.rst q y.0
    by q y true s found =
        let same : net ≡ y = cc in
        subst (λ (p : Mark). IsPhaseMark cells old.rst p y.0) (same_mark_is mark q s) (subst (λ (n : NetId). IsPhaseMark cells old.rst mark n.0) same made)
    by q y false s found = h.marks q y found

-- the counters of clocks with one more mark
pub marked_keeps : (old new : Kept) → new.rst ≡ old.rst → new.counters ≡ old.counters → KeepsCounters old new
marked_keeps old new rst counters = record {
  rst = rst;
  counters = λ q y found. ap (λ (all : List (Phase × NetId)). lookup (same_phase q) all) counters ∙ found;
}

-- one more counter
pub belongs_more : (old new : Kept) (phase : Phase) (net : NetId) (cells : List SizedCell) → new.rst ≡ old.rst → new.marks ≡ old.marks
    → ((q : Phase) → kept_at new q ≡ (if same_phase phase q then Some net else kept_at old q)) → Belongs old cells → IsCounter cells old.rst phase net.0
    → Belongs new cells
belongs_more old new phase net cells rst marks keeps h made = record {
  rst = rw rst h.rst;
  counters = λ q y found. rw rst (by q y (same_phase phase q) refl (sym (keeps q) ∙ found));
  marks = λ q y found. rw rst (h.marks q y (ap (λ (all : List (Mark × NetId)). lookup (same_mark q) all) (sym marks) ∙ found));
}
  where
    by : (q : Phase) (y : NetId) (t : Bool) → same_phase phase q ≡ t → (if t then Some net else kept_at old q) ≡ Some y → IsCounter cells old.rst q y.0
    by q y true s found =
        let same : net ≡ y = cc in
        subst (λ (p : Phase). IsCounter cells old.rst p y.0) (same_is phase q s) (subst (λ (n : NetId). IsCounter cells old.rst phase n.0) same made)
    by q y false s found = h.counters q y found

-- a register that counts from its first phase is a counter
pub counter_made : (old new : List SizedCell) (rst w p o last first : ℕ) (y : NetId) → last ≡ p - 1 → first ≡ (p - o) % p → o < p → HoldsPhases w p
    → IsNet new y.0 w
    → InEveryRunFrom (length old) new (λ run. Counts run y.0 rst w last first) → IsCounter new rst (record { period = p; offset = o }) y.0
unfolding phase_of
counter_made old new rst w p o last first y el ef less holds net counts = record {
  width = w;
  holds = holds;
  is_net = net;
  words = λ all e run r start reset.
      counts_phase run y.0 rst w p o start less holds.enough (rw (zero-add, ← el, ← ef) (counts all (carries_extends (length old) e) run r)) reset;
}

pub keeps_same : (clocks : Kept) → KeepsCounters clocks clocks
keeps_same clocks = record { rst = refl; counters = λ phase net found. found }

-- the counters go on as one more is made
pub phase_keeps : (old new : Kept) (p : Phase) (net : NetId) → new.rst ≡ old.rst
    → ((q : Phase) → kept_at new q ≡ (if same_phase p q then Some net else kept_at old q))
    → ((n : NetId) → kept_at old p ≡ Some n → new ≡ old) → KeepsCounters old new
phase_keeps old new p net rst keeps again = record { rst = rst; counters = λ q n found. by q n (same_phase p q) refl found }
  where
    by : (q : Phase) (n : NetId) (b : Bool) → same_phase p q ≡ b → kept_at old q ≡ Some n → kept_at new q ≡ Some n
    by q n true s found =
        let e : p ≡ q = same_is p q s in
        let at : kept_at old p ≡ Some n = rw e found in
        rw (again n at) found
    by q n false s found = keeps q ∙ rw s found
