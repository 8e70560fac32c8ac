-- A ring that is made, and what it goes on to be as the netlist grows.
use Rattle.std.proofs.Common.{ℕ, ◌≡◌, ◌+◌, ◌-◌, ◌<◌, ◌≤◌, ◌^◌, ◌%◌, List, arith, ap, ◌∙◌, inl, inr}
use Rattle.std.proofs.lemmas.Bool.{cases_lt}
use Rattle.std.proofs.Math.Nat.{add-mod_right}
use Rattle.std.proofs.Math.Pow.{pow-lt}
use Rattle.ae_netlist.specs.declared.cell.SizedCell.{SizedCell}
use Rattle.ae_netlist.specs.Circuit.{Circuit, IsMemory, IsNet, Extends}
use Rattle.ae_netlist.specs.Runs.{HasWords, InEveryResetRun}
use Rattle.ae_netlist.proofs.Growing.{extends_trans, net_later}
use Rattle.ae_clocked.specs.Phases.{IsCounter, phase_of}
use Rattle.ae_gates.specs.Cells.{Adds}
use Rattle.ae_clocked.specs.Delays.{IsTap}
use Rattle.ae_gates.proofs.Adding.{grows_trans}
use Rattle.ae_clocked.specs.declared.ring.Ring.{Ring}
use Rattle.ae_clocked.specs.Rings.{AddsMemories, HoldsRing, IsRing}

-- the phase from the first clock on
phase_mod : (d c : ℕ) → phase_of d 0 c ≡ c % d
unfolding phase_of
phase_mod d c = let e : c + d - 0 ≡ c + d = omega arith in ap (λ n. n % d) e ∙ add-mod_right c d

-- the bits of a counter of a power of two
pub counter_bits : (w d bits : ℕ) → d ≡ 2 ^ bits → d ≤ 2 ^ w → w ≤ bits → w ≡ bits
counter_bits w d bits e enough most = elim (cases_lt w bits) [
  | inl l ↦ (let less : 2 ^ w < 2 ^ bits = pow-lt l in absurd (omega arith))
  | inr m ↦ omega arith
]

pub counter_net : (cells : List SizedCell) (rst d bits net : ℕ) → d ≡ 2 ^ bits → 1 ≤ bits → IsCounter cells rst (record { period = d; offset = 0 }) net
    → IsNet cells net bits
counter_net cells rst d bits net e some h =
    let most : h.width ≤ bits = h.holds.least bits some (omega arith) in
    rw (← counter_bits h.width d bits e h.holds.enough most) h.is_net

pub counter_counts : (cells : List SizedCell) (rst d bits net : ℕ) → d ≡ 2 ^ bits → IsCounter cells rst (record { period = d; offset = 0 }) net
    → InEveryResetRun cells rst (λ run start. HasWords run start net (λ c. c % 2 ^ bits))
counter_counts cells rst d bits net e h = λ all g run is start reset c l. h.words all g run is start reset c l ∙ (phase_mod d c ∙ ap (λ n. c % n) e)

pub ring_grows : {a b : List SizedCell} {rst bits x counter m : ℕ} → Extends a b → IsRing a rst bits x counter m → IsRing b rst bits x counter m
ring_grows g h = record {
  counts = λ all e run is start reset c l. h.counts all (extends_trans g e) run is start reset c l;
  takes = λ all e run is. h.takes all (extends_trans g e) run is;
}

pub memory_grows : {a b : List SizedCell} {m w d : ℕ} → Extends a b → IsMemory a m w d → IsMemory b m w d
memory_grows g h = record { at = h.at; next = h.next; enable = h.enable; found = g.keeps _ _ h.found }

pub holds_grows : {a b : List SizedCell} {rst w x reach : ℕ} {ring : Ring} → Extends a b → HoldsRing a rst w x reach ring → HoldsRing b rst w x reach ring
holds_grows g h = record {
  low = h.low;
  high = h.high;
  reaches = h.reaches;
  least = h.least;
  memory = memory_grows g h.memory;
  counter = net_later g h.counter;
  ring = ring_grows g h.ring;
}

pub tap_grows : {a b : List SizedCell} {rst w x d y : ℕ} → Extends a b → IsTap a rst w x d y → IsTap b rst w x d y
tap_grows g h = record { net = net_later g h.net; words = λ all e run is start reset. h.words all (extends_trans g e) run is start reset }

pub memories_after : {a b c : Circuit} {m n k : ℕ} → Adds a b m 0 → AddsMemories b c n k → AddsMemories a c (m + n) k
memories_after p q = record {
  grows = grows_trans p.grows q.grows;
  cells = omega (arith, p.cells, q.cells);
  muls = omega (arith, p.muls, q.muls);
  memories = omega (arith, p.memories, q.memories);
  whole = λ h. q.whole (p.whole h);
}

pub memories_before : {a b c : Circuit} {m n k : ℕ} → AddsMemories a b m k → Adds b c n 0 → AddsMemories a c (m + n) k
memories_before p q = record {
  grows = grows_trans p.grows q.grows;
  cells = omega (arith, p.cells, q.cells);
  muls = omega (arith, p.muls, q.muls);
  memories = omega (arith, p.memories, q.memories);
  whole = λ h. q.whole (p.whole h);
}

pub memories_trans : {a b c : Circuit} {m n k j : ℕ} → AddsMemories a b m k → AddsMemories b c n j → AddsMemories a c (m + n) (k + j)
memories_trans p q = record {
  grows = grows_trans p.grows q.grows;
  cells = omega (arith, p.cells, q.cells);
  muls = omega (arith, p.muls, q.muls);
  memories = omega (arith, p.memories, q.memories);
  whole = λ h. q.whole (p.whole h);
}

-- with greater bounds
pub memories_most : {a b : Circuit} {m k : ℕ} (n j : ℕ) → m ≤ n → k ≤ j → AddsMemories a b m k → AddsMemories a b n j
memories_most n j l i p = record { grows = p.grows; cells = omega (arith, p.cells); muls = p.muls; memories = omega (arith, p.memories); whole = p.whole }

pub memories_of : {a b : Circuit} {m : ℕ} → Adds a b m 0 → AddsMemories a b m 0
memories_of p = record { grows = p.grows; cells = p.cells; muls = omega (arith, p.muls); memories = omega (arith, p.memories); whole = p.whole }
