-- A netlist that grows step by step.
use Rattle.std.proofs.Common.{ℕ, ◌≡◌, ◌+◌, ◌*◌, ◌≤◌, arith, refl}
use Rattle.ae_netlist.specs.Circuit.{Circuit}
use Rattle.ae_clocked.specs.Phases.{Kept, KeepsCounters}
use Rattle.ae_clocked.specs.KeptRings.{AddsRings}
use Rattle.ae_gates.proofs.Adding.{grows_trans}
use Rattle.ae_lower.specs.Growth.{AddsMulsAndMemories, GrowsBy, Spends}
use Rattle.ae_netlist.specs.Room.{HasRoom}

pub by_trans : {a b c : Circuit} {m n : ℕ} (k : ℕ) → m + n ≤ k → GrowsBy a b m → GrowsBy b c n → GrowsBy a c k
by_trans k h p q = record { grows = grows_trans p.grows q.grows; cells = omega (arith, p.cells, q.cells) }

-- what is left of the room for a load, behind a part of it
pub room_behind : {old mid : Circuit} {done load : ℕ} (more : ℕ) → done + more ≤ load → GrowsBy old mid done → HasRoom old (16 * load) → HasRoom mid (16 * more)
room_behind more fits grows room = omega (arith, fits, grows.cells, grows.grows.limit, room)

pub adds_trans : {a b c : Circuit} {m n u v : ℕ} → AddsMulsAndMemories a b m u → AddsMulsAndMemories b c n v → AddsMulsAndMemories a c (m + n) (u + v)
adds_trans p q = record {
  muls = omega (arith, p.muls, q.muls);
  memories = omega (arith, p.memories, q.memories);
  whole = λ h. q.whole (p.whole h);
}

pub adds_up : {a b : Circuit} {m n u v : ℕ} → m ≡ n → u ≤ v → AddsMulsAndMemories a b m u → AddsMulsAndMemories a b n v
adds_up e l h = record { muls = omega (arith, h.muls); memories = omega (arith, h.memories); whole = h.whole }

-- ---- with memories that are left

pub spends_none : (a : Circuit) (left : ℕ) → Spends a a 0 0 left left
spends_none a left = record { muls = omega arith; memories = omega arith; whole = λ h. h }

pub spends_trans : {a b c : Circuit} {m n p q u v w : ℕ} → Spends a b m p u v → Spends b c n q v w → Spends a c (m + n) (p + q) u w
spends_trans p q = record {
  muls = omega (arith, p.muls, q.muls);
  memories = omega (arith, p.memories, q.memories);
  whole = λ h. q.whole (p.whole h);
}

-- what adds without them
pub spends_more : {a b c : Circuit} {m n p q u v : ℕ} → Spends a b m p u v → AddsMulsAndMemories b c n q → Spends a c (m + n) (p + q) u v
spends_more p q = record {
  muls = omega (arith, p.muls, q.muls);
  memories = omega (arith, p.memories, q.memories);
  whole = λ h. q.whole (p.whole h);
}

pub spends_up : {a b : Circuit} {m n p q u v : ℕ} → m ≡ n → p ≤ q → Spends a b m p u v → Spends a b n q u v
spends_up e l h = record { muls = omega (arith, h.muls); memories = omega (arith, h.memories); whole = h.whole }

pub rings_spend : {a b : Circuit} {m u v : ℕ} → AddsRings a b m u v → Spends a b 0 0 u v
rings_spend h = record { muls = omega (arith, h.muls); memories = omega (arith, h.memories); whole = h.whole }

pub rings_by : {a b : Circuit} {m u v : ℕ} (load : ℕ) → m ≤ 16 * load → AddsRings a b m u v → GrowsBy a b load
rings_by load l h = record { grows = h.grows; cells = omega (arith, h.cells) }

pub keeps_none : (a : Kept) → KeepsCounters a a
keeps_none a = record { rst = refl; counters = λ phase net h. h }
