-- A netlist that grows by cells of which some are memories; and words that come later, from registers or from a ring.
use Rattle.std.proofs.Common.{ℕ, ◌≡◌, ◌+◌, ◌-◌, ◌*◌, ◌%◌, ◌^◌, ◌<◌, ◌≤◌, List, ◌∷◌, [], length, Option, Some, None, slice_get, arith, ap, ◌∙◌, subst}
use Rattle.std.proofs.lemmas.Option.{slice_get_within}
use Rattle.std.proofs.Math.Nat.{add-mul}
use Rattle.ae_word.specs.declared.op.WordOp.TheVariants.{Add}
use Rattle.ae_netlist.specs.declared.cell.NetId.{NetId}
use Rattle.ae_netlist.specs.declared.cell.SizedCell.{SizedCell}
use Rattle.ae_netlist.specs.Circuit.{Circuit, Extends}
use Rattle.ae_netlist.specs.Runs.{Clock, word_at, HasWords}
use Rattle.ae_netlist.proofs.Growing.{extends_trans, net_later}
use Rattle.ae_gates.specs.Cells.{Adds, IsConstant, IsResult}
use Rattle.ae_clocked.specs.Signals.{Connects, IsLater, IsNextOf}
use Rattle.ae_clocked.specs.Delays.{IsLate}
use Rattle.ae_clocked.specs.Rings.{AddsMemories, IsLook, IsStore}
use Rattle.ae_gates.proofs.Adding.{grows_trans}
use Rattle.ae_clocked.proofs.RingLaw.{look_later, register_later}
use Rattle.ae_fold.specs.declared.feedback.RingCounter.{RingCounter}
use Rattle.ae_fold.specs.Feedback.{AddsStores, MayPlace, TurnsAlways}

-- ---- as a netlist grows

pub stores_of : {a b : Circuit} {m k : ℕ} → Adds a b m k → AddsStores a b m k 0
stores_of p = record { grows = p.grows; cells = p.cells; muls = p.muls; memories = omega (arith, p.memories); whole = p.whole }

pub stores_made : {a b : Circuit} {m k : ℕ} → AddsMemories a b m k → AddsStores a b m 0 k
stores_made p = record { grows = p.grows; cells = p.cells; muls = omega (arith, p.muls); memories = p.memories; whole = p.whole }

pub stores_trans : {a b c : Circuit} {m n k j u v : ℕ} → AddsStores a b m k u → AddsStores b c n j v → AddsStores a c (m + n) (k + j) (u + v)
stores_trans p q = record {
  grows = grows_trans p.grows q.grows;
  cells = omega (arith, p.cells, q.cells);
  muls = omega (arith, p.muls, q.muls);
  memories = omega (arith, p.memories, q.memories);
  whole = λ h. q.whole (p.whole h);
}

-- with greater bounds, and as many products in other words
pub stores_is : {a b : Circuit} {m n k j u v : ℕ} → m ≤ n → k ≡ j → u ≤ v → AddsStores a b m k u → AddsStores a b n j v
stores_is l e i p = record {
  grows = p.grows;
  cells = omega (arith, p.cells);
  muls = omega (arith, p.muls);
  memories = omega (arith, p.memories);
  whole = p.whole;
}

-- a register that was added after a netlist may be connected
pub stores_connect : {base old new : Circuit} {r next most muls stores : ℕ} → AddsStores base old most muls stores → length base.cells ≤ r
    → Connects old new r next → AddsStores base new most muls stores
stores_connect {base} {old} {new} {r} p l c = record {
  grows = record {
    extends = record {
      keeps = λ n sized h.
          let b : n < length base.cells = within n sized h in
          c.others n sized (λ (x : n ≡ r). absurd (omega arith)) (p.grows.extends.keeps n sized h);
    };
    limit = c.limit ∙ p.grows.limit;
    outlets = c.outlets ∙ p.grows.outlets;
    inputs = c.inputs ∙ p.grows.inputs;
  };
  cells = omega (arith, p.cells, c.cells);
  muls = c.muls ∙ p.muls;
  memories = omega (arith, p.memories, c.memories);
  whole = λ h. c.whole (p.whole h);
}
  where
    within : (n : ℕ) (sized : SizedCell) → slice_get base.cells n ≡ Some sized → n < length base.cells
    within n sized h = slice_get_within base.cells n sized h

pub stores_once : {a b c : Circuit} (n most muls own stores : ℕ) → own ≡ muls → AddsStores a b (n * most) (n * muls) (n * stores)
    → AddsStores b c most own stores → AddsStores a c ((n + 1) * most) ((n + 1) * muls) ((n + 1) * stores)
stores_once n most muls own stores e p q =
    let m : (n + 1) * most ≡ n * most + 1 * most = add-mul n 1 most in
    let k : (n + 1) * muls ≡ n * muls + 1 * muls = add-mul n 1 muls in
    let j : (n + 1) * stores ≡ n * stores + 1 * stores = add-mul n 1 stores in
    stores_is (omega arith) (omega arith) (omega arith) (stores_trans p q)

-- ---- counters of places

pub may_place_grows : (a b : List SizedCell) (reach : ℕ) (ring : Option RingCounter) → Extends a b → MayPlace a reach ring → MayPlace b reach ring
may_place_grows a b reach None g h = tt
may_place_grows a b reach (Some at) g h = record { some = h.some; few = h.few; reaches = h.reaches; net = net_later g h.net }

pub turns_grow : (a b : List SizedCell) (rst : ℕ) (ring : Option RingCounter) → Extends a b → TurnsAlways a rst ring → TurnsAlways b rst ring
turns_grow a b rst ring g h = λ all e run is. h all (extends_trans g e) run is

-- ---- words that come later

pub late_later : (run : List Clock) (start y x d : ℕ) → IsLate run y x d → IsLater run start y x d
late_later run start y x d late = λ c le l.
    let at : start + (c - d) + d ≡ start + c = omega arith in
    rw at at (late (start + (c - d)) (omega arith))

-- from a ring that is read a clock early into a register
pub ring_later : (run : List Clock) (start bits k delay : ℕ) (memory counter back place word y x : NetId) → IsStore run memory.0 counter.0 x.0 (2 ^ bits)
    → HasWords run start counter.0 (λ c. c % 2 ^ bits) → IsConstant run back.0 k → IsResult run place.0 Add bits (counter ∷ back ∷ counter ∷ [])
    → IsLook run word.0 memory.0 place.0 → IsNextOf run y.0 word.0 → k + (delay - 1) ≡ 2 ^ bits → 2 ≤ delay → IsLater run start y.0 x.0 delay
ring_later run start bits k delay memory counter back place word y x store counts constant added look next sum late =
    let early = look_later run memory.0 counter.0 place.0 x.0 word.0 (2 ^ bits) (delay - 1) k start store counts look
    (λ t l. added t l ∙ ap (λ b. (word_at run t counter.0 + b) % 2 ^ bits) (constant t l)) sum (omega arith) in
    let more : delay - 1 + 1 ≡ delay = omega arith in
    subst (λ d. IsLater run start y.0 x.0 d) more (register_later run word.0 y.0 x.0 (delay - 1) start early next)
