-- The whole of a fused program, from its parts.
use Rattle.std.proofs.Common.{◌≡◌, ℕ, zero, suc, ◌+◌, ◌-◌, ◌*◌, ◌<◌, ◌≤◌, max, Bool, true, false, List, [], ◌∷◌, length, drop, sum_by, Some, slice_get, refl, arith, sym, ap, ◌∙◌}
use Rattle.std.specs.Prelude.{◌&&◌, fold}
use Rattle.std.proofs.Math.Seq.{drop-cons}
use Rattle.std.proofs.lemmas.List.Sums.{sum_by-cons}
use Rattle.std.proofs.lemmas.Option.{get_or_from_slice_get, slice_get_within}
use Rattle.ae_sttype.specs.Moves.{greatest}
use Rattle.ae_moves.specs.Origins.{Move, move_latency}
use Rattle.ae_moves.specs.Rings.{rings}
use Rattle.ae_seq.specs.ProgramTree.{NodeTree}
use Rattle.ae_delay.specs.declared.own.OwnCosts.{OwnCosts}
use Rattle.ae_trace.specs.Traces.{are_movements, is_movement_op}
use Rattle.ae_results.specs.declared.costs.ResultCosts.{ResultCosts}
use Rattle.ae_fuse.specs.Costing.{fused_costs, moves_latency, result_load, result_mems}
use Rattle.ae_results.specs.Results.{AreCostsOf, AreLight, own_latency, own_load, own_mems}
use Rattle.ae_results.specs.Results.{AreAllCosts}

-- ---- lines that move words

movements-at : (ns : List NodeTree) (k : ℕ) (n : NodeTree) → slice_get ns k ≡ Some n
    → are_movements (drop k ns) ≡ (is_movement_op n.op && are_movements (drop (k + 1) ns))
movements-at ns k n found =
    let next : suc k ≡ k + 1 = omega arith in
    ap are_movements (drop-cons ns k n (slice_get_within ns k n found))
    ∙ (λ i. is_movement_op (get_or_from_slice_get ns k n n found i).op && are_movements (drop (next i) ns))

pub movements-next : (ns : List NodeTree) (k : ℕ) (n : NodeTree) (b : Bool) → slice_get ns k ≡ Some n → b ≡ are_movements (drop k ns)
    → is_movement_op n.op ≡ true → b ≡ are_movements (drop (k + 1) ns)
movements-next ns k n b found was moves = was ∙ movements-at ns k n found ∙ ap (λ x. x && are_movements (drop (k + 1) ns)) moves

pub movements-not : (ns : List NodeTree) (k : ℕ) (n : NodeTree) (b : Bool) → slice_get ns k ≡ Some n → b ≡ are_movements (drop k ns)
    → is_movement_op n.op ≡ false → false ≡ b
movements-not ns k n b found was stays = sym (was ∙ movements-at ns k n found ∙ ap (λ x. x && are_movements (drop (k + 1) ns)) stays)

-- ---- costs

-- two lists, entry by entry
pub all-light : (ms : List Move) (cs : List ResultCosts) → AreAllCosts ms cs → AreLight cs
all-light ms cs h k c found =
    let low : k < length cs = slice_get_within cs k c found in
    let m = entry ms k (omega (arith, low, h.long)) in
    (h.each k m.0 c m.1 found).light
  where
    entry : (ms : List Move) (k : ℕ) → k < length ms → (m : Move) × (slice_get ms k ≡ Some m)
    entry [] k low = absurd (omega arith)
    entry (m ∷ ms) zero low = (m, refl)
    entry (m ∷ ms) (suc k) low = entry ms k (omega arith)

tail-costs : (m : Move) (ms : List Move) (c : ResultCosts) (cs : List ResultCosts) → AreAllCosts (m ∷ ms) (c ∷ cs) → AreAllCosts ms cs
tail-costs m ms c cs h = record { long = omega (arith, h.long); each = λ k o x f g. h.each (suc k) o x f g }

sums-same : (f : ResultCosts → ℕ) (g : Move → ℕ) → ((m : Move) (c : ResultCosts) → AreCostsOf m c → f c ≡ g m) → (ms : List Move) (cs : List ResultCosts)
    → AreAllCosts ms cs → sum_by f cs ≡ sum_by g ms
sums-same f g same [] [] h = refl
sums-same f g same [] (c ∷ cs) h = absurd (let e = h.long in omega (arith, e))
sums-same f g same (m ∷ ms) [] h = absurd (let e = h.long in omega (arith, e))
sums-same f g same (m ∷ ms) (c ∷ cs) h =
    sum_by-cons f c cs ∙ (λ i. same m c (h.each 0 m c refl refl) i + sums-same f g same ms cs (tail-costs m ms c cs h) i) ∙ sym (sum_by-cons g m ms)

latest-same : (most : ℕ) (ms : List Move) (cs : List ResultCosts) → AreAllCosts ms cs
    → fold (λ a c. max a (own_latency c)) most cs ≡ fold (λ a m. max a (move_latency m)) most ms
latest-same most [] [] h = refl
latest-same most [] (c ∷ cs) h = absurd (let e = h.long in omega (arith, e))
latest-same most (m ∷ ms) [] h = absurd (let e = h.long in omega (arith, e))
latest-same most (m ∷ ms) (c ∷ cs) h =
    ap (λ n. fold (λ a c. max a (own_latency c)) (max most n) cs) (h.each 0 m c refl refl).latency ∙
    latest-same (max most (move_latency m)) ms cs (tail-costs m ms c cs h)

pub latency-same : (ms : List Move) (cs : List ResultCosts) → AreAllCosts ms cs → greatest own_latency cs ≡ moves_latency ms
latency-same ms cs h = latest-same 0 ms cs h

pub load-same : (whole : ℕ) (ms : List Move) (cs : List ResultCosts) → AreAllCosts ms cs → sum_by (own_load whole) cs ≡ sum_by (result_load whole) ms
load-same whole ms cs h = sums-same (own_load whole) (result_load whole) (λ m c o. (λ i. o.load i + (whole - o.latency i) * o.columns i)) ms cs h

pub mems-same : (whole : ℕ) (ms : List Move) (cs : List ResultCosts) → AreAllCosts ms cs → sum_by (own_mems whole) cs ≡ sum_by (result_mems whole) ms
mems-same whole ms cs h = sums-same (own_mems whole) (result_mems whole) (λ m c o. (λ i. o.mems i + o.columns i * rings (whole - o.latency i))) ms cs h

-- the latest is not late
pub latest-few : (most : ℕ) (cs : List ResultCosts) → most ≤ 4096 → AreLight cs → fold (λ a c. max a (own_latency c)) most cs ≤ 4096
latest-few most [] h light = h
latest-few most (c ∷ cs) h light =
    latest-few (max most (own_latency c)) cs (let l = (light 0 c refl).latency in omega (arith, l, h)) (λ k x f. light (suc k) x f)

abbrev pub costs-of : (latency load mems : ℕ) → OwnCosts
costs-of latency load mems = record { latency = latency; load = load; muls = 0; mems = mems }

pub own-costs : (latency load mems : ℕ) (ms : List Move) → latency ≡ moves_latency ms → load ≡ sum_by (result_load (moves_latency ms)) ms
    → mems ≡ sum_by (result_mems (moves_latency ms)) ms
    → costs-of latency load mems ≡ fused_costs ms
own-costs latency load mems ms e1 e2 e3 = λ i. record { latency = e1 i; load = e2 i; muls = 0; mems = e3 i }
