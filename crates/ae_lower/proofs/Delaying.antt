-- Bundles that are delayed one by one.
use Rattle.std.proofs.Common.{ℕ, zero, suc, ◌≡◌, ◌+◌, ◌*◌, ◌<◌, ◌≤◌, inl, inr, List, ◌++◌, ◌∷◌, [], length, take, Some, slice_get, get_or, arith, refl, sym, ap, ◌∙◌, subst}
use Rattle.std.proofs.lemmas.List.{length_push, length-take-le, take_more}
use Rattle.std.proofs.lemmas.Option.{get_or_from_slice_get, slice_get-get_or, slice_get_read, slice_get_within}
use Rattle.ae_netlist.specs.declared.cell.NetId.{NetId}
use Rattle.ae_netlist.specs.declared.cell.SizedCell.{SizedCell}
use Rattle.ae_netlist.specs.Circuit.{Extends}
use Rattle.ae_netlist.proofs.Gets.{get_push_cases}
use Rattle.ae_netlist.proofs.Growing.{extends_trans, net_later, net_width}
use Rattle.ae_ops.specs.Waves.{AreLate, AreNets, HaveOwnWidths}
use Rattle.ae_lower.specs.Delaying.{AreDelayed, IsDelayed, delay_load}

-- nets are themselves no clock later
pub late_none : (cells : List SizedCell) (rst : ℕ) (nets : List NetId) → AreLate cells rst 0 nets nets
late_none cells rst nets = λ all e run r start reset c q l. (let z : c + 0 ≡ c = omega arith in rw z refl)

pub late_grows : {a b : List SizedCell} {rst : ℕ} (d : ℕ) (nets late : List NetId) → Extends a b → AreLate a rst d nets late → AreLate b rst d nets late
late_grows d nets late g h = λ all e run r. h all (extends_trans g e) run r

pub nets_grow : {a b : List SizedCell} {widths : List ℕ} {nets : List NetId} → Extends a b → AreNets a widths nets → AreNets b widths nets
nets_grow g h = record { long = h.long; each = λ q w net fw fn. net_later g (h.each q w net fw fn) }

pub own_grow : {a b : List SizedCell} (nets : List NetId) → Extends a b → HaveOwnWidths a nets → HaveOwnWidths b nets
own_grow nets g h = λ q net found. (let there = net_later g (h q net found) in rw (net_width there) there)

delayed_grows : {old a b : List SizedCell} {rst slack : ℕ} {nets late : List NetId} → Extends a b → IsDelayed old a rst slack nets late
    → IsDelayed old b rst slack nets late
delayed_grows g h = record { kept = λ widths own. nets_grow g (h.kept widths own); is_late = late_grows _ _ _ g h.is_late }

pub delayed_none : (old : List SizedCell) (rst : ℕ) (items : List (List NetId)) (waits : List ℕ) → AreDelayed old old rst items waits [] []
delayed_none old rst items waits = record { long = refl; each = λ r i nets late f g h. (let no : r < 0 = slice_get_within [] r late h in absurd (omega arith)) }

-- one more
pub delayed_more : (old mid new : List SizedCell) (rst : ℕ) (items : List (List NetId)) (waits : List ℕ) (count i : ℕ) (chosen : List ℕ)
    (bundles : List (List NetId)) (nets late : List NetId) → length chosen ≡ count
    → Extends old mid → Extends mid new → slice_get items i ≡ Some nets → ((widths : List ℕ) → AreNets mid widths nets → AreNets new widths late)
    → AreLate new rst (get_or waits count 0) nets late
    → AreDelayed old mid rst items waits chosen bundles → AreDelayed old new rst items waits (chosen ++ i ∷ []) (bundles ++ late ∷ [])
delayed_more old mid new rst items waits count i chosen bundles nets late many up g at own is was = record {
  long = length_push bundles late ∙ (ap (λ n. n + 1) was.long ∙ sym (length_push chosen i));
  each = λ r k xs ys fc fi fb. elim (get_push_cases bundles late r ys fb) [
    | inl v ↦ elim (get_push_cases chosen i r k fc) [
      | inl u ↦ delayed_grows g (was.each r k xs ys u.0 fi v.0)
      | inr u ↦ absurd (let no : length chosen < length bundles = omega (arith, u.0, v.1) in let e : length bundles ≡ length chosen = was.long in omega arith)
    ]
    | inr v ↦ elim (get_push_cases chosen i r k fc) [
      | inl u ↦ absurd (let e : length bundles ≡ length chosen = was.long in omega (arith, u.1, v.0))
      | inr u ↦
          let same : Some nets ≡ Some xs = sym at ∙ (ap (slice_get items) u.1 ∙ fi) in
          let is_nets : nets ≡ xs = cc in
          let place : count ≡ r = omega (arith, u.0) in
          let P : ℕ → List NetId → List NetId → Type 0 = λ q ns ls. IsDelayed old new rst (get_or waits q 0) ns ls in
          let made : P count nets late = record { kept = λ widths h. own widths (nets_grow up h); is_late = is } in
          subst (λ (ls : List NetId). P r xs ls) v.1 (subst (λ (ns : List NetId). P r ns late) is_nets (subst (λ (q : ℕ). P q nets late) place made))
    ]
  ];
}

-- ---- the registers so far

-- the item that is chosen next
pub item_at : (items : List (List NetId)) (chosen : List ℕ) (j : ℕ) (nets : List NetId) → ((r i : ℕ) → slice_get chosen r ≡ Some i → i < length items)
    → j < length chosen
    → nets ≡ get_or items (get_or chosen j 0) nets → slice_get items (get_or chosen j 0) ≡ Some nets
item_at items chosen j nets below h is =
    slice_get_read items (length items) (get_or chosen j 0) nets refl (below j (get_or chosen j 0) (slice_get-get_or chosen j 0 h)) is

no_load : (items : List (List NetId)) (waits : List ℕ) → delay_load items waits [] ≡ 0
no_load items [] = refl
no_load items (w ∷ ws) = refl

load_push : (items : List (List NetId)) (waits chosen : List ℕ) (i : ℕ) → length chosen < length waits
    → delay_load items waits (chosen ++ i ∷ []) ≡ delay_load items waits chosen + get_or waits (length chosen) 0 * length (get_or items i [])
load_push items [] chosen i h = absurd (omega arith)
load_push items (w ∷ ws) [] i h = let e : delay_load items ws [] ≡ 0 = no_load items ws in omega (arith, e)
load_push items (w ∷ ws) (c ∷ cs) i h =
    let rest : delay_load items ws (cs ++ i ∷ []) ≡ delay_load items ws cs + get_or ws (length cs) 0 * length (get_or items i []) = load_push items ws cs i
    (omega arith) in
    omega (arith, rest)

load_front : (items : List (List NetId)) (waits chosen : List ℕ) (n : ℕ) → delay_load items waits (take n chosen) ≤ delay_load items waits chosen
load_front items [] chosen n = omega arith
load_front items (w ∷ ws) [] zero = omega arith
load_front items (w ∷ ws) [] (suc n) = omega arith
load_front items (w ∷ ws) (c ∷ cs) zero = omega arith
load_front items (w ∷ ws) (c ∷ cs) (suc n) =
    let rest : delay_load items ws (take n cs) ≤ delay_load items ws cs = load_front items ws cs n in omega (arith, rest)

pub delay_more : (items : List (List NetId)) (waits chosen : List ℕ) (j : ℕ) (nets : List NetId) → slice_get items (get_or chosen j 0) ≡ Some nets
    → length waits ≡ length chosen → j < length chosen
    → delay_load items waits (take j chosen) + get_or waits j 0 * length nets ≤ delay_load items waits (take (j + 1) chosen)
delay_more items waits chosen j nets at long h =
    let i : ℕ = get_or chosen j 0 in
    let many : length (take j chosen) ≡ j = length-take-le j chosen (omega arith) in
    let next : delay_load items waits (take (j + 1) chosen) ≡ delay_load items waits (take j chosen ++ i ∷ []) = ap (delay_load items waits)
    (take_more chosen j 0 h) in
    let all : delay_load items waits (take j chosen ++ i ∷ []) ≡ delay_load items waits (take j chosen) + get_or waits (length (take j chosen)) 0 * length
    (get_or items i []) = load_push items waits (take j chosen) i (omega (arith, many)) in
    let own : get_or waits (length (take j chosen)) 0 * length (get_or items i []) ≡ get_or waits j 0 * length nets =
    ap (λ n. get_or waits n 0 * length (get_or items i [])) many ∙ ap (λ ns. get_or waits j 0 * length ns) (get_or_from_slice_get items i nets [] at) in
    omega (arith, next, all, own)

pub delay_most : (items : List (List NetId)) (waits chosen : List ℕ) (j : ℕ) (nets : List NetId) → slice_get items (get_or chosen j 0) ≡ Some nets
    → length waits ≡ length chosen → j < length chosen
    → delay_load items waits (take j chosen) + get_or waits j 0 * length nets ≤ delay_load items waits chosen
delay_most items waits chosen j nets at long h = omega (arith, delay_more items waits chosen j nets at long h, load_front items waits chosen (j + 1))
