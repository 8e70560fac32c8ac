-- Nets that tap others, one by one, are these others some clocks later.
use Rattle.std.proofs.Common.{ℕ, ◌≡◌, ◌+◌, ◌-◌, ◌*◌, ◌<◌, ◌≤◌, inl, inr, max, nat_lt, List, ◌++◌, ◌∷◌, [], length, Some, None, slice_get, get_or, arith, refl, sym, ap, ◌∙◌, subst}
use Rattle.std.proofs.lemmas.Bool.{cases_lt}
use Rattle.std.proofs.lemmas.List.{length_push}
use Rattle.std.proofs.lemmas.List.Sums.{count_by-le-length}
use Rattle.std.proofs.Math.Nat.{mul-le-mul_right}
use Rattle.std.proofs.lemmas.Option.{slice_get-get_or, slice_get_past, slice_get_within}
use Rattle.ae_netlist.specs.declared.cell.NetId.{NetId}
use Rattle.ae_netlist.specs.declared.cell.SizedCell.{SizedCell}
use Rattle.ae_netlist.specs.Circuit.{IsNet, Extends, width_of}
use Rattle.ae_netlist.proofs.Gets.{get_push_cases}
use Rattle.ae_netlist.proofs.Growing.{net_later, net_width}
use Rattle.ae_clocked.specs.Delays.{IsTap, greatest_of, line_cells}
use Rattle.ae_clocked.specs.Rings.{rings}
use Rattle.ae_ops.specs.Waves.{AreLate, AreNets, HaveOwnWidths, wave_of}
use Rattle.ae_clocked.proofs.Making.{tap_grows}

-- so many nets tap those at their places
pub record AreTapping (old new : List SizedCell) (rst d k : ℕ) (nets late : List NetId) : Type 0 where
  pub long : length late ≡ k
  pub each : (q : ℕ) (x y : NetId) → slice_get nets q ≡ Some x → slice_get late q ≡ Some y → IsTap new rst (width_of old x.0) x.0 d y.0

pub tapping_none : (old : List SizedCell) (rst d : ℕ) (nets : List NetId) → AreTapping old old rst d 0 nets []
tapping_none old rst d nets = record { long = refl; each = λ q x y f g. (let no : q < 0 = slice_get_within [] q y g in absurd (omega arith)) }

pub tapping_more : (old mid new : List SizedCell) (rst d k w : ℕ) (nets late : List NetId) (x y : NetId) → Extends mid new
    → AreTapping old mid rst d k nets late → slice_get nets k ≡ Some x
    → w ≡ width_of old x.0 → IsTap new rst w x.0 d y.0 → AreTapping old new rst d (k + 1) nets (late ++ y ∷ [])
tapping_more old mid new rst d k w nets late x y g h there wide tap = record {
  long = length_push late y ∙ ap (λ n. n + 1) h.long;
  each = λ q a b fa fb. elim (get_push_cases late y q b fb) [
    | inl v ↦ tap_grows g (h.each q a b fa v.0)
    | inr v ↦
        let at : q ≡ k = v.0 ∙ h.long in
        let same : Some x ≡ Some a = sym there ∙ (ap (slice_get nets) (sym at) ∙ fa) in
        let is : x ≡ a = cc in
        subst (λ (n : NetId). IsTap new rst (width_of old n.0) n.0 d b.0) is
        (subst (λ (n : NetId). IsTap new rst (width_of old x.0) x.0 d n.0) v.1 (rw wide at tap))
  ];
}

pub there : (nets : List NetId) (q : ℕ) → q < length nets → slice_get nets q ≡ Some (get_or nets q (record { 0 = 0 }))
there nets q l = slice_get-get_or nets q (record { 0 = 0 }) l

pub late_of : (old new : List SizedCell) (rst d : ℕ) (nets late : List NetId) → AreTapping old new rst d (length nets) nets late → AreLate new rst d nets late
unfolding wave_of
late_of old new rst d nets late h = λ all e run r start reset c q l. elim (cases_lt q (length nets)) [
  | inl within ↦
      let fx = there nets q within in
      let fy = there late q (omega (arith, h.long)) in
      let back : c + d - d ≡ c = omega arith in
      let words = (h.each q _ _ fx fy).words all e run r start reset (c + d) (omega arith) (omega arith) in
      rw (fx, fy) (rw back at words)
  | inr past ↦
      let nx : slice_get nets q ≡ None = slice_get_past nets q past in
      let ny : slice_get late q ≡ None = slice_get_past late q (omega (arith, h.long)) in
      rw (nx, ny) refl
]

pub nets_of : (old new : List SizedCell) (rst d : ℕ) (nets late : List NetId) → AreTapping old new rst d (length nets) nets late → (widths : List ℕ)
    → AreNets old widths nets → AreNets new widths late
nets_of old new rst d nets late h widths own = record {
  long = h.long ∙ own.long;
  each = λ q width y fw fy.
      let l : q < length late = slice_get_within late q y fy in
      let fx = there nets q (omega (arith, h.long)) in
      let wide : width_of old (get_or nets q (record { 0 = 0 })).0 ≡ width = net_width (own.each q width _ fw fx) in
      rw wide at (h.each q _ y fx fy).net;
}

-- the cells of a line with one tap
pub line_one : (d : ℕ) → line_cells (d ∷ []) ≤ 8 * d + 4
line_one d = omega (arith, count_by-le-length (λ tap. nat_lt 0 tap) (d ∷ []))

-- its memories
pub rings_one : (d : ℕ) → rings (greatest_of (d ∷ [])) ≡ rings d
rings_one d = let e : max 0 d ≡ d = omega arith in ap rings e

found_at : (nets bundle : List NetId) (k : ℕ) → nets ≡ bundle → k < length nets → slice_get bundle k ≡ Some (get_or nets k (record { 0 = 0 }))
found_at nets bundle k e l = ap (λ (xs : List NetId). slice_get xs k) (sym e) ∙ there nets k l

pub own_later : (old mid : List SizedCell) (nets bundle : List NetId) (k : ℕ) → nets ≡ bundle → Extends old mid → HaveOwnWidths old bundle → k < length nets
    → IsNet mid (get_or nets k (record { 0 = 0 })).0 (width_of mid (get_or nets k (record { 0 = 0 })).0)
own_later old mid nets bundle k e g own l = let net = net_later g (own k _ (found_at nets bundle k e l)) in rw (net_width net) net

pub same_width : (old mid : List SizedCell) (nets bundle : List NetId) (k : ℕ) → nets ≡ bundle → Extends old mid → HaveOwnWidths old bundle → k < length nets
    → width_of mid (get_or nets k (record { 0 = 0 })).0 ≡ width_of old (get_or nets k (record { 0 = 0 })).0
same_width old mid nets bundle k e g own l = net_width (net_later g (own k _ (found_at nets bundle k e l)))

pub tapped_all : (old new : List SizedCell) (rst d k : ℕ) (nets bundle late made : List NetId) → nets ≡ bundle → made ≡ late → k ≡ length nets
    → AreTapping old new rst d k nets late → AreTapping old new rst d (length bundle) bundle made
tapped_all old new rst d k nets bundle late made e m l h = rw (m, ← e, ← l) h

-- so many cells for each of some nets of a bundle are at most so many for each of all
pub cells_within : (old now k x : ℕ) (nets bundle : List NetId) → nets ≡ bundle → k ≤ length nets → now ≤ old + k * x → now ≤ old + length bundle * x
cells_within old now k x nets bundle e l h =
    let more : k * x ≤ length bundle * x = mul-le-mul_right x (rw e at l) in
    omega (arith, h, more)
