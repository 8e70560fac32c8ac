-- Registers one after another are later and later.
use Rattle.std.proofs.Common.{zero, fold, max, ℕ, suc, ◌≡◌, ◌+◌, ◌-◌, ◌<◌, ◌≤◌, inl, inr, List, ◌++◌, ◌∷◌, [], length, take, Some, slice_get, get_or, arith, refl, sym, ap, ◌∙◌, subst, add-zero}
use Rattle.std.proofs.lemmas.List.{take_more, length_push}
use Rattle.std.proofs.lemmas.Option.{slice_get_within, get_or_from_slice_get}
use Rattle.ae_netlist.specs.declared.cell.NetId.{NetId}
use Rattle.ae_netlist.specs.declared.cell.SizedCell.{SizedCell}
use Rattle.ae_netlist.specs.Circuit.{IsNet, Extends}
use Rattle.ae_netlist.specs.Runs.{InEveryRunFrom, word_at}
use Rattle.ae_netlist.proofs.Gets.{get_push_cases}
use Rattle.ae_netlist.proofs.Growing.{extends_trans, net_later}
use Rattle.ae_netlist.proofs.Carried.{carries_extends}
use Rattle.ae_clocked.specs.Signals.{IsNextOf}
use Rattle.ae_clocked.specs.Delays.{IsDelay, AreDelays, IsTap, AreTaps, greatest_of}

pub delay_none : (cells : List SizedCell) (w x : ℕ) → IsNet cells x w → IsDelay cells w x 0 x
delay_none cells w x h = record { net = h; words = λ all e run r t l. ap (λ n. word_at run n x) (add-zero t) }

pub delay_grows : {a b : List SizedCell} {w x d y : ℕ} → Extends a b → IsDelay a w x d y → IsDelay b w x d y
delay_grows g h = record { net = net_later g h.net; words = λ all e run r. h.words all (extends_trans g e) run r }

pub delay_more : (a b : List SizedCell) (from w x d y z : ℕ) → Extends a b → IsDelay a w x d y → IsNet b z w → InEveryRunFrom from b (λ run. IsNextOf run z y)
    → IsDelay b w x (d + 1) z
delay_more a b from w x d y z g h net next = record {
  net = net;
  words = λ all e run r t l.
      let s : t + (d + 1) ≡ t + d + 1 = omega arith in
      rw s (next all (carries_extends from e) run r (t + d) (omega arith) ∙ h.words all (extends_trans g e) run r t (omega arith));
}

pub delays_first : (cells : List SizedCell) (w : ℕ) (x : NetId) → IsNet cells x.0 w → AreDelays cells w x.0 (x ∷ [])
delays_first cells w x h = record {
  each = λ k y found. elim (get_push_cases [] x k y found) [
    | inl v ↦ (let no : k < 0 = v.1 in absurd (omega arith))
    | inr v ↦ rw v.0 (subst (λ (i : NetId). IsDelay cells w x.0 0 i.0) v.1 (delay_none cells w x.0 h))
  ];
}

pub delays_more : (a b : List SizedCell) (w x : ℕ) (nets : List NetId) (y : NetId) → Extends a b → AreDelays a w x nets → IsDelay b w x (length nets) y.0
    → AreDelays b w x (nets ++ y ∷ [])
delays_more a b w x nets y g h new = record {
  each = λ k z found. elim (get_push_cases nets y k z found) [
    | inl v ↦ delay_grows g (h.each k z v.0)
    | inr v ↦ rw v.0 (subst (λ (i : NetId). IsDelay b w x (length nets) i.0) v.1 new)
  ];
}

-- what is late in every run taps in every reset run
pub late_taps : (cells : List SizedCell) (rst w x d y : ℕ) → IsDelay cells w x d y → IsTap cells rst w x d y
late_taps cells rst w x d y h = record {
  net = h.net;
  words = λ all e run r start reset c le l.
      let s : start + c ≡ start + (c - d) + d = omega arith in
      rw s (h.words all e run r (start + (c - d)) (omega arith));
}

pub taps_none : (cells : List SizedCell) (rst w x : ℕ) → AreTaps cells rst w x [] []
taps_none cells rst w x = record { long = refl; each = λ k d y h g. (let no : k < 0 = slice_get_within [] k d h in absurd (omega arith)) }

pub taps_more : (cells : List SizedCell) (rst w x i : ℕ) (taps : List ℕ) (nets : List NetId) (d : ℕ) (y : NetId) → AreTaps cells rst w x (take i taps) nets
    → slice_get taps i ≡ Some d → IsTap cells rst w x d y.0 → AreTaps cells rst w x (take (i + 1) taps) (nets ++ y ∷ [])
taps_more cells rst w x i taps nets d y h found new =
    let l : i < length taps = slice_get_within taps i d found in
    let more : take (i + 1) taps ≡ take i taps ++ d ∷ [] = take_more taps i d l ∙ ap (λ v. take i taps ++ v ∷ []) (get_or_from_slice_get taps i d d found) in
    rw more
    (record {
      long = length_push nets y ∙ (ap (λ n. n + 1) h.long ∙ sym (length_push (take i taps) d));
      each = λ k e z ht hn. elim (get_push_cases (take i taps) d k e ht) [
        | inl v ↦ elim (get_push_cases nets y k z hn) [
          | inl u ↦ h.each k e z v.0 u.0
          | inr u ↦ (let a : k < length (take i taps) = v.1 in let b : k ≡ length nets = u.0 in let same : length nets ≡ length (take i taps) = h.long in
              absurd (omega arith))
        ]
        | inr v ↦ elim (get_push_cases nets y k z hn) [
          | inl u ↦ (let a : k ≡ length (take i taps) = v.0 in let b : k < length nets = u.1 in let same : length nets ≡ length (take i taps) = h.long in
              absurd (omega arith))
          | inr u ↦ subst (λ (t : ℕ). IsTap cells rst w x t z.0) v.1 (subst (λ (t : NetId). IsTap cells rst w x d t.0) u.1 new)
        ]
      ];
    })

-- ---- the greatest tap

from_most : (m : ℕ) (xs : List ℕ) → m ≤ fold max m xs
from_most m [] = omega arith
from_most m (x ∷ xs) = let l : max m x ≤ fold max (max m x) xs = from_most (max m x) xs in omega arith

within_most : (m : ℕ) (xs : List ℕ) (i : ℕ) → i < length xs → get_or xs i 0 ≤ fold max m xs
within_most m [] i l = absurd (omega arith)
within_most m (x ∷ xs) zero l = let n : max m x ≤ fold max (max m x) xs = from_most (max m x) xs in let x_in : x ≤ fold max (max m x) xs = omega arith in x_in
within_most m (x ∷ xs) (suc i) l = within_most (max m x) xs i (omega arith)

pub below_greatest : (taps : List ℕ) (i : ℕ) → i < length taps → get_or taps i 0 ≤ greatest_of taps
below_greatest taps i l = within_most 0 taps i l
