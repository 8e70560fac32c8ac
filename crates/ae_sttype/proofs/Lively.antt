-- Which clocks are live, and the order of the elements of a lane.
use Rattle.std.proofs.Common.{◌≡◌, ℕ, ◌+◌, ◌*◌, ◌/◌, ◌%◌, ◌<◌, ◌≤◌, ◌↔◌, length, refl, ap, sym, ◌∙◌, arith, inl, inr, IsTrue, Bool, nat_eq, nat_lt}
use Rattle.std.proofs.lemmas.Nat.{div-add-mod', mod_below, div-mul-add, mod-mul-add, mul-add-lt, div_below, mul-le}
use Rattle.std.proofs.lemmas.List.{get_or_default}
use Rattle.std.proofs.lemmas.Option.{unwrap_or-slice_get}
use Rattle.std.proofs.lemmas.Bool.{cases_order, eqb-true, eq-eqb, ltb-true}
use Rattle.ae_sttype.specs.declared.st_type.Slot.{Slot}
use Rattle.ae_word.specs.AtomTree.{AtomTree}
use Rattle.ae_sttype.specs.StTree.{StTree, atom, tseq, sseq, time, lanes, st_atoms}
use Rattle.ae_sttype.specs.Slots.{slots, IsLive}
use Rattle.ae_sttype.specs.Size.{HasLengths}
use Rattle.ae_sttype.proofs.Bounds.{time_pos, atoms_pos}
use Rattle.ae_sttype.proofs.Places.{Stands, slot_at, slot_of, length-slots, tseq_stands, sseq_stands, stands_in_tseq, stands_in_sseq}

pub record Lives (s : StTree) (c : ℕ) : Type 0 where
  pub element : ℕ
  pub lane : ℕ
  pub stands : Stands s element c lane

pub live_from : (s : StTree) (c : ℕ) → Lives s c → IsLive s c
live_from s c h =
    let w = h.stands in
    let p : h.element < length (slots s) = omega (arith, w.below, length-slots s) in (
      h.element,
      slot_at c h.lane,
      p,
      get_or_default (slots s) h.element (slot_at c h.lane) (slot_at 0 0) p
          ∙ (sym (unwrap_or-slice_get (slots s) h.element (slot_at 0 0)) ∙ w.is),
      refl,
    )

pub live_to : (s : StTree) (c : ℕ) → IsLive s c → Lives s c
live_to s c h = record {
  element = h.0;
  lane = h.1.lane;
  stands = record {
    below = omega (arith, h.2, length-slots s);
    is = unwrap_or-slice_get (slots s) h.0 (slot_at 0 0) ∙ get_or_default (slots s) h.0 (slot_at 0 0) h.1 h.2 ∙ h.3 ∙ ap (λ x. slot_at x h.1.lane) h.4;
  };
}

pub live_tseq : (s t : StTree) (n i c : ℕ) → s ≡ tseq n i t → HasLengths s → c / time t < n → IsLive t (c % time t) → IsLive s c
live_tseq s t n i c is h p live =
    let hh : HasLengths (tseq n i t) = rw is at h in
    let w = live_to t (c % time t) live in
    let e = c / time t * st_atoms t + w.element in
    let q : e / st_atoms t ≡ c / time t = div-mul-add (c / time t) (st_atoms t) w.element w.stands.below in
    let r : e % st_atoms t ≡ w.element = mod-mul-add (c / time t) (st_atoms t) w.element w.stands.below in
    let fits : e < n * st_atoms t = omega (arith, mul-add-lt (c / time t) (st_atoms t) w.element n p w.stands.below) in
    let here : Stands (tseq n i t) e (e / st_atoms t * time t + c % time t) w.lane = stands_in_tseq n i t hh e (c % time t) w.lane fits (rw r w.stands) in
    let place : e / st_atoms t * time t + c % time t ≡ c = ap (λ y. y * time t + c % time t) q ∙ div-add-mod' c (time t) in
    rw is (live_from (tseq n i t) c (record { element = e; lane = w.lane; stands = rw place at here }))

pub of_live_tseq : (s t : StTree) (n i c : ℕ) → s ≡ tseq n i t → HasLengths s → IsLive s c → (c / time t < n) × IsLive t (c % time t)
of_live_tseq s t n i c is h live =
    let hh : HasLengths (tseq n i t) = rw is at h in
    let w = live_to (tseq n i t) c (rw is at live) in
    let k = tseq_stands n i t hh w.element c w.lane w.stands in (
      omega (arith, k.0, div_below w.element (st_atoms t) n (atoms_pos t hh.1) w.stands.below),
      live_from t (c % time t) (record { element = w.element % st_atoms t; lane = w.lane; stands = k.1 }),
    )

pub live_sseq : (s t : StTree) (n c : ℕ) → s ≡ sseq n t → HasLengths s → IsLive t c ↔ IsLive s c
live_sseq s t n c is h =
    let hh : HasLengths (sseq n t) = rw is at h in (
      (λ live. let w = live_to t c live in
          let p : 0 * st_atoms t + w.element < n * st_atoms t = omega (arith, mul-add-lt 0 (st_atoms t) w.element n hh.0 w.stands.below) in
          let e : w.element % st_atoms t ≡ w.element = ap (λ x. x % st_atoms t) (let z : w.element ≡ 0 * st_atoms t + w.element = omega arith in z) ∙
          mod-mul-add 0 (st_atoms t) w.element w.stands.below in
          rw is (live_from (sseq n t) c (record {
            element = w.element;
            lane = _;
            stands = stands_in_sseq n t hh w.element c w.lane (omega (arith, p)) (rw e w.stands);
          }))),
      (λ live. let w = live_to (sseq n t) c (rw is at live) in
          let k = sseq_stands n t hh w.element c w.lane w.stands in
          live_from t c (record { element = w.element % st_atoms t; lane = w.lane % lanes t; stands = k.1 })),
    )

earlier : (c d k : ℕ) → 0 < k → c / k < d / k → c < d
earlier c d k p h = omega (arith, div-add-mod' c k, div-add-mod' d k, mod_below c k p, mul-le (c / k + 1) k (d / k) k (omega arith) (omega arith))

-- on one lane a later element stands in a later clock
pub lane_order : (s : StTree) → HasLengths s → (e f c d l : ℕ) → Stands s e c l → Stands s f d l → e < f → c < d
lane_order (atom k) h e f c d l a b p = absurd (omega (arith, a.below, b.below))
lane_order (tseq n i t) h e f c d l a b p =
    let x = tseq_stands n i t h e c l a in
    let y = tseq_stands n i t h f d l b in
    elim (cases_order (e / st_atoms t) (f / st_atoms t)) [
      | inl same ↦
          let q : e % st_atoms t < f % st_atoms t = omega (arith, div-add-mod' e (st_atoms t), div-add-mod' f (st_atoms t), ap (λ z. z * st_atoms t) same) in
          let r = lane_order t h.1 (e % st_atoms t) (f % st_atoms t) (c % time t) (d % time t) l x.1 y.1 q in
          omega (arith, r, div-add-mod' c (time t), div-add-mod' d (time t), ap (λ z. z * time t) (x.0 ∙ same ∙ sym y.0))
      | inr apart ↦ elim apart [
        | inl less ↦ earlier c d (time t) (time_pos t h.1) (omega (arith, x.0, y.0, less))
        | inr more ↦ absurd (omega (arith, earlier f e (st_atoms t) (atoms_pos t h.1) more, p))
      ]
    ]
lane_order (sseq n t) h e f c d l a b p =
    let x = sseq_stands n t h e c l a in
    let y = sseq_stands n t h f d l b in
    let q : e % st_atoms t < f % st_atoms t = omega (
      arith,
      div-add-mod' e (st_atoms t),
      div-add-mod' f (st_atoms t),
      ap (λ z. z * st_atoms t) (sym x.0 ∙ y.0),
    ) in
    lane_order t h.1 (e % st_atoms t) (f % st_atoms t) c d (l % lanes t) x.1 y.1 q

-- ---- the exits of the code

pub live_atom : (s : StTree) (k : AtomTree) (c : ℕ) → s ≡ atom k → IsTrue (nat_eq c 0) ↔ IsLive s c
live_atom s k c is = rw is (
  (λ b. live_from (atom k) c (record { element = 0; lane = 0; stands = record { below = omega arith; is = ap (λ x. slot_at x 0) (sym (eqb-true c 0 b)) } })),
  (λ live. let w = live_to (atom k) c live in
      let z : w.element ≡ 0 = omega (arith, w.stands.below) in
      eq-eqb c 0 (sym (ap (λ (x : Slot). x.clock) (ap (slot_of (atom k)) (sym z) ∙ w.stands.is)))),
)

pub live_then : (s t : StTree) (n i k c : ℕ) (b : Bool) → s ≡ tseq n i t → k ≡ time t → HasLengths s → c / k < n → (IsTrue b ↔ IsLive t (c % k))
    → IsTrue b ↔ IsLive s c
live_then s t n i k c b is tm h p same = (
  (λ x. live_tseq s t n i c is h (rw tm at p) (rw tm at (same.0 x))),
  (λ x. same.1 (rw tm (of_live_tseq s t n i c is h x).1)),
)

pub live_else : (s t : StTree) (n i k c : ℕ) → s ≡ tseq n i t → k ≡ time t → HasLengths s → n ≤ c / k → IsTrue (nat_lt (c / k) n) ↔ IsLive s c
live_else s t n i k c is tm h p = (
  (λ x. absurd (omega (arith, ltb-true (c / k) n x))),
  (λ x. absurd (omega (arith, (of_live_tseq s t n i c is h x).0, ap (λ y. c / y) tm))),
)

pub live_across : (s t : StTree) (n c : ℕ) (b : Bool) → s ≡ sseq n t → HasLengths s → (IsTrue b ↔ IsLive t c) → IsTrue b ↔ IsLive s c
live_across s t n c b is h same = ((λ x. (live_sseq s t n c is h).0 (same.0 x)), (λ x. same.1 ((live_sseq s t n c is h).1 x)))
