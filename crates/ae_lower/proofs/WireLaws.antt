-- The block law of wires: pairs of elements, and their parts.
use Rattle.std.proofs.Common.{ℕ, zero, suc, ◌≡◌, ◌+◌, ◌-◌, ◌*◌, ◌<◌, ◌≤◌, inl, inr, List, [], ◌∷◌, ◌++◌, length, length-append, take, drop, Some, slice_get, get_or, arith, ap, sym, ◌∙◌, subst}
use Rattle.std.proofs.Math.Nat.{mul-le-mul_right}
use Rattle.std.proofs.lemmas.List.{get_or-append-add, get_or_append_left, length-drop}
use Rattle.std.proofs.lemmas.Bool.{cases_lt}
use Rattle.std.proofs.lemmas.Option.{slice_get_within, unwrap_or-slice_get}
use Rattle.ae_sttype.specs.declared.st_type.Slot.{Slot}
use Rattle.ae_eval.specs.Stack.{paired}
use Rattle.ae_flow.specs.Flow.{parts, words_at}
use Rattle.ae_ops.specs.Waves.{Wave}
use Rattle.ae_ops.specs.Blocks.{BlockLaw, AllAreWords, AllHold, HoldsWords}
use Rattle.ae_lower.specs.Parts.{plain_part}
use Rattle.ae_lower.proofs.Spreading.{get_take, get_drop, piece_long}
use Rattle.ae_ports.proofs.Columns.{joined_word}

-- ---- words of pairs

-- the words of a pair are as many as those of its parts
pair_long : (k l : ℕ) (us vs : List ℕ) → k ≤ length us → l ≤ length vs → length (take k us ++ take l vs) ≡ k + l
pair_long k l us vs h g = omega (arith, length-append (take k us) (take l vs), piece_long us 0 k (omega arith), piece_long vs 0 l (omega arith))

-- a word behind the first pair
behind : (n k l e j : ℕ) (us vs : List ℕ) → k ≤ length us → l ≤ length vs
    → get_or (paired (suc n) k l us vs) (suc e * (k + l) + j) 0 ≡ get_or (paired n k l (drop k us) (drop l vs)) (e * (k + l) + j) 0
behind n k l e j us vs h g =
    let place : suc e * (k + l) + j ≡ length (take k us ++ take l vs) + (e * (k + l) + j) = omega (arith, pair_long k l us vs h g) in
    ap (λ i. get_or ((take k us ++ take l vs) ++ paired n k l (drop k us) (drop l vs)) i 0) place
    ∙ get_or-append-add (take k us ++ take l vs) (paired n k l (drop k us) (drop l vs)) (e * (k + l) + j) 0

next_word : (k e j : ℕ) (us : List ℕ) → get_or (drop k us) (e * k + j) 0 ≡ get_or us (suc e * k + j) 0
next_word k e j us = get_drop us k (e * k + j) 0 ∙ ap (λ i. get_or us i 0) (let e : k + (e * k + j) ≡ suc e * k + j = omega arith in e)

-- word j of the first part of pair e
pub paired_first : (n k l e j : ℕ) (us vs : List ℕ) → n * k ≤ length us → n * l ≤ length vs → e < n → j < k
    → get_or (paired n k l us vs) (e * (k + l) + j) 0 ≡ get_or us (e * k + j) 0
paired_first zero k l e j us vs h g p q = absurd (omega arith)
paired_first (suc n) k l zero j us vs h g p q =
    let here : length (take k us) ≡ k = piece_long us 0 k (omega arith) in
    let z : zero * (k + l) + j ≡ j = omega arith in
    let y : zero * k + j ≡ j = omega arith in
    let first : j < length (take k us ++ take l vs) = omega (arith, length-append (take k us) (take l vs)) in
    ap (λ i. get_or ((take k us ++ take l vs) ++ paired n k l (drop k us) (drop l vs)) i 0) z
    ∙ (get_or_append_left (take k us ++ take l vs) (paired n k l (drop k us) (drop l vs)) 0 j first
    ∙ (get_or_append_left (take k us) (take l vs) 0 j (omega arith) ∙ (get_take us k j 0 q ∙ ap (λ i. get_or us i 0) (sym y))))
paired_first (suc n) k l (suc e) j us vs h g p q =
    behind n k l e j us vs (omega arith) (omega arith)
    ∙ (paired_first n k l e j (drop k us) (drop l vs) (omega (arith, length-drop k us)) (omega (arith, length-drop l vs)) (omega arith) q ∙ next_word k e j us)

-- word j of the second part of pair e
pub paired_second : (n k l e j : ℕ) (us vs : List ℕ) → n * k ≤ length us → n * l ≤ length vs → e < n → j < l
    → get_or (paired n k l us vs) (e * (k + l) + (k + j)) 0 ≡ get_or vs (e * l + j) 0
paired_second zero k l e j us vs h g p q = absurd (omega arith)
paired_second (suc n) k l zero j us vs h g p q =
    let here : length (take k us) ≡ k = piece_long us 0 k (omega arith) in
    let z : zero * (k + l) + (k + j) ≡ k + j = omega arith in
    let y : zero * l + j ≡ j = omega arith in
    let w : k + j ≡ length (take k us) + j = omega arith in
    let first : k + j < length (take k us ++ take l vs) = omega (arith, pair_long k l us vs (omega arith) (omega arith)) in
    ap (λ i. get_or ((take k us ++ take l vs) ++ paired n k l (drop k us) (drop l vs)) i 0) z
    ∙ (get_or_append_left (take k us ++ take l vs) (paired n k l (drop k us) (drop l vs)) 0 (k + j) first
    ∙ (ap (λ i. get_or (take k us ++ take l vs) i 0) w
    ∙ (get_or-append-add (take k us) (take l vs) j 0 ∙ (get_take vs l j 0 q ∙ ap (λ i. get_or vs i 0) (sym y)))))
paired_second (suc n) k l (suc e) j us vs h g p q =
    behind n k l e (k + j) us vs (omega arith) (omega arith)
    ∙ (paired_second n k l e j (drop k us) (drop l vs) (omega (arith, length-drop k us)) (omega (arith, length-drop l vs)) (omega arith) q ∙ next_word l e j vs)

-- word j of part e of so many
pub part_word : (n k o l e j : ℕ) (ws : List ℕ) → n * k ≤ length ws → o + l ≤ k → e < n → j < l
    → get_or (parts n k o l ws) (e * l + j) 0 ≡ get_or ws (e * k + (o + j)) 0
part_word n k o l e j ws h g p q =
    let f : ℕ → List ℕ = λ i. take l (drop (i * k + o) ws) in
    let long : (i : ℕ) → i < 0 + n → length (f i) ≡ l = λ i lt.
    (let up : (i + 1) * k ≤ n * k = mul-le-mul_right k (let z : i + 1 ≤ n = omega arith in z) in piece_long ws (i * k + o) l (omega arith)) in
    let z : 0 + e ≡ e = omega arith in
    let place : e * k + o + j ≡ e * k + (o + j) = omega arith in
    joined_word f l 0 n e j long p q ∙ (ap (λ i. get_or (f i) j 0) z ∙
    (get_take (drop (e * k + o) ws) l j 0 q ∙ (get_drop ws (e * k + o) j 0 ∙ ap (λ i. get_or ws i 0) place)))

-- ---- the laws

-- each slot is on one of so many lanes
pub record AreOnLanes (lanes : ℕ) (slots : List Slot) : Type 0 where
  pub each : (e : ℕ) (w : Slot) → slice_get slots e ≡ Some w → w.lane < lanes

-- waves that are pairs on each lane
pub record ArePaired (lanes k l : ℕ) (first second pairs : Wave) : Type 0 where
  pub firsts : (c e j : ℕ) → e < lanes → j < k → pairs c (e * (k + l) + j) ≡ first c (e * k + j)
  pub seconds : (c e j : ℕ) → e < lanes → j < l → pairs c (e * (k + l) + (k + j)) ≡ second c (e * l + j)

-- so many lanes, each with so many columns from one on
pub record IsPartOf (lanes k o l : ℕ) (whole part : Wave) : Type 0 where
  pub each : (c e j : ℕ) → e < lanes → j < l → part c (e * l + j) ≡ whole c (e * k + (o + j))

pairs_hold : (at lanes k l : ℕ) (us vs ps : List ℕ) (slots : List Slot) (n m : ℕ) (first second pairs : Wave) (ws xs : List ℕ) → length us ≡ k → length vs ≡ l
    → length ps ≡ k + l → n ≡ length slots
    → AreOnLanes lanes slots → ArePaired lanes k l first second pairs → length ws ≡ n * k → length xs ≡ n * l
    → HoldsWords at (record { slots = slots; lanes = m; widths = us }) first ws → HoldsWords at (record { slots = slots; lanes = m; widths = vs }) second xs
    → HoldsWords at (record { slots = slots; lanes = m; widths = ps }) pairs (paired n k l ws xs)
pairs_hold at lanes k l us vs ps slots n m first second pairs ws xs lu lv lp count on wires lw lx hw hx e j w found lt =
    let c : ℕ = at + w.clock in
    let inside : e < n = omega (arith, slice_get_within slots e w found) in
    let lane : w.lane < lanes = on.each e w found in
    elim (cases_lt j k) [
      | inl low ↦
          let held = hw e j w found (omega arith) in
          ap (λ x. pairs c (w.lane * x + j)) lp
          ∙ (wires.firsts c w.lane j lane low
          ∙ (ap (λ x. first c (w.lane * x + j)) (sym lu)
          ∙ (held
          ∙ (unwrap_or-slice_get ws (e * length us + j) 0
          ∙ (ap (λ x. get_or ws (e * x + j) 0) lu
          ∙ (sym (paired_first n k l e j ws xs (omega arith) (omega arith) inside low) ∙ (ap (λ x. get_or (paired n k l ws xs) (e * x + j) 0) (sym lp)
          ∙ sym (unwrap_or-slice_get (paired n k l ws xs) (e * length ps + j) 0))))))))
      | inr high ↦
          let i : ℕ = j - k in
          let place : j ≡ k + i = omega arith in
          let low : i < l = omega arith in
          let held = hx e i w found (omega arith) in
          ap (λ x. pairs c (w.lane * x + j)) lp
          ∙ (ap (λ x. pairs c (w.lane * (k + l) + x)) place
          ∙ (wires.seconds c w.lane i lane low
          ∙ (ap (λ x. second c (w.lane * x + i)) (sym lv)
          ∙ (held
          ∙ (unwrap_or-slice_get xs (e * length vs + i) 0
          ∙ (ap (λ x. get_or xs (e * x + i) 0) lv
          ∙ (sym (paired_second n k l e i ws xs (omega arith) (omega arith) inside low)
          ∙ (ap (λ x. get_or (paired n k l ws xs) (e * (k + l) + x) 0) (sym place) ∙ (ap (λ x. get_or (paired n k l ws xs) (e * x + j) 0) (sym lp)
          ∙ sym (unwrap_or-slice_get (paired n k l ws xs) (e * length ps + j) 0))))))))))
    ]

pairs_made : (a t lanes k l n m : ℕ) (us vs ps : List ℕ) (slots : List Slot) (first second pairs : Wave) → length us ≡ k → length vs ≡ l → length ps ≡ k + l
    → n ≡ length slots
    → AreOnLanes lanes slots → ArePaired lanes k l first second pairs → (b : ℕ) (values : List (List ℕ))
    → AllAreWords (record { slots = slots; lanes = m; widths = us } ∷ record { slots = slots; lanes = m; widths = vs } ∷ []) values
    → AllHold (a + b * t) (record { slots = slots; lanes = m; widths = us } ∷ record { slots = slots; lanes = m; widths = vs } ∷ [])
    (first ∷ second ∷ []) values
    → HoldsWords (a + 0 + b * t) (record { slots = slots; lanes = m; widths = ps }) pairs (paired n k l (words_at values 0) (words_at values 1))
pairs_made a t lanes k l n m us vs ps slots first second pairs lu lv lp count on wires b (ws ∷ xs ∷ []) words holds =
    let place : a + b * t ≡ a + 0 + b * t = omega arith in
    let lw : length ws ≡ n * k = words.0.long ∙ (ap (λ x. x * length us) (sym count) ∙ ap (λ x. n * x) lu) in
    let lx : length xs ≡ n * l = words.1.0.long ∙ (ap (λ x. x * length vs) (sym count) ∙ ap (λ x. n * x) lv) in
    let P : ℕ → Type 0 = λ x. HoldsWords x (record { slots = slots; lanes = m; widths = ps }) pairs (paired n k l ws xs) in
    subst P place (pairs_hold (a + b * t) lanes k l us vs ps slots n m first second pairs ws xs lu lv lp count on wires lw lx holds.0 holds.1.0)
pairs_made a t lanes k l n m us vs ps slots first second pairs lu lv lp count on wires b [] words holds = absurd words
pairs_made a t lanes k l n m us vs ps slots first second pairs lu lv lp count on wires b (ws ∷ []) words holds = absurd words.1
pairs_made a t lanes k l n m us vs ps slots first second pairs lu lv lp count on wires b (ws ∷ xs ∷ x ∷ more) words holds = absurd words.1.1

part_holds : (at lanes k o l n m : ℕ) (us ps : List ℕ) (slots : List Slot) (whole part : Wave) (ws : List ℕ) → length us ≡ k → length ps ≡ l → o + l ≤ k
    → n ≡ length slots
    → AreOnLanes lanes slots → IsPartOf lanes k o l whole part → length ws ≡ n * k → HoldsWords at (record { slots = slots; lanes = m; widths = us }) whole ws
    → HoldsWords at (record { slots = slots; lanes = m; widths = ps }) part (parts n k o l ws)
part_holds at lanes k o l n m us ps slots whole part ws lu lp inside count on wires lw holds e j w found lt =
    let c : ℕ = at + w.clock in
    let below : e < n = omega (arith, slice_get_within slots e w found) in
    let lane : w.lane < lanes = on.each e w found in
    let low : j < l = omega arith in
    let held = holds e (o + j) w found (omega arith) in
    ap (λ x. part c (w.lane * x + j)) lp
    ∙ (wires.each c w.lane j lane low
    ∙ (ap (λ x. whole c (w.lane * x + (o + j))) (sym lu)
    ∙ (held
    ∙ (unwrap_or-slice_get ws (e * length us + (o + j)) 0
    ∙ (ap (λ x. get_or ws (e * x + (o + j)) 0) lu
    ∙ (sym (part_word n k o l e j ws (omega arith) inside below low) ∙ (ap (λ x. get_or (parts n k o l ws) (e * x + j) 0) (sym lp)
    ∙ sym (unwrap_or-slice_get (parts n k o l ws) (e * length ps + j) 0))))))))

part_made : (a t lanes k o l n m : ℕ) (us ps : List ℕ) (slots : List Slot) (whole part : Wave) → length us ≡ k → length ps ≡ l → o + l ≤ k → n ≡ length slots
    → AreOnLanes lanes slots → IsPartOf lanes k o l whole part → (b : ℕ) (values : List (List ℕ))
    → AllAreWords (record { slots = slots; lanes = m; widths = us } ∷ []) values
    → AllHold (a + b * t) (record { slots = slots; lanes = m; widths = us } ∷ []) (whole ∷ []) values
    → HoldsWords (a + 0 + b * t) (record { slots = slots; lanes = m; widths = ps }) part (parts n k o l (words_at values 0))
part_made a t lanes k o l n m us ps slots whole part lu lp inside count on wires b [] words holds = absurd words
part_made a t lanes k o l n m us ps slots whole part lu lp inside count on wires b (ws ∷ x ∷ more) words holds = absurd words.1
part_made a t lanes k o l n m us ps slots whole part lu lp inside count on wires b (ws ∷ []) words holds =
    let place : a + b * t ≡ a + 0 + b * t = omega arith in
    let lw : length ws ≡ n * k = words.0.long ∙ (ap (λ x. x * length us) (sym count) ∙ ap (λ x. n * x) lu) in
    let P : ℕ → Type 0 = λ x. HoldsWords x (record { slots = slots; lanes = m; widths = ps }) part (parts n k o l ws) in
    subst P place (part_holds (a + b * t) lanes k o l n m us ps slots whole part ws lu lp inside count on wires lw holds.0)

pub pairs_law : (clocks a t lanes k l n m : ℕ) (us vs ps : List ℕ) (slots : List Slot) (first second pairs : Wave) → length us ≡ k → length vs ≡ l
    → length ps ≡ k + l → n ≡ length slots
    → AreOnLanes lanes slots → ArePaired lanes k l first second pairs
    → BlockLaw clocks a (plain_part t 0 (record { slots = slots; lanes = m; widths = us } ∷ record { slots = slots; lanes = m; widths = vs } ∷ [])
    (record { slots = slots; lanes = m; widths = ps }) (λ vs. paired n k l (words_at vs 0) (words_at vs 1))) (first ∷ second ∷ []) pairs
pairs_law clocks a t lanes k l n m us vs ps slots first second pairs lu lv lp count on wires =
    record { makes = λ b values ends words holds. pairs_made a t lanes k l n m us vs ps slots first second pairs lu lv lp count on wires b values words holds }

pub parts_law : (clocks a t lanes k o l n m : ℕ) (us ps : List ℕ) (slots : List Slot) (whole part : Wave) → length us ≡ k → length ps ≡ l → o + l ≤ k
    → n ≡ length slots
    → AreOnLanes lanes slots → IsPartOf lanes k o l whole part
    → BlockLaw clocks a (plain_part t 0 (record { slots = slots; lanes = m; widths = us } ∷ []) (record { slots = slots; lanes = m; widths = ps })
    (λ vs. parts n k o l (words_at vs 0))) (whole ∷ []) part
parts_law clocks a t lanes k o l n m us ps slots whole part lu lp inside count on wires =
    record { makes = λ b values ends words holds. part_made a t lanes k o l n m us ps slots whole part lu lp inside count on wires b values words holds }
