-- The longest delays of items, use by use.
use Rattle.std.proofs.Common.{ℕ, zero, suc, ◌≡◌, ◌+◌, ◌*◌, ◌<◌, ◌≤◌, max, fold, inl, inr, true, false, nat_eq, List, [], ◌∷◌, ◌++◌, length, sum_by, Some, slice_get, get_or, arith, refl, sym, ap, ◌∙◌}
use Rattle.std.specs.List.{range_with_len}
use Rattle.std.proofs.Math.Nat.{mul-le-mul_left}
use Rattle.std.proofs.lemmas.Bool.{cases_eq, eq-eqb, ne_eqb}
use Rattle.std.proofs.lemmas.List.{get_or-set_same, get_or-set_other, length-set}
use Rattle.std.proofs.lemmas.List.Sums.{fold-append, sum_by-cons}
use Rattle.ae_sttype.specs.StTree.{StTree}
use Rattle.ae_sttype.specs.Moves.{columns_of, greatest}
use Rattle.ae_moves.specs.Rings.{rings}
use Rattle.ae_moves.proofs.Held.{sum_more}
use Rattle.ae_rewrite.specs.Sound.{item_layout}
use Rattle.ae_delay.specs.Costs.{Use, chain_of, slack_at, slack_load}
use Rattle.ae_delay.specs.Weighing.{chained, deepened, deepened_by}
use Rattle.ae_delay.proofs.Owned.{rings_le}
use Rattle.ae_delay.proofs.Small.{sum_below}

-- ---- the greatest value

greatest_from : {X : Type 0} (f : X → ℕ) (a : ℕ) (xs : List X) → fold (λ most x. max most (f x)) a xs ≡ max a (greatest f xs)
greatest_from f a [] = omega arith
greatest_from f a (x ∷ xs) =
    let here : fold (λ most y. max most (f y)) (max a (f x)) xs ≡ max (max a (f x)) (greatest f xs) = greatest_from f (max a (f x)) xs in
    let first : fold (λ most y. max most (f y)) (max 0 (f x)) xs ≡ max (max 0 (f x)) (greatest f xs) = greatest_from f (max 0 (f x)) xs in
    omega (arith, here, first)

pub chain_append : (us vs : List Use) (i : ℕ) → chain_of (us ++ vs) i ≡ max (chain_of us i) (chain_of vs i)
chain_append us vs i = fold-append (λ most (u : Use). max most (slack_at i u)) 0 us vs ∙ greatest_from (slack_at i) (chain_of us i) vs

-- ---- chains with some uses more

pub record AreUses (us : List Use) (count : ℕ) : Type 0 where
  pub each : (k : ℕ) (u : Use) → slice_get us k ≡ Some u → u.item < count

rest_uses : (u : Use) (us : List Use) (n m : ℕ) → m ≡ n → AreUses (u ∷ us) n → AreUses us m
rest_uses u us n m e h = record { each = λ k v f. rw e (h.each (suc k) v f) }

pub length_deepened : (cs : List ℕ) (us : List Use) → length (deepened cs us) ≡ length cs
length_deepened cs [] = refl
length_deepened cs (u ∷ us) = length_deepened (deepened_by cs u) us ∙ length-set cs u.item (max (get_or cs u.item 0) u.slack)

one_deeper : (cs : List ℕ) (u : Use) (i : ℕ) → u.item < length cs → get_or (deepened_by cs u) i 0 ≡ max (get_or cs i 0) (slack_at i u)
one_deeper cs u i low = elim (cases_eq i u.item) [
  | inl e ↦
      let t : nat_eq u.item i ≡ true = eq-eqb u.item i (sym e) in
      let s : slack_at i u ≡ u.slack = rw t refl in
      let r : get_or (deepened_by cs u) u.item 0 ≡ max (get_or cs u.item 0) u.slack = get_or-set_same cs u.item (max (get_or cs u.item 0) u.slack) 0 low in
      ap (λ x. get_or (deepened_by cs u) x 0) e ∙ (r ∙ (ap (λ x. max (get_or cs x 0) u.slack) (sym e) ∙ ap (max (get_or cs i 0)) (sym s)))
  | inr ne ↦
      let t : nat_eq u.item i ≡ false = ne_eqb u.item i (λ e. ne (sym e)) in
      let s : slack_at i u ≡ 0 = rw t refl in
      let r : get_or (deepened_by cs u) i 0 ≡ get_or cs i 0 = get_or-set_other cs u.item i (max (get_or cs u.item 0) u.slack) 0 ne in
      omega (arith, r, s)
]

pub deepened_at : (cs : List ℕ) (us : List Use) (i : ℕ) → AreUses us (length cs) → get_or (deepened cs us) i 0 ≡ max (get_or cs i 0) (chain_of us i)
deepened_at cs [] i h = omega arith
deepened_at cs (u ∷ us) i h =
    let long : length (deepened_by cs u) ≡ length cs = length-set cs u.item (max (get_or cs u.item 0) u.slack) in
    let r : get_or (deepened (deepened_by cs u) us) i 0 ≡ max (get_or (deepened_by cs u) i 0) (chain_of us i) = deepened_at (deepened_by cs u) us i
    (rest_uses u us (length cs) (length (deepened_by cs u)) long h) in
    let one : get_or (deepened_by cs u) i 0 ≡ max (get_or cs i 0) (slack_at i u) = one_deeper cs u i (h.each 0 u refl) in
    let all : chain_of (u ∷ us) i ≡ max (max 0 (slack_at i u)) (chain_of us i) = greatest_from (slack_at i) (max 0 (slack_at i u)) us in
    omega (arith, r, one, all)

-- ---- the registers of chains

no_change : (f g : ℕ → ℕ) (p a n : ℕ) → ((i : ℕ) → (i ≡ p → ⊥) → g i ≡ f i) → p < a → sum_by g (range_with_len a n) ≤ sum_by f (range_with_len a n)
no_change f g p a zero h l = omega arith
no_change f g p a (suc n) h l =
    omega (
      arith,
      sum_by-cons f a (range_with_len (a + 1) n),
      sum_by-cons g a (range_with_len (a + 1) n),
      no_change f g p (a + 1) n h (omega arith),
      h a (λ e. omega arith),
    )

one_change : (f g : ℕ → ℕ) (p a n more : ℕ) → ((i : ℕ) → (i ≡ p → ⊥) → g i ≡ f i) → g p ≤ f p + more
    → sum_by g (range_with_len a n) ≤ sum_by f (range_with_len a n) + more
one_change f g p a zero more h l = omega arith
one_change f g p a (suc n) more h l = elim (cases_eq a p) [
  | inl e ↦ (let here : g a ≤ f a + more = rw e l in omega (
    arith,
    sum_by-cons f a (range_with_len (a + 1) n),
    sum_by-cons g a (range_with_len (a + 1) n),
    no_change f g p (a + 1) n h (omega arith),
    here,
  ))
  | inr ne ↦ omega (arith, sum_by-cons f a (range_with_len (a + 1) n), sum_by-cons g a (range_with_len (a + 1) n), one_change f g p (a + 1) n more h l, h a ne)
]

one_chained : (layouts : List StTree) (cs : List ℕ) (u : Use) → u.item < length cs
    → chained layouts (deepened_by cs u) ≤ chained layouts cs + u.slack * columns_of (item_layout layouts u.item)
one_chained layouts cs u low =
    one_change (λ i. columns_of (item_layout layouts i) * get_or cs i 0) (λ i. columns_of (item_layout layouts i) * get_or (deepened_by cs u) i 0) u.item 0
    (length layouts) (u.slack * columns_of (item_layout layouts u.item))
    (λ i ne. ap (λ x. columns_of (item_layout layouts i) * x) (get_or-set_other cs u.item i (max (get_or cs u.item 0) u.slack) 0 ne))
    (let r : get_or (deepened_by cs u) u.item 0 ≡ max (get_or cs u.item 0) u.slack = get_or-set_same cs u.item (max (get_or cs u.item 0) u.slack) 0 low in
    let m : max (get_or cs u.item 0) u.slack ≤ get_or cs u.item 0 + u.slack = omega arith in
    let l : columns_of (item_layout layouts u.item) * max (get_or cs u.item 0) u.slack ≤ columns_of
    (item_layout layouts u.item) * (get_or cs u.item 0 + u.slack) = mul-le-mul_left (columns_of (item_layout layouts u.item)) m in
    rw r (omega (arith, l)))

pub chained_deepened : (layouts : List StTree) (cs : List ℕ) (us : List Use) → AreUses us (length cs)
    → chained layouts (deepened cs us) ≤ chained layouts cs + slack_load layouts us
chained_deepened layouts cs [] h = omega arith
chained_deepened layouts cs (u ∷ us) h =
    let long : length (deepened_by cs u) ≡ length cs = length-set cs u.item (max (get_or cs u.item 0) u.slack) in
    let r : chained layouts (deepened (deepened_by cs u) us) ≤ chained layouts (deepened_by cs u) + slack_load layouts us = chained_deepened layouts
    (deepened_by cs u) us (rest_uses u us (length cs) (length (deepened_by cs u)) long h) in
    omega (arith, r, one_chained layouts cs u (h.each 0 u refl), sum_by-cons (λ (v : Use). v.slack * columns_of (item_layout layouts v.item)) u us)

no_sum : (a n : ℕ) → sum_by (λ i. 0) (range_with_len a n) ≡ 0
no_sum a zero = refl
no_sum a (suc n) = omega (arith, sum_by-cons (λ (i : ℕ). 0) a (range_with_len (a + 1) n), no_sum (a + 1) n)

-- before the first use
pub chained_none : (layouts : List StTree) (cs : List ℕ) → ((i : ℕ) → get_or cs i 0 ≡ 0) → chained layouts cs ≡ 0
chained_none layouts cs h =
    let l : chained layouts cs ≤ sum_by (λ i. 0) (range_with_len 0 (length layouts)) = sum_below (λ i. columns_of (item_layout layouts i) * get_or cs i 0)
    (λ i. 0) 0 (length layouts) (λ i. rw (h i) (omega arith)) in
    omega (arith, l, no_sum 0 (length layouts))

-- ---- the memories of chains

pub range_le : (f : ℕ → ℕ) (i n : ℕ) → i ≤ n → sum_by f (range_with_len 0 i) ≤ sum_by f (range_with_len 0 n)
range_le f i zero h = let z : i ≡ 0 = omega arith in rw z (omega arith)
range_le f i (suc n) h = elim (cases_eq i (suc n)) [
  | inl e ↦ rw e (omega arith)
  | inr ne ↦ (let s : n + 1 ≡ suc n = omega arith in let more : sum_by f (range_with_len 0 (suc n)) ≡ sum_by f (range_with_len 0 n) + f n = rw s at
      (sum_more f n) in omega (arith, more, range_le f i n (omega arith)))
]

pub mems_le : (layouts : List StTree) (cs : List ℕ) → sum_by (λ i. columns_of (item_layout layouts i) * rings (get_or cs i 0))
    (range_with_len 0 (length layouts)) ≤ chained layouts cs
mems_le layouts cs =
    sum_below _ (λ i. columns_of (item_layout layouts i) * get_or cs i 0) 0 (length layouts)
    (λ i. mul-le-mul_left (columns_of (item_layout layouts i)) (rings_le (get_or cs i 0)))

abbrev pub mems_at : (layouts : List StTree) (cs : List ℕ) → ℕ → ℕ
mems_at layouts cs i = columns_of (item_layout layouts i) * rings (get_or cs i 0)

pub next_mems : (layouts : List StTree) (cs : List ℕ) (i sum columns memories : ℕ) → sum ≡ sum_by (mems_at layouts cs) (range_with_len 0 i)
    → columns ≡ columns_of (item_layout layouts i) → memories ≡ rings (get_or cs i 0)
    → sum + columns * memories ≡ sum_by (mems_at layouts cs) (range_with_len 0 (i + 1))
next_mems layouts cs i sum columns memories h ec em =
    let own : columns * memories ≡ mems_at layouts cs i = rw (ec, em) refl in omega (arith, h, own, sum_more (mems_at layouts cs) i)

pub mems_fit : (layouts : List StTree) (cs : List ℕ) (i : ℕ) → i ≤ length layouts → sum_by (mems_at layouts cs) (range_with_len 0 i) ≤ chained layouts cs
mems_fit layouts cs i h = omega (arith, range_le (mems_at layouts cs) i (length layouts) h, mems_le layouts cs)
