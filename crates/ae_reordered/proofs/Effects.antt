-- What the items make of one name: the one that assigns it decides, wherever it stands.
use Rattle.std.proofs.Common.{lit≤, ℕ, ◌≡◌, ◌==◌, ◌+◌, ◌≤◌, ◌⊎◌, inl, inr, true, false, List, [], ◌∷◌, arith, refl, sym, ap, ◌∙◌, subst}
use Rattle.std.specs.Prelude.{bytes_eq, slice_set, sum_by, if◌then◌else◌}
use Rattle.std.proofs.lemmas.Bool.{cond-false}
use Rattle.std.proofs.lemmas.List.Sums.{sum_by-cons}
use Rattle.ae_vmodule.specs.ModuleTree.{StmtTree, set, put, when, either, block_end, block_more, NetTree, ItemTree, nets, assigns, always}
use Rattle.ae_judge.specs.Names.{Among, stmt_targets, item_targets}
use Rattle.ae_judge.proofs.Members.{among_left, among_right, among_or_not, other_bytes}
use Rattle.ae_runs.specs.Values.{ModuleClock, assigned, own_value, after_stmt}
use Rattle.ae_runs.specs.Runs.{after_item, after_items}

-- two clocks have the same for a name
pub record AreSame (k : List ℕ) (a b : ModuleClock) : Type 0 where
  pub word : a.word k ≡ b.word k
  pub store : a.store k ≡ b.store k

same_self : (k : List ℕ) (a : ModuleClock) → AreSame k a a
same_self k a = record { word = refl; store = refl }

pub same_then : (k : List ℕ) (a b c : ModuleClock) → AreSame k a b → AreSame k b c → AreSame k a c
same_then k a b c h g = record { word = h.word ∙ g.word; store = h.store ∙ g.store }

pub same_back : (k : List ℕ) (a b : ModuleClock) → AreSame k a b → AreSame k b a
same_back k a b h = record { word = sym h.word; store = sym h.store }

-- how many of the items assign the name
abbrev pub one_for : {P : Type 0} → P ⊎ (P → ⊥) → ℕ
one_for (inl is) = 1
one_for (inr other) = 0

abbrev pub hit : List ℕ → ItemTree → ℕ
hit k i = one_for (among_or_not k (item_targets i))

one_is : {P : Type 0} (d : P ⊎ (P → ⊥)) → P → one_for d ≡ 1
one_is (inl is) h = refl
one_is (inr other) h = absurd (other h)

none_is : {P : Type 0} (d : P ⊎ (P → ⊥)) → (P → ⊥) → one_for d ≡ 0
none_is (inl is) h = absurd (h is)
none_is (inr other) h = refl

one_most : {P : Type 0} (d : P ⊎ (P → ⊥)) → one_for d ≤ 1
one_most (inl is) = lit≤ tt
one_most (inr other) = lit≤ tt

hit_one : (k : List ℕ) (i : ItemTree) → Among k (item_targets i) → hit k i ≡ 1
hit_one k i h = one_is (among_or_not k (item_targets i)) h

pub hit_none : (k : List ℕ) (i : ItemTree) → (Among k (item_targets i) → ⊥) → hit k i ≡ 0
hit_none k i h = none_is (among_or_not k (item_targets i)) h

pub hit_most : (k : List ℕ) (i : ItemTree) → hit k i ≤ 1
hit_most k i = one_most (among_or_not k (item_targets i))

pub hits_more : (k : List ℕ) (i : ItemTree) (is : List ItemTree) → sum_by (hit k) (i ∷ is) ≡ hit k i + sum_by (hit k) is
hits_more k i is = sum_by-cons (hit k) i is

pub hits_some : (k : List ℕ) (i : ItemTree) (is : List ItemTree) → Among i is → Among k (item_targets i) → 1 ≤ sum_by (hit k) is
hits_some k i [] a h = absurd a
hits_some k i (j ∷ js) a h = elim a [
  | inl e ↦ omega (arith, hits_more k j js, hit_one k j (subst (λ (x : ItemTree). Among k (item_targets x)) (sym e) h))
  | inr later ↦ omega (arith, hits_more k j js, hits_some k i js later h)
]

pub hits_none : (k : List ℕ) (is : List ItemTree) → ((i : ItemTree) → Among i is → Among k (item_targets i) → ⊥) → sum_by (hit k) is ≡ 0
hits_none k [] h = refl
hits_none k (j ∷ js) h = omega (arith, hits_more k j js, hit_none k j (h j (inl refl)), hits_none k js (λ i a. h i (inr a)))

module _ (ns : List NetTree) (c : ModuleClock) where
  -- a name that is not assigned keeps what it has
  kept : (s : StmtTree) (next : ModuleClock) (k : List ℕ) → (Among k (stmt_targets s) → ⊥) → AreSame k (after_stmt ns c s next) next
  kept (set n value) next k h = record { word = cond-false _ _ _ (other_bytes k n (λ e. h (inl (sym e)))); store = refl }
  kept (put n at value) next k h = record { word = refl; store = cond-false _ _ _ (other_bytes k n (λ e. h (inl (sym e)))) }
  kept (when test taken) next k h = elim (own_value ns c test == 0) as (λ t. AreSame k (if t then next else after_stmt ns c taken next) next) [
    | true ↦ same_self k next
    | false ↦ kept taken next k h
  ]
  kept (either test taken otherwise) next k h = elim (own_value ns c test == 0) as
      (λ t. AreSame k (if t then after_stmt ns c otherwise next else after_stmt ns c taken next) next) [
        | true ↦ kept otherwise next k (λ a. h (among_right k (stmt_targets taken) (stmt_targets otherwise) a))
        | false ↦ kept taken next k (λ a. h (among_left k (stmt_targets taken) (stmt_targets otherwise) a))
      ]
  kept block_end next k h = same_self k next
  kept (block_more first rest) next k h =
      same_then k _ (after_stmt ns c first next) next (kept rest (after_stmt ns c first next) k
      (λ a. h (among_right k (stmt_targets first) (stmt_targets rest) a)))
      (kept first next k (λ a. h (among_left k (stmt_targets first) (stmt_targets rest) a)))

  -- what a name has behind a statement hangs on what it has before, and on no other name's
  alike : (s : StmtTree) (next other : ModuleClock) (k : List ℕ) → AreSame k next other → AreSame k (after_stmt ns c s next) (after_stmt ns c s other)
  alike (set n value) next other k h = record { word = ap (λ w. if bytes_eq k n then assigned ns c n value else w) h.word; store = h.store }
  alike (put n at value) next other k h = record {
    word = h.word;
    store = ap (λ l. if bytes_eq k n then slice_set l (own_value ns c at) (assigned ns c n value) else l) h.store;
  }
  alike (when test taken) next other k h = elim (own_value ns c test == 0) as
      (λ t. AreSame k (if t then next else after_stmt ns c taken next) (if t then other else after_stmt ns c taken other)) [
        | true ↦ h
        | false ↦ alike taken next other k h
      ]
  alike (either test taken otherwise) next other k h =
      elim (own_value ns c test == 0) as (λ t. AreSame k (if t then after_stmt ns c otherwise next else after_stmt ns c taken next)
      (if t then after_stmt ns c otherwise other else after_stmt ns c taken other)) [
        | true ↦ alike otherwise next other k h
        | false ↦ alike taken next other k h
      ]
  alike block_end next other k h = h
  alike (block_more first rest) next other k h = alike rest _ _ k (alike first next other k h)

  item_kept : (i : ItemTree) (next : ModuleClock) (k : List ℕ) → (Among k (item_targets i) → ⊥) → AreSame k (after_item ns c i next) next
  item_kept (nets drives) next k h = same_self k next
  item_kept (assigns drives) next k h = same_self k next
  item_kept (always clock body) next k h = kept body next k h

  item_alike : (i : ItemTree) (next other : ModuleClock) (k : List ℕ) → AreSame k next other → AreSame k (after_item ns c i next) (after_item ns c i other)
  item_alike (nets drives) next other k h = h
  item_alike (assigns drives) next other k h = h
  item_alike (always clock body) next other k h = alike body next other k h

  pub none_assigns : (is : List ItemTree) (next : ModuleClock) (k : List ℕ) → ((i : ItemTree) → Among i is → Among k (item_targets i) → ⊥)
      → AreSame k (after_items ns c is next) next
  none_assigns [] next k h = same_self k next
  none_assigns (j ∷ js) next k h = same_then k _ (after_item ns c j next) next (none_assigns js (after_item ns c j next) k (λ i a. h i (inr a)))
      (item_kept j next k (h j (inl refl)))

  pub one_assigns : (is : List ItemTree) (next : ModuleClock) (k : List ℕ) (i : ItemTree) → sum_by (hit k) is ≤ 1 → Among i is → Among k (item_targets i)
      → AreSame k (after_items ns c is next) (after_item ns c i next)
  one_assigns [] next k i few a h = absurd a
  one_assigns (j ∷ js) next k i few a h = elim a [
    | inl e ↦
        let here : Among k (item_targets j) = subst (λ (x : ItemTree). Among k (item_targets x)) (sym e) h in
        subst (λ (x : ItemTree). AreSame k (after_items ns c js (after_item ns c j next)) (after_item ns c x next)) e
        (none_assigns js (after_item ns c j next) k (λ x b g.
        (let more = hits_some k x js b g in absurd (omega (arith, few, more, hits_more k j js, hit_one k j here)))))
    | inr later ↦
        let some = hits_some k i js later h in
        let other : Among k (item_targets j) → ⊥ = λ g. absurd (omega (arith, few, some, hits_more k j js, hit_one k j g)) in
        same_then k _ (after_item ns c i (after_item ns c j next)) _
        (one_assigns js (after_item ns c j next) k i (omega (arith, few, hits_more k j js)) later h)
        (item_alike i (after_item ns c j next) next k (item_kept j next k other))
  ]
