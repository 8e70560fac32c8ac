-- The runs of a module and of its items in another order.
use Rattle.std.proofs.Common.{ℕ, suc, ◌≡◌, ◌+◌, ◌<◌, ◌≤◌, ◌⊎◌, inl, inr, ◌↔◌, true, List, [], ◌∷◌, Some, None, slice_get, All, arith, refl, sym, ap, ◌∙◌, subst}
use Rattle.std.specs.Prelude.{◌&&◌, filter, map, not, sum_by}
use Rattle.std.specs.List.Sorted.{IsPermutation}
use Rattle.std.proofs.lemmas.Bool.{cases_Bool}
use Rattle.std.proofs.lemmas.List.Sorted.{IsPermutation-sym, sum_by-IsPermutation}
use Rattle.std.proofs.lemmas.Map.Views.{All-map-IsPermutation}
use Rattle.std.proofs.lemmas.Option.{slice_get_within, get_or_from_slice_get, slice_get-get_or}
use Rattle.ae_netlist.specs.Circuit.{Circuit}
use Rattle.ae_netlist.specs.Runs as netlist
use Rattle.ae_vmodule.specs.declared.module.NetKind.{NetKind}
use Rattle.ae_vmodule.specs.declared.module.NetKind.TheVariants as kind
use Rattle.ae_vmodule.specs.ModuleTree.{StmtTree, NetTree, DriveTree, ItemTree, nets, assigns, always, ModuleTree}
use Rattle.ae_judge.specs.Names.{Among, drives_of, equations, first_clock, clock_or, clock_name, is_clock, is_input_kind, is_named, item_targets}
use Rattle.ae_judge.proofs.Members.{among_at, among_from, among_flat, among_unflat, some_or_not, among_or_not, same_bytes}
use Rattle.ae_judge.specs.Faults.{IsWellFormed, is_misused_in_item}
use Rattle.ae_runs.specs.Values.{ModuleClock}
use Rattle.ae_runs.specs.Runs.{IsModuleRun, StepsTo, clock_at, next_clock}
use Rattle.ae_runs.specs.SameRuns.{BeginAlike, HasSameRuns, HaveEqualOutputs, inputs_of}
use Rattle.ae_reordered.specs.Reordered.{reordered}
use Rattle.ae_reordered.proofs.Effects.{AreSame, hit, hit_most, hit_none, hits_more, hits_none, none_assigns, one_assigns, same_then, same_back}

-- ---- the same items

map_same : {X : Type 0} (xs : List X) → map (λ (x : X). x) xs ≡ xs
map_same [] = refl
map_same (x ∷ xs) = ap (λ l. x ∷ l) (map_same xs)

-- each of the one is among the other
pub among_other : {X : Type 0} (xs ys : List X) (x : X) → IsPermutation xs ys → Among x xs → Among x ys
among_other xs ys x p a =
    let own : All (λ y. Among y ys) ys = λ k d inside. among_from _ ys k (slice_get-get_or ys k d inside) in
    let moved : All (λ y. Among y ys) (map (λ y. y) xs) = All-map-IsPermutation (λ y. y) (λ y. Among y ys) ys xs (IsPermutation-sym xs ys p)
    (subst (All (λ y. Among y ys)) (sym (map_same ys)) own) in
    let all : All (λ y. Among y ys) xs = subst (All (λ y. Among y ys)) (map_same xs) moved in
    let at = among_at x xs a in
    subst (λ y. Among y ys) (get_or_from_slice_get xs at.0 x x at.1) (all at.0 x (slice_get_within xs at.0 x at.1))

-- ---- one item at most assigns a name

one_at_most : (k : List ℕ) (is : List ItemTree) → ((p q : ℕ) (i j : ItemTree) → p < q → slice_get is p ≡ Some i → slice_get is q ≡ Some j
    → Among k (item_targets i) → Among k (item_targets j) → ⊥) → sum_by (hit k) is ≤ 1
one_at_most k [] h = omega arith
one_at_most k (i ∷ is) h = elim (among_or_not k (item_targets i)) [
  | inl own ↦
      let rest = hits_none k is (λ j a g. (let at = among_at j is a in h 0 (suc at.0) i j (omega arith) refl at.1 own g)) in
      omega (arith, hits_more k i is, rest, hit_most k i)
  | inr other ↦
      let rest = one_at_most k is (λ p q x y less f g a b. h (suc p) (suc q) x y (omega (arith, less)) f g a b) in
      omega (arith, hits_more k i is, rest, hit_none k i other)
]

driven_once : (m : ModuleTree) (k : List ℕ) → IsWellFormed m → sum_by (hit k) m.items ≤ 1
driven_once m k ok = one_at_most k m.items (λ p q i j less f g a b.
    ok.once (q + 1) (inr (j, k, (q, refl, g), b, inr (inl (p + 1, i, (let l : p + 1 < q + 1 = omega (arith, less) in l), (p, refl, f), a)))))

-- ---- the clock

first_of : (is : List ItemTree) → ((first_clock is ≡ None) × ((c : List ℕ) (b : StmtTree) → Among (always c b) is → ⊥))
    ⊎ ((c : List ℕ) × (b : StmtTree) × (first_clock is ≡ Some c) × Among (always c b) is)
first_of [] = inl (refl, λ c b a. a)
first_of (nets drives ∷ is) = elim (first_of is) [
  | inl n ↦ inl (n.0, λ c b a. elim a [ inl e ↦ absurd (cc) | inr later ↦ n.1 c b later ])
  | inr s ↦ inr (s.0, s.1, s.2, inr s.3)
]
first_of (assigns drives ∷ is) = elim (first_of is) [
  | inl n ↦ inl (n.0, λ c b a. elim a [ inl e ↦ absurd (cc) | inr later ↦ n.1 c b later ])
  | inr s ↦ inr (s.0, s.1, s.2, inr s.3)
]
first_of (always clock body ∷ is) = inr (clock, body, refl, inl refl)

-- each `always` item of a well-formed module names its clock
its_clock : (m : ModuleTree) (c : List ℕ) (b : StmtTree) → IsWellFormed m → Among (always c b) m.items → is_clock m c ≡ true
its_clock m c b ok a = elim (cases_Bool (is_clock m c)) [
  | inl is ↦ is
  | inr other ↦
      let at = among_at (always c b) m.items a in
      let bad : is_misused_in_item m (always c b) ≡ true = rw other refl in
      absurd (ok.kinds (at.0 + 1) (always c b, (at.0, refl, at.1), inl bad))
]

clock_same : (m : ModuleTree) (items : List ItemTree) → IsWellFormed m → IsPermutation m.items items → clock_name (reordered m items) ≡ clock_name m
unfolding is_clock
clock_same m items ok p = ap (clock_or m.nets) (elim (first_of m.items) [
  | inl none ↦ elim (first_of items) [
    | inl none' ↦ none'.0 ∙ sym none.0
    | inr some ↦ absurd (none.1 some.0 some.1 (among_other items m.items _ (IsPermutation-sym m.items items p) some.3))
  ]
  | inr some ↦ elim (first_of items) [
    | inl none' ↦ absurd (none'.1 some.0 some.1 (among_other m.items items _ p some.3))
    | inr some' ↦
        let is : is_clock m some'.0 ≡ true = its_clock m some'.0 some'.1 ok (among_other items m.items _ (IsPermutation-sym m.items items p) some'.3) in
        let named : is_named some'.0 (clock_or m.nets (Some some.0)) ≡ true = subst (λ o. is_named some'.0 (clock_or m.nets o) ≡ true) some.2 is in
        let e : some.0 ≡ some'.0 = same_bytes some.0 some'.0 named in
        some'.2 ∙ (ap (λ (x : List ℕ). Some x) (sym e) ∙ sym some.2)
  ]
])

pub is_clock_same : (m : ModuleTree) (items : List ItemTree) → IsWellFormed m → IsPermutation m.items items → (q : List ℕ)
    → is_clock (reordered m items) q ≡ is_clock m q
unfolding is_clock
is_clock_same m items ok p q = ap (is_named q) (clock_same m items ok p)

-- ---- the steps

next_same : (m : ModuleTree) (items : List ItemTree) (c : ModuleClock) (k : List ℕ) → IsWellFormed m → IsPermutation m.items items
    → AreSame k (next_clock (reordered m items) c) (next_clock m c)
unfolding next_clock
next_same m items c k ok p =
    let few = driven_once m k ok in
    let few' : sum_by (hit k) items ≤ 1 = omega (arith, few, sum_by-IsPermutation (hit k) m.items items p) in
    elim (some_or_not (λ (i : ItemTree). Among k (item_targets i)) (λ i. among_or_not k (item_targets i)) m.items) [
      | inl one ↦
          same_then k _ _ _ (one_assigns m.nets c items c k one.0 few' (among_other m.items items one.0 p one.1) one.2)
          (same_back k _ _ (one_assigns m.nets c m.items c k one.0 few one.1 one.2))
      | inr none ↦
          same_then k _ _ _ (none_assigns m.nets c items c k (λ i a h. none (i, among_other items m.items i (IsPermutation-sym m.items items p) a, h)))
          (same_back k _ _ (none_assigns m.nets c m.items c k (λ i a h. none (i, a, h))))
    ]

-- ---- the runs

step_same : (q : NetKind) (a b w : ℕ) (x y s : List ℕ) → a ≡ b → x ≡ y → StepsTo q b w y s → StepsTo q a w x s
step_same kind.Reg a b w x y s e f h = h ∙ sym e
step_same kind.OutReg a b w x y s e f h = h ∙ sym e
step_same (kind.Memory depth) a b w x y s e f h = h ∙ sym f
step_same kind.Input a b w x y s e f h = h
step_same kind.Wire a b w x y s e f h = h
step_same kind.OutWire a b w x y s e f h = h

equation_other : (xs ys : List ItemTree) (name : List ℕ) (ns : List NetTree) (d : DriveTree) → IsPermutation xs ys
    → Among d (equations (record { name = name; nets = ns; items = xs })) → Among d (equations (record { name = name; nets = ns; items = ys }))
unfolding equations
equation_other xs ys name ns d p a =
    let u = among_unflat drives_of d xs a in
    let there = among_at u.1 ys (among_other xs ys u.1 p (among_from u.1 xs u.0 u.2)) in
    among_flat drives_of d ys there.0 u.1 there.1 u.3

module _ (m : ModuleTree) (items : List ItemTree) (ok : IsWellFormed m) (p : IsPermutation m.items items) where
  abbrev other : ModuleTree
  other = reordered m items

  there : (run : List ModuleClock) → IsModuleRun m run → IsModuleRun other run
  there run r = record {
    shaped = λ t l. record { holds = λ x a c. (r.shaped t l).holds x a (sym (is_clock_same m items ok p x.name) ∙ c) };
    settles = λ t l. record { wires = λ d a. (r.settles t l).wires d (equation_other items m.items m.name m.nets d (IsPermutation-sym m.items items p) a) };
    steps = λ t l. record {
      steps = λ x a. (let s = next_same m items (clock_at run t) x.name ok p in step_same x.kind _ _ _ _ _ _ s.word s.store ((r.steps t l).steps x a));
    };
  }

  back : (run : List ModuleClock) → IsModuleRun other run → IsModuleRun m run
  back run r = record {
    shaped = λ t l. record { holds = λ x a c. (r.shaped t l).holds x a (is_clock_same m items ok p x.name ∙ c) };
    settles = λ t l. record { wires = λ d a. (r.settles t l).wires d (equation_other m.items items m.name m.nets d p a) };
    steps = λ t l. record {
      steps = λ x a. (let s = next_same m items (clock_at run t) x.name ok p in
          step_same x.kind _ _ _ _ _ _ (sym s.word) (sym s.store) ((r.steps t l).steps x a));
    };
  }

  pub same_runs : (run : List ModuleClock) → IsModuleRun m run ↔ IsModuleRun other run
  same_runs run = (there run, back run)

  -- ---- a netlist with these runs

  inputs_same : inputs_of other ≡ inputs_of m
  inputs_same = λ i. filter (λ (x : NetTree). is_input_kind x.kind && not (is_clock_same m items ok p x.name i)) m.nets

  module _ (n : Circuit) (run : List ModuleClock) (o : List netlist.Clock) where
    begin_there : BeginAlike m n run o → BeginAlike other n run o
    begin_there b = record {
      long = b.long;
      inputs = λ t l. ap (map (λ (x : NetTree). (clock_at run t).word x.name)) inputs_same ∙ b.inputs t l;
      first = b.first;
    }

    begin_back : BeginAlike other n run o → BeginAlike m n run o
    begin_back b = record {
      long = b.long;
      inputs = λ t l. ap (map (λ (x : NetTree). (clock_at run t).word x.name)) (sym inputs_same) ∙ b.inputs t l;
      first = b.first;
    }

    outputs_there : HaveEqualOutputs m n run o → HaveEqualOutputs other n run o
    outputs_there h = record { outputs = h.outputs }

  pub netlist_runs : (n : Circuit) → HasSameRuns m n → HasSameRuns other n
  netlist_runs n h = record {
    inputs = ap (map (λ (x : NetTree). x.width)) inputs_same ∙ h.inputs;
    outputs = h.outputs;
    widths = h.widths;
    depths = h.depths;
    equal = λ run o r q b. outputs_there n run o (h.equal run o (back run r) q (begin_back n run o b));
    of_module = λ run r. (let w = h.of_module run (back run r) in (w.0, w.1, begin_there n run w.0 w.2, outputs_there n run w.0 w.3));
    of_netlist = λ o r. (let w = h.of_netlist o r in (w.0, there w.0 w.1, begin_there n w.0 o w.2, outputs_there n w.0 o w.3));
  }
