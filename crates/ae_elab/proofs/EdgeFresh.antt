-- Before the first item nothing is assigned, and no memory is assigned twice.
use Rattle.std.proofs.Common.{ℕ, zero, suc, ◌≡◌, ◌+◌, ◌<◌, ◌⊎◌, inl, inr, true, false, List, [], ◌∷◌, ◌++◌, length, replicate, get_or, Option, Some, None, slice_get, refl, sym, ap, ◌∙◌, subst, arith}
use Rattle.std.specs.Prelude.{flat_map}
use Rattle.std.proofs.lemmas.List.{length-replicate}
use Rattle.ae_netlist.specs.declared.cell.NetId.{NetId}
use Rattle.ae_netlist.specs.declared.cell.SizedCell.{SizedCell}
use Rattle.ae_netlist.specs.Circuit.{Circuit}
use Rattle.ae_netlist.specs.Runs.{Clock, IsRun, Carries}
use Rattle.ae_vmodule.specs.declared.module.NetKind.{NetKind}
use Rattle.ae_vmodule.specs.declared.module.NetKind.TheVariants.{Input, Wire, OutWire, Reg, OutReg, Memory}
use Rattle.ae_vmodule.specs.ModuleTree.{NetTree, ItemTree, nets, assigns, always, ModuleTree}
use Rattle.ae_judge.specs.Names.{Among, is_memory_name, is_memory_kind, is_register_kind, item_targets, net_named, passes}
use Rattle.ae_runs.specs.Runs.{after_items, next_clock}
use Rattle.ae_judge.specs.Faults.{IsRepeated, may_repeat}
use Rattle.ae_judge.specs.Regular.{IsRegular}
use Rattle.ae_gates.specs.Cells.{GrowsByGates}
use Rattle.ae_runs.specs.Named.{AreNamed, place_of, read}
use Rattle.ae_elab.specs.Declaring.{AreUnconnected, IsUnconnected}
use Rattle.ae_assign.specs.Edges.{FitsNext, FitNexts, AreFresh, ActsItems, next_word, next_store, next_read}
use Rattle.ae_assign.specs.declared.statements.Next.{Next}
use Rattle.ae_assign.specs.declared.statements.Next.TheVariants.{Keep}
use Rattle.ae_judge.proofs.Members.{among_from, among_unflat}
use Rattle.ae_runs.proofs.Declared.{item_at}
use Rattle.ae_assign.proofs.EdgeLaws.{same_clocks}

kept_all : (n p : ℕ) (k : Next) → slice_get (replicate n Keep) p ≡ Some k → k ≡ Keep
kept_all zero p k h = absurd (let e : None ≡ Some k = h in cc)
kept_all (suc n) zero k h = let e : Some Keep ≡ Some k = h in cc
kept_all (suc n) (suc p) k h = kept_all n p k h

kept_at : (n p : ℕ) → get_or (replicate n Keep) p Keep ≡ Keep
kept_at zero p = refl
kept_at (suc n) zero = refl
kept_at (suc n) (suc p) = kept_at n p

module _ (ns : List NetTree) where
  abbrev pub first_nexts : List Next
  first_nexts = replicate (length ns) Keep

  pub first_fit : (cells : List SizedCell) → FitNexts ns first_nexts cells
  first_fit cells = record {
    long = length-replicate (length ns) Keep;
    each = λ p x k here there. subst (FitsNext cells x) (sym (kept_all (length ns) p k there)) tt;
  }

  pub first_read : (at : List ℕ → ℕ) (run : List Clock) (t : ℕ) → next_read ns first_nexts at run t ≡ read at run t
  unfolding next_read
  first_read at run t =
      same_clocks _ _
      (λ i. ap (λ k. next_word k run t (at i)) (kept_at (length ns) (place_of ns i)))
      (λ i. ap (λ k. next_store k run t (at i)) (kept_at (length ns) (place_of ns i)))

memory_no_register : (k : NetKind) → is_memory_kind k ≡ true → is_register_kind k ≡ false
memory_no_register Input r = refl
memory_no_register Wire r = refl
memory_no_register OutWire r = refl
memory_no_register Reg r = absurd (cc)
memory_no_register OutReg r = absurd (cc)
memory_no_register (Memory depth) r = refl

named_memory : (o : Option NetTree) → passes (λ (x : NetTree). is_memory_kind x.kind) o ≡ true → passes (λ (x : NetTree). is_register_kind x.kind) o ≡ false
named_memory None h = refl
named_memory (Some x) h = memory_no_register x.kind h

no_repeat_of : (ns : List NetTree) (i : ItemTree) (n : List ℕ) → is_memory_name ns n ≡ true → may_repeat ns i n ≡ false
no_repeat_of ns (nets drives) n h = refl
no_repeat_of ns (assigns drives) n h = refl
no_repeat_of ns (always clock body) n h = named_memory (net_named ns n) h

-- a name that stands twice in two lists
place_in_parts : (xs ys : List (List ℕ)) (p : ℕ) (n : List ℕ) → slice_get (xs ++ ys) p ≡ Some n → ((slice_get xs p ≡ Some n) × (p < length xs))
    ⊎ ((q : ℕ) × (p ≡ length xs + q) × (slice_get ys q ≡ Some n))
place_in_parts [] ys p n h = inr (p, (let z : p ≡ 0 + p = omega arith in z), h)
place_in_parts (x ∷ xs) ys zero n h = inl (h, (let z : zero < suc (length xs) = omega arith in z))
place_in_parts (x ∷ xs) ys (suc p) n h = elim (place_in_parts xs ys p n h) [
  | inl r ↦ inl (r.0, (let l = r.1 in let z : suc p < suc (length xs) = omega arith in z))
  | inr r ↦ inr (r.0, (let e = r.1 in let z : suc p ≡ suc (length xs) + r.0 = omega arith in z), r.2)
]

repeated_in_parts : (xs ys : List (List ℕ)) (n : List ℕ) → IsRepeated n (xs ++ ys) → IsRepeated n xs ⊎ ((Among n xs × Among n ys) ⊎ IsRepeated n ys)
repeated_in_parts xs ys n h = elim (place_in_parts xs ys h.0 n h.3) [
  | inl a ↦ elim (place_in_parts xs ys h.1 n h.4) [
    | inl b ↦ inl (h.0, h.1, h.2, a.0, b.0)
    | inr b ↦ inr (inl (among_from n xs h.0 a.0, among_from n ys b.0 b.2))
  ]
  | inr a ↦ elim (place_in_parts xs ys h.1 n h.4) [
    | inl b ↦ absurd (let l = h.2 in let k = b.1 in let e = a.1 in omega arith)
    | inr b ↦ inr (inr (a.0, b.0, (let l = h.2 in let e = a.1 in let f = b.1 in let z : a.0 < b.0 = omega arith in z), a.2, b.2))
  ]
]

module _ (m : ModuleTree) (ok : IsRegular m) where
  -- among the items from number k on
  never_repeated : (n : List ℕ) → is_memory_name m.nets n ≡ true → (k : ℕ) (is : List ItemTree)
      → ((j : ℕ) (i : ItemTree) → slice_get is j ≡ Some i → slice_get m.items (k + j) ≡ Some i) → IsRepeated n (flat_map item_targets is) → ⊥
  never_repeated n memory k [] here h = let e : None ≡ Some n = h.3 in cc
  never_repeated n memory k (i ∷ is) here h =
      let at : slice_get m.items k ≡ Some i = subst (λ j. slice_get m.items j ≡ Some i) (let z : k + 0 ≡ k = omega arith in z) (here 0 i refl) in
      elim (repeated_in_parts (item_targets i) (flat_map item_targets is) n h) [
        | inl twice ↦
            let there = among_from n (item_targets i) twice.0 twice.3 in
            ok.once (k + 1) (inr (i, n, item_at m ok k i at, there, inr (inr (twice, no_repeat_of m.nets i n memory))))
        | inr r ↦ elim r [
          | inl both ↦
              let q = among_unflat item_targets n is both.1 in
              let later : slice_get m.items (k + suc q.0) ≡ Some q.1 = here (suc q.0) q.1 q.2 in
              ok.once (k + suc q.0 + 1) (inr (
                q.1,
                n,
                item_at m ok (k + suc q.0) q.1 later,
                q.3,
                inr (inl (k + 1, i, (let z : k + 1 < k + suc q.0 + 1 = omega arith in z), item_at m ok k i at, both.0)),
              ))
          | inr behind ↦
              never_repeated n memory (k + 1) is
              (λ j u g. subst (λ a. slice_get m.items a ≡ Some u) (let z : k + suc j ≡ k + 1 + j = omega arith in z) (here (suc j) u g)) behind
        ]
      ]

  pub first_fresh : AreFresh m.nets (first_nexts m.nets) (flat_map item_targets m.items)
  first_fresh = record {
    kept = λ n a memory. kept_at (length m.nets) (place_of m.nets n);
    once = λ n memory. never_repeated n memory 0 m.items (λ j i h. subst (λ a. slice_get m.items a ≡ Some i) (let z : j ≡ 0 + j = omega arith in z) h);
  }

-- what items do is what is next
pub items_next : (m : ModuleTree) (from : ℕ) (ys : List (Option NetId)) (mid : List SizedCell) (nexts : List Next)
    → ActsItems from m.nets ys mid (first_nexts m.nets) nexts m.items
    → (at : List ℕ → ℕ) → AreNamed m.nets ys at → (all : List SizedCell) → Carries from mid all → (run : List Clock) → IsRun all run → (t : ℕ) → t < length run
    → next_read m.nets nexts at run t ≡ next_clock m (read at run t)
unfolding next_clock
items_next m from ys mid nexts acts at named all k run is t l =
    acts at named all k run is t l ∙ ap (λ c. after_items m.nets (read at run t) m.items c) (first_read m.nets at run t)

-- registers and memories are not connected as the netlist grows
free_later : (k : NetKind) (a b : Circuit) (n w : ℕ) → GrowsByGates a b → IsUnconnected k a.cells n w → IsUnconnected k b.cells n w
free_later Input a b n w g h = tt
free_later Wire a b n w g h = tt
free_later OutWire a b n w g h = tt
free_later Reg a b n w g h = g.grows.extends.keeps n _ h
free_later OutReg a b n w g h = g.grows.extends.keeps n _ h
free_later (Memory depth) a b n w g h = g.grows.extends.keeps n _ h

pub unconnected_grows : (m : ModuleTree) (from : ℕ) (ys : List (Option NetId)) (a b : Circuit) → GrowsByGates a b → AreUnconnected m from ys a.cells
    → AreUnconnected m from ys b.cells
unconnected_grows m from ys a b g h = record {
  each = λ p x y here net. free_later x.kind a b y.0 x.width g (h.each p x y here net);
  early = h.early;
  apart = h.apart;
}
