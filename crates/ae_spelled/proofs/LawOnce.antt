-- A written module declares and drives each name once.
use Rattle.std.proofs.Common.{ℕ, zero, suc, ◌≡◌, ◌+◌, ◌<◌, ◌≤◌, inl, inr, false, List, [], ◌∷◌, ◌++◌, length, Some, None, slice_get, arith, refl, sym, ap, ◌∙◌, subst}
use Rattle.std.specs.Prelude.{map}
use Rattle.std.proofs.lemmas.Bool.{both_ways}
use Rattle.std.proofs.lemmas.Option.{slice_get_within}
use Rattle.ae_netlist.specs.declared.cell.Cell.{Cell}
use Rattle.ae_netlist.specs.declared.cell.Cell.TheVariants.{Input, Const, Op, Reg, Mem, Peek}
use Rattle.ae_netlist.specs.declared.cell.SizedCell.{SizedCell}
use Rattle.ae_netlist.specs.declared.cell.Outlet.{Outlet}
use Rattle.ae_vmodule.specs.ModuleTree.{NetTree, ItemTree, ModuleTree}
use Rattle.ae_judge.specs.Names.{Among, is_input_kind, passes, is_input_name, stmt_targets, target_of, item_targets}
use Rattle.ae_judge.specs.Faults.{HasTwice, Never}
use Rattle.ae_judge.proofs.Members.{among_split, among_from, among_at, among_unmap}
use Rattle.ae_verilog.specs.NetlistModule.{port_name, cell_name, input_nets, output_net, declared_nets, each_numbered, inputs_of, declared_from}
use Rattle.ae_verilog.specs.Written.{IsWritableNetlist}
use Rattle.ae_spelled.proofs.LawNames.{cell_not_clock, cell_not_output, clock_not_output, output_once, cell_once}
use Rattle.ae_spelled.proofs.LawNets.{listed_among, is_other, others, cell_kind, written, cell_named, output_named}
use Rattle.ae_spelled.proofs.LawItems.{total, is_state, cell_drives, cell_edge, declares, shows, changes, item_origin}

-- no two nets have one name
abbrev Apart : List NetTree → Type 0
Apart [] = Unit {0}
Apart (x ∷ xs) = ((y : NetTree) → Among y xs → x.name ≡ y.name → ⊥) × Apart xs

apart_places : (xs : List NetTree) → Apart xs → (p q : ℕ) (x y : NetTree) → p < q → slice_get xs p ≡ Some x → slice_get xs q ≡ Some y → x.name ≡ y.name → ⊥
apart_places [] h p q x y l hx hy e = let n : None ≡ Some x = hx in cc
apart_places (z ∷ xs) h p zero x y l hx hy e = absurd (omega arith)
apart_places (z ∷ xs) h zero (suc q) x y l hx hy e =
    let s : z ≡ x = (let o : Some z ≡ Some x = hx in cc) in h.0 y (among_from y xs q hy) (ap (λ (u : NetTree). u.name) s ∙ e)
apart_places (z ∷ xs) h (suc p) (suc q) x y l hx hy e = apart_places xs h.1 p q x y (omega arith) hx hy e

apart_both : (xs ys : List NetTree) → Apart xs → Apart ys → ((x y : NetTree) → Among x xs → Among y ys → x.name ≡ y.name → ⊥) → Apart (xs ++ ys)
apart_both [] ys p q h = q
apart_both (x ∷ xs) ys p q h = (
  λ y a e. elim (among_split y xs ys a) [ inl b ↦ p.0 y b e | inr b ↦ h x y (inl refl) b e ],
  apart_both xs ys p.1 q (λ u v a b. h u v (inr a) b),
)

-- the net is that of a cell
record IsNetOf (lines : ℕ → ℕ) (k : ℕ) (x : SizedCell) (other : ℕ) (y : NetTree) : Type 0 where
  named : y.name ≡ cell_name lines k x.cell
  kind : is_other x.cell ≡ other

an_input : (lines : ℕ → ℕ) → (k width : ℕ) (cell : Cell) (y : NetTree) → Among y (input_nets width cell)
    → IsNetOf lines k (record { width = width; cell = cell }) 0 y
an_input lines k width (Input port) y a = elim a [ inl e ↦ record { named = ap (λ (z : NetTree). z.name) (sym e); kind = refl } | inr none ↦ absurd none ]
an_input lines k width (Const v) y a = absurd a
an_input lines k width (Op op args) y a = absurd a
an_input lines k width (Reg next) y a = absurd a
an_input lines k width (Mem depth at next enable) y a = absurd a
an_input lines k width (Peek mem at) y a = absurd a

a_declared : (lines : ℕ → ℕ) → (item k width : ℕ) (cell : Cell) (y : NetTree) → Among y (declared_nets lines item k width cell)
    → IsNetOf lines k (record { width = width; cell = cell }) 1 y
a_declared lines item k width (Input port) y a = absurd a
a_declared lines item k width (Const v) y a = elim a [ inl e ↦ record { named = ap (λ (z : NetTree). z.name) (sym e); kind = refl } | inr none ↦ absurd none ]
a_declared lines item k width (Op op args) y a =
    elim a [ inl e ↦ record { named = ap (λ (z : NetTree). z.name) (sym e); kind = refl } | inr none ↦ absurd none ]
a_declared lines item k width (Reg next) y a = elim a [ inl e ↦ record { named = ap (λ (z : NetTree). z.name) (sym e); kind = refl } | inr none ↦ absurd none ]
a_declared lines item k width (Mem depth at next enable) y a =
    elim a [ inl e ↦ record { named = ap (λ (z : NetTree). z.name) (sym e); kind = refl } | inr none ↦ absurd none ]
a_declared lines item k width (Peek mem at) y a =
    elim a [ inl e ↦ record { named = ap (λ (z : NetTree). z.name) (sym e); kind = refl } | inr none ↦ absurd none ]

input_apart : (width : ℕ) (cell : Cell) → Apart (input_nets width cell)
input_apart width (Input port) = (λ y a e. a, tt)
input_apart width (Const v) = tt
input_apart width (Op op args) = tt
input_apart width (Reg next) = tt
input_apart width (Mem depth at next enable) = tt
input_apart width (Peek mem at) = tt

part_apart : (lines : ℕ → ℕ) → (item k width : ℕ) (cell : Cell) → Apart (declared_nets lines item k width cell)
part_apart lines item k width (Input port) = tt
part_apart lines item k width (Const v) = (λ y a e. a, tt)
part_apart lines item k width (Op op args) = (λ y a e. a, tt)
part_apart lines item k width (Reg next) = (λ y a e. a, tt)
part_apart lines item k width (Mem depth at next enable) = (λ y a e. a, tt)
part_apart lines item k width (Peek mem at) = (λ y a e. a, tt)

in_declared : (lines : ℕ → ℕ) → (y : NetTree) (item k : ℕ) (xs : List SizedCell) → Among y (declared_from lines item k xs) → (j : ℕ) × (x : SizedCell)
    × (slice_get xs j ≡ Some x) × IsNetOf lines (k + j) x 1 y
in_declared lines y item k [] h = absurd h
in_declared lines y item k (x ∷ xs) h = elim (among_split y (declared_nets lines item k x.width x.cell) _ h) [
  | inl here ↦ (0, x, refl, subst (λ n. IsNetOf lines n x 1 y) (let e : k ≡ k + 0 = omega arith in e) (a_declared lines item k x.width x.cell y here))
  | inr later ↦ let r = in_declared lines y (item + length (declared_nets lines item k x.width x.cell)) (k + 1) xs later in
      (suc r.0, r.1, r.2, subst (λ n. IsNetOf lines n r.1 1 y) (let e : k + 1 + r.0 ≡ k + suc r.0 = omega arith in e) r.3)
]

module _ (lines : ℕ → ℕ) (cells : List SizedCell) (outlets : List Outlet) (outs : ℕ) (ok : IsWritableNetlist cells outlets outs) where
  abbrev m : ModuleTree
  m = written lines cells outlets outs

  -- cells behind a place
  abbrev IsTail : ℕ → List SizedCell → Type 0
  IsTail k xs = (j : ℕ) (x : SizedCell) → slice_get xs j ≡ Some x → slice_get cells (k + j) ≡ Some x

  tail_of : (k : ℕ) (x : SizedCell) (xs : List SizedCell) → IsTail k (x ∷ xs) → IsTail (k + 1) xs
  tail_of k x xs h j y at = subst (λ n. slice_get cells n ≡ Some y) (let e : k + suc j ≡ k + 1 + j = omega arith in e) (h (suc j) y at)

  head_of : (k : ℕ) (x : SizedCell) (xs : List SizedCell) → IsTail k (x ∷ xs) → slice_get cells k ≡ Some x
  head_of k x xs h = subst (λ n. slice_get cells n ≡ Some x) (let e : k + 0 ≡ k = omega arith in e) (h 0 x refl)

  not_later : (k j : ℕ) (x z : SizedCell) (y u : NetTree) (a b : ℕ) → slice_get cells k ≡ Some x → slice_get cells (k + 1 + j) ≡ Some z → IsNetOf lines k x a y
      → IsNetOf lines (k + 1 + j) z b u → y.name ≡ u.name → ⊥
  not_later k j x z y u a b hx hz p q e =
      let same : k ≡ k + 1 + j = cell_once lines cells outlets outs ok k (k + 1 + j) x z hx hz (sym p.named ∙ e ∙ q.named) in
      omega arith

  inputs_apart : (k : ℕ) (xs : List SizedCell) → IsTail k xs → Apart (each_numbered (λ net (sized : SizedCell). input_nets sized.width sized.cell) k xs)
  inputs_apart k [] h = tt
  inputs_apart k (x ∷ xs) h =
      apart_both (input_nets x.width x.cell) (each_numbered (λ net (sized : SizedCell). input_nets sized.width sized.cell) (k + 1) xs)
      (input_apart x.width x.cell) (inputs_apart (k + 1) xs (tail_of k x xs h))
      (λ y u a b e.
      let r = listed_among (λ net (sized : SizedCell). input_nets sized.width sized.cell) u (k + 1) xs b in
      not_later k r.0 x r.1 y u 0 0 (head_of k x xs h) (tail_of k x xs h r.0 r.1 r.2) (an_input lines k x.width x.cell y a)
      (an_input lines (k + 1 + r.0) r.1.width r.1.cell u r.3) e)

  declared_apart : (item k : ℕ) (xs : List SizedCell) → IsTail k xs → Apart (declared_from lines item k xs)
  declared_apart item k [] h = tt
  declared_apart item k (x ∷ xs) h =
      apart_both (declared_nets lines item k x.width x.cell) (declared_from lines (item + length (declared_nets lines item k x.width x.cell)) (k + 1) xs)
      (part_apart lines item k x.width x.cell) (declared_apart (item + length (declared_nets lines item k x.width x.cell)) (k + 1) xs (tail_of k x xs h))
      (λ y u a b e.
      let r = in_declared lines u (item + length (declared_nets lines item k x.width x.cell)) (k + 1) xs b in
      not_later k r.0 x r.1 y u 1 1 (head_of k x xs h) (tail_of k x xs h r.0 r.1 r.2) (a_declared lines item k x.width x.cell y a) r.3 e)

  outputs_apart : (k : ℕ) (os : List Outlet) → ((j : ℕ) (o : Outlet) → slice_get os j ≡ Some o → slice_get outlets (k + j) ≡ Some o)
      → Apart (map (output_net cells outs) os)
  outputs_apart k [] h = tt
  outputs_apart k (o ∷ os) h = (
    λ y a e.
        let r = among_unmap (output_net cells outs) y os a in
        let p = among_at r.0 os r.1 in
        let same : k + 0 ≡ k + suc p.0 = output_once lines cells outlets outs ok (k + 0) (k + suc p.0) o r.0 (h 0 o refl) (h (suc p.0) r.0 p.1)
        (e ∙ ap (λ (z : NetTree). z.name) (sym r.2)) in
        omega arith,
    outputs_apart (k + 1) os (λ j u at. subst (λ n. slice_get outlets n ≡ Some u) (let e : k + suc j ≡ k + 1 + j = omega arith in e) (h (suc j) u at)),
  )

  all_cells : IsTail 0 cells
  all_cells j x at = subst (λ n. slice_get cells n ≡ Some x) (let e : j ≡ 0 + j = omega arith in e) at

  in_inputs : (y : NetTree) → Among y (inputs_of cells) → (k : ℕ) × (x : SizedCell) × (slice_get cells k ≡ Some x) × IsNetOf lines k x 0 y
  in_inputs y a = let r = listed_among (λ net (sized : SizedCell). input_nets sized.width sized.cell) y 0 cells a in
      (r.0, r.1, r.2, an_input lines r.0 r.1.width r.1.cell y r.3)

  in_own : (y : NetTree) → Among y (declared_from lines 1 0 cells) → (k : ℕ) × (x : SizedCell) × (slice_get cells k ≡ Some x) × IsNetOf lines k x 1 y
  in_own y a = let r = in_declared lines y 1 0 cells a in (r.0, r.1, r.2, subst (λ n. IsNetOf lines n r.1 1 y) (let e : 0 + r.0 ≡ r.0 = omega arith in e) r.3)

  in_shown : (y : NetTree) → Among y (map (output_net cells outs) outlets) → (k : ℕ) × (o : Outlet) × (slice_get outlets k ≡ Some o)
      × (y.name ≡ port_name outs o.port)
  in_shown y a = let r = among_unmap (output_net cells outs) y outlets a in let p = among_at r.0 outlets r.1 in
      (p.0, r.0, p.1, ap (λ (z : NetTree). z.name) (sym r.2))

  nets_apart : Apart m.nets
  nets_apart = (
    λ y a e. elim (among_split y (inputs_of cells) _ a) [
      | inl i ↦ let r = in_inputs y i in cell_not_clock lines cells outlets outs ok r.0 r.1 r.2 (sym r.3.named ∙ sym e)
      | inr b ↦ elim (among_split y (map (output_net cells outs) outlets) (declared_from lines 1 0 cells) b) [
        | inl o ↦ let r = in_shown y o in clock_not_output lines cells outlets outs ok r.0 r.1 r.2 (e ∙ r.3)
        | inr d ↦ let r = in_own y d in cell_not_clock lines cells outlets outs ok r.0 r.1 r.2 (sym r.3.named ∙ sym e)
      ]
    ],
    apart_both (inputs_of cells) (map (output_net cells outs) outlets ++ declared_from lines 1 0 cells) (inputs_apart 0 cells all_cells)
        (apart_both (map (output_net cells outs) outlets) (declared_from lines 1 0 cells)
        (outputs_apart 0 outlets (λ j o at. subst (λ n. slice_get outlets n ≡ Some o) (let e : j ≡ 0 + j = omega arith in e) at))
        (declared_apart 1 0 cells all_cells)
        (λ y u a b e. let p = in_shown y a in let q = in_own u b in
        cell_not_output lines cells outlets outs ok q.0 q.1 p.0 p.1 q.2 p.2 (sym q.3.named ∙ sym e ∙ p.3)))
        (λ y u a b e.
        let p = in_inputs y a in
        elim (among_split u (map (output_net cells outs) outlets) (declared_from lines 1 0 cells) b) [
          | inl o ↦ let q = in_shown u o in cell_not_output lines cells outlets outs ok p.0 p.1 q.0 q.1 p.2 q.2 (sym p.3.named ∙ e ∙ q.3)
          | inr d ↦
              let q = in_own u d in
              let same : p.0 ≡ q.0 = cell_once lines cells outlets outs ok p.0 q.0 p.1 q.1 p.2 q.2 (sym p.3.named ∙ e ∙ q.3.named) in
              let o : Some p.1 ≡ Some q.1 = sym p.2 ∙ ap (slice_get cells) same ∙ q.2 in
              let x : p.1 ≡ q.1 = cc in
              let n : ◌≡◌ {A = ℕ} 0 1 = sym p.3.kind ∙ ap (λ (z : SizedCell). is_other z.cell) x ∙ q.3.kind in
              omega (arith, n)
        ]),
  )

  -- whose target a name is, by the item's place
  data TargetOrigin (j : ℕ) (n : List ℕ) : Type 0 where
    by_declaration : (k : ℕ) (x : SizedCell) → slice_get cells k ≡ Some x → j ≡ others k cells → n ≡ cell_name lines k x.cell → is_state x.cell ≡ 0
        → is_input_kind (cell_kind x.cell) ≡ false → TargetOrigin j n
    by_output : (k : ℕ) (o : Outlet) → slice_get outlets k ≡ Some o → j ≡ others (length cells) cells + k → n ≡ port_name outs o.port → TargetOrigin j n
    by_edge : (k : ℕ) (x : SizedCell) → slice_get cells k ≡ Some x → j ≡ others (length cells) cells + (length outlets + total is_state k cells)
        → n ≡ cell_name lines k x.cell → is_state x.cell ≡ 1 → is_input_kind (cell_kind x.cell) ≡ false → TargetOrigin j n

  drive_target : (k width : ℕ) (cell : Cell) (n : List ℕ) → Among n (map target_of (cell_drives lines cells outlets outs k width cell))
      → (n ≡ cell_name lines k cell) × (is_state cell ≡ 0) × (is_input_kind (cell_kind cell) ≡ false)
  drive_target k width (Input port) n a = absurd a
  drive_target k width (Reg next) n a = absurd a
  drive_target k width (Mem depth at next enable) n a = absurd a
  drive_target k width (Const v) n a = elim a [ inl e ↦ (sym e, refl, refl) | inr none ↦ absurd none ]
  drive_target k width (Op op args) n a = elim a [ inl e ↦ (sym e, refl, refl) | inr none ↦ absurd none ]
  drive_target k width (Peek mem at) n a = elim a [ inl e ↦ (sym e, refl, refl) | inr none ↦ absurd none ]

  edge_target : (k : ℕ) (cell : Cell) (n : List ℕ) → Among n (stmt_targets (cell_edge lines cells outlets outs k cell)) → (n ≡ cell_name lines k cell)
      × (is_input_kind (cell_kind cell) ≡ false)
  edge_target k (Input port) n a = absurd a
  edge_target k (Const v) n a = absurd a
  edge_target k (Op op args) n a = absurd a
  edge_target k (Peek mem at) n a = absurd a
  edge_target k (Reg next) n a = elim a [ inl e ↦ (sym e, refl) | inr none ↦ absurd none ]
  edge_target k (Mem depth at next enable) n a = elim a [ inl e ↦ (sym e, refl) | inr none ↦ absurd none ]

  target_origin : (j : ℕ) (i : ItemTree) (n : List ℕ) → slice_get m.items j ≡ Some i → Among n (item_targets i) → TargetOrigin j n
  target_origin j i n at a = elim (item_origin lines cells outlets outs j i at) [
    | declares k x h other place is ↦ let t = drive_target k x.width x.cell n (subst (λ z. Among n (item_targets z)) is a) in
        by_declaration k x h place t.0 t.1 t.2
    | shows k o h place is ↦ elim (let t : Among n (port_name outs o.port ∷ []) = subst (λ z. Among n (item_targets z)) is a in
        t) [ inl e ↦ by_output k o h place (sym e) | inr none ↦ absurd none ]
    | changes k x h state place is ↦ let t = edge_target k x.cell n (subst (λ z. Among n (item_targets z)) is a) in by_edge k x h place t.0 state t.1
  ]

  same_cell : (k l : ℕ) (x y : SizedCell) (n : List ℕ) → slice_get cells k ≡ Some x → slice_get cells l ≡ Some y → n ≡ cell_name lines k x.cell
      → n ≡ cell_name lines l y.cell → (k ≡ l) × (x ≡ y)
  same_cell k l x y n hx hy p q =
      let same : k ≡ l = cell_once lines cells outlets outs ok k l x y hx hy (sym p ∙ q) in
      let o : Some x ≡ Some y = sym hx ∙ ap (slice_get cells) same ∙ hy in
      (same, (let z : x ≡ y = cc in z))

  same_place : (i j : ℕ) (n : List ℕ) → TargetOrigin i n → TargetOrigin j n → i ≡ j
  same_place i j n a b = elim a [
    | by_declaration k x hx px nx sx ix ↦ elim b [
      | by_declaration l y hy py ny sy iy ↦ let s = same_cell k l x y n hx hy nx ny in px ∙ ap (λ z. others z cells) s.0 ∙ sym py
      | by_output l o ho po no_name ↦ absurd (cell_not_output lines cells outlets outs ok k x l o hx ho (sym nx ∙ no_name))
      | by_edge l y hy py ny sy iy ↦ let s = same_cell k l x y n hx hy nx ny in
          absurd (let z : ◌≡◌ {A = ℕ} 0 1 = sym sx ∙ ap (λ (u : SizedCell). is_state u.cell) s.1 ∙ sy in omega (arith, z))
    ]
    | by_output k o ho po name_o ↦ elim b [
      | by_declaration l y hy py ny sy iy ↦ absurd (cell_not_output lines cells outlets outs ok l y k o hy ho (sym ny ∙ name_o))
      | by_output l u hu pu name_u ↦ let s : k ≡ l = output_once lines cells outlets outs ok k l o u ho hu (sym name_o ∙ name_u) in po ∙
          ap (λ z. others (length cells) cells + z) s ∙ sym pu
      | by_edge l y hy py ny sy iy ↦ absurd (cell_not_output lines cells outlets outs ok l y k o hy ho (sym ny ∙ name_o))
    ]
    | by_edge k x hx px nx sx ix ↦ elim b [
      | by_declaration l y hy py ny sy iy ↦ let s = same_cell k l x y n hx hy nx ny in
          absurd (let z : ◌≡◌ {A = ℕ} 1 0 = sym sx ∙ ap (λ (u : SizedCell). is_state u.cell) s.1 ∙ sy in omega (arith, z))
      | by_output l o ho po name_o ↦ absurd (cell_not_output lines cells outlets outs ok k x l o hx ho (sym nx ∙ name_o))
      | by_edge l y hy py ny sy iy ↦ let s = same_cell k l x y n hx hy nx ny in px ∙
          ap (λ z. others (length cells) cells + (length outlets + total is_state z cells)) s.0 ∙ sym py
    ]
  ]

  no_input_target : (j : ℕ) (n : List ℕ) → TargetOrigin j n → is_input_name m.nets n ≡ false
  no_input_target j n a = elim a [
    | by_declaration k x h p e s i ↦ ap (is_input_name m.nets) e ∙
        ap (passes (λ (y : NetTree). is_input_kind y.kind)) (cell_named lines cells outlets outs ok k x h) ∙ i
    | by_output k o h p e ↦ ap (is_input_name m.nets) e ∙ ap (passes (λ (y : NetTree). is_input_kind y.kind)) (output_named lines cells outlets outs ok k o h)
    | by_edge k x h p e s i ↦ ap (is_input_name m.nets) e ∙
        ap (passes (λ (y : NetTree). is_input_kind y.kind)) (cell_named lines cells outlets outs ok k x h) ∙ i
  ]

  few_targets : (j : ℕ) (i : ItemTree) → slice_get m.items j ≡ Some i → length (item_targets i) ≤ 1
  few_targets j i at = elim (item_origin lines cells outlets outs j i at) [
    | declares k x h other place is ↦ subst (λ z. length (item_targets z) ≤ 1) (sym is) (by_cell k x.width x.cell)
    | shows k o h place is ↦ subst (λ z. length (item_targets z) ≤ 1) (sym is) (omega arith)
    | changes k x h state place is ↦ subst (λ z. length (item_targets z) ≤ 1) (sym is) (by_state k x.cell)
  ] where
    by_cell : (k width : ℕ) (cell : Cell) → length (map target_of (cell_drives lines cells outlets outs k width cell)) ≤ 1
    by_cell k width (Input port) = omega arith
    by_cell k width (Const v) = omega arith
    by_cell k width (Op op args) = omega arith
    by_cell k width (Reg next) = omega arith
    by_cell k width (Mem depth at next enable) = omega arith
    by_cell k width (Peek mem at) = omega arith

    by_state : (k : ℕ) (cell : Cell) → length (stmt_targets (cell_edge lines cells outlets outs k cell)) ≤ 1
    by_state k (Input port) = omega arith
    by_state k (Const v) = omega arith
    by_state k (Op op args) = omega arith
    by_state k (Reg next) = omega arith
    by_state k (Mem depth at next enable) = omega arith
    by_state k (Peek mem at) = omega arith

  pub none_twice : Never (HasTwice m)
  none_twice k h = elim h [
    | inl d ↦ apart_places m.nets nets_apart d.0 d.1 d.2 d.3 d.4 d.5 d.6 d.7
    | inr d ↦
        let at = d.2 in
        let here : TargetOrigin at.0 d.1 = target_origin at.0 d.0 d.1 at.2 d.3 in
        elim d.4 [
          | inl i ↦ both_ways _ (no_input_target at.0 d.1 here) i
          | inr r ↦ elim r [
            | inl e ↦
                let there = e.3 in
                let same : there.0 ≡ at.0 = same_place there.0 at.0 d.1 (target_origin there.0 e.1 d.1 there.2 e.4) here in
                let l : e.0 < k = e.2 in
                let p : e.0 ≡ there.0 + 1 = there.1 in
                let q : k ≡ at.0 + 1 = at.1 in
                omega arith
            | inr twice ↦
                let p = twice.0 in
                let l : p.0 < p.1 = p.2 in
                let w = slice_get_within (item_targets d.0) p.1 d.1 p.4 in
                let f = few_targets at.0 d.0 at.2 in
                omega arith
          ]
        ]
  ]
