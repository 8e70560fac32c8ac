-- A written module uses declared names alone, drives each, and has no loop.
use Rattle.std.proofs.Common.{ℕ, ◌≡◌, ◌+◌, ◌<◌, inl, inr, true, false, List, [], ◌∷◌, length, Some, slice_get, arith, refl, sym, ap, ◌∙◌, subst}
use Rattle.std.specs.Prelude.{map, flat_map}
use Rattle.std.proofs.lemmas.Option.{slice_get_within}
use Rattle.ae_netlist.specs.declared.cell.Cell.{Cell}
use Rattle.ae_netlist.specs.declared.cell.Cell.TheVariants.{Input, Const, Op, Reg, Mem, Peek}
use Rattle.ae_netlist.specs.declared.cell.SizedCell.{SizedCell}
use Rattle.ae_netlist.specs.declared.cell.Outlet.{Outlet}
use Rattle.ae_vmodule.specs.ModuleTree.{NetTree, DriveTree, ItemTree, nets, always, ModuleTree}
use Rattle.ae_judge.specs.Names.{Among, is_input_kind, names_in, stmt_targets, target_of, item_targets}
use Rattle.ae_judge.specs.Faults.{IsDeclaredBefore, UsesUnknown, HasUnknown, HasUndriven, Feeds, Reaches, at_once, through, HasLoop, Never}
use Rattle.ae_judge.proofs.Members.{among_left, among_right, among_at, among_from, among_map, among_flat}
use Rattle.ae_verilog.specs.NetlistModule.{clock_name, port_name, cell_name, net_name, clock_net, output_net, declaration, assignment, edge}
use Rattle.ae_verilog.specs.Written.{IsWritableNetlist}
use Rattle.ae_spelled.proofs.LawNames.{cell_not_output, cell_once}
use Rattle.ae_spelled.proofs.LawNets.{among_listed, is_other, others, others_grow, cell_item, written, cell_net, the_clock, a_cell, an_output, origin, clock_among, output_among, cell_among}
use Rattle.ae_spelled.proofs.LawItems.{cell_drives, cell_edge, declarations, edges, declares, shows, changes, item_origin, of_cell, of_output, equation_origin}
use Rattle.ae_spelled.proofs.LawReads.{IsCellName, net_named_cell, drive_reads_below, edge_reads}

module _ (lines : ℕ → ℕ) (cells : List SizedCell) (outlets : List Outlet) (outs : ℕ) (ok : IsWritableNetlist cells outlets outs) where
  abbrev m : ModuleTree
  m = written lines cells outlets outs

  item_low : (a k : ℕ) (cell : Cell) → others a cells + is_other cell < k → 0 < k → cell_item (1 + others a cells) cell < k
  item_low a k (Input port) h z = z
  item_low a k (Const v) h z = omega arith
  item_low a k (Op op args) h z = omega arith
  item_low a k (Reg next) h z = omega arith
  item_low a k (Mem depth at next enable) h z = omega arith
  item_low a k (Peek mem at) h z = omega arith

  cell_declared : (a k : ℕ) (x : SizedCell) (n : List ℕ) → slice_get cells a ≡ Some x → n ≡ cell_name lines a x.cell → others a cells + is_other x.cell < k
      → 0 < k → IsDeclaredBefore m k n
  cell_declared a k x n h e low z = (cell_net lines cells outlets outs a x, cell_among lines cells outlets outs a x h, sym e, item_low a k x.cell low z)

  name_declared : (k : ℕ) (n : List ℕ) → others (length cells) cells < k → IsCellName lines cells outlets outs ok n → IsDeclaredBefore m k n
  name_declared k n low i =
      let g = others_grow cells i.at (length cells) i.sized i.found (slice_get_within cells i.at i.sized i.found) in
      cell_declared i.at k i.sized n i.found i.named (omega arith) (omega arith)

  use_known : (j : ℕ) (i : ItemTree) (n : List ℕ) → slice_get m.items j ≡ Some i → UsesUnknown m (j + 1) i n → ⊥
  use_known j i n at uses = elim (item_origin lines cells outlets outs j i at) [
    | declares k x h other place is ↦
        let u : UsesUnknown m (j + 1) (nets (cell_drives lines cells outlets outs k x.width x.cell)) n = subst (λ z. UsesUnknown m (j + 1) z n) is uses in
        let b = drive_reads_below lines cells outlets outs ok k x.width x.cell h u.1 n
        (among_from u.1 (cell_drives lines cells outlets outs k x.width x.cell) u.0 u.2) u.3 in
        let g = others_grow cells b.at k b.sized b.found b.below in
        u.5 (cell_declared b.at (j + 1) b.sized n b.found b.named (omega arith) (omega arith))
    | shows k o h place is ↦
        let u : UsesUnknown m (j + 1) (assignment lines cells outs o) n = subst (λ z. UsesUnknown m (j + 1) z n) is uses in
        elim u.0 [
          | inl t ↦ elim t [
            | inl e ↦ u.1 (output_net cells outs o, output_among lines cells outlets outs k o h, e, omega arith)
            | inr none ↦ none
          ]
          | inr r ↦ elim r [
            | inl e ↦ u.1 (name_declared (j + 1) n (omega arith) (net_named_cell lines cells outlets outs ok o.net.0 _ n (ok.shown.each k o h) e))
            | inr none ↦ none
          ]
        ]
    | changes k x h state place is ↦
        let u : UsesUnknown m (j + 1) (always clock_name (cell_edge lines cells outlets outs k x.cell)) n = subst (λ z. UsesUnknown m (j + 1) z n) is uses in
        elim u.0 [
          | inl e ↦ u.1 (clock_net, clock_among lines cells outlets outs, e, omega arith)
          | inr r ↦ elim r [
            | inl t ↦ u.1 (name_declared (j + 1) n (omega arith) (record { at = k; sized = x; found = h; named = edge_target k x.cell n t }))
            | inr reads ↦ u.1 (name_declared (j + 1) n (omega arith) (edge_reads lines cells outlets outs ok k x.width x.cell h n reads))
          ]
        ]
  ] where
    edge_target : (k : ℕ) (cell : Cell) (n : List ℕ) → Among n (stmt_targets (cell_edge lines cells outlets outs k cell)) → n ≡ cell_name lines k cell
    edge_target k (Input port) n a = absurd a
    edge_target k (Const v) n a = absurd a
    edge_target k (Op op args) n a = absurd a
    edge_target k (Peek mem at) n a = absurd a
    edge_target k (Reg next) n a = elim a [ inl e ↦ sym e | inr none ↦ absurd none ]
    edge_target k (Mem depth at next enable) n a = elim a [ inl e ↦ sym e | inr none ↦ absurd none ]

  pub none_unknown : Never (HasUnknown m)
  none_unknown k h =
      let at = h.2 in
      let e : k ≡ at.0 + 1 = at.1 in
      use_known at.0 h.0 h.1 at.2 (subst (λ z. UsesUnknown m z h.0 h.1) e h.3)

  -- each net but an input is driven
  in_items : (n : List ℕ) (i : ItemTree) → Among i m.items → Among n (item_targets i) → Among n (flat_map item_targets m.items)
  in_items n i a t = let p = among_at i m.items a in among_flat item_targets n m.items p.0 i p.1 t

  by_declaration : (k width : ℕ) (cell : Cell) → slice_get cells k ≡ Some (record { width = width; cell = cell })
      → Among (nets (cell_drives lines cells outlets outs k width cell)) (declaration lines cells k width cell)
      → Among (cell_name lines k cell) (map target_of (cell_drives lines cells outlets outs k width cell))
      → Among (cell_name lines k cell) (flat_map item_targets m.items)
  by_declaration k width cell h a t =
      let item : ItemTree = nets (cell_drives lines cells outlets outs k width cell) in
      let b : k ≡ 0 + k = omega arith in
      in_items (cell_name lines k cell) item (among_left item (declarations lines cells outlets outs) _
      (among_listed (λ net (sized : SizedCell). declaration lines cells net sized.width sized.cell) item 0 cells k
      (record { width = width; cell = cell }) h (subst (λ n. Among item (declaration lines cells n width cell)) b a))) t

  by_edge : (k width : ℕ) (cell : Cell) → slice_get cells k ≡ Some (record { width = width; cell = cell })
      → Among (always clock_name (cell_edge lines cells outlets outs k cell)) (edge lines cells k cell)
      → Among (cell_name lines k cell) (stmt_targets (cell_edge lines cells outlets outs k cell))
      → Among (cell_name lines k cell) (flat_map item_targets m.items)
  by_edge k width cell h a t =
      let item : ItemTree = always clock_name (cell_edge lines cells outlets outs k cell) in
      let b : k ≡ 0 + k = omega arith in
      in_items (cell_name lines k cell) item (among_right item (declarations lines cells outlets outs) _
      (among_right item (map (assignment lines cells outs) outlets) (edges lines cells outlets outs)
      (among_listed (λ net (sized : SizedCell). edge lines cells net sized.cell) item 0 cells k (record { width = width; cell = cell }) h
      (subst (λ n. Among item (edge lines cells n cell)) b a)))) t

  cell_driven : (k width : ℕ) (cell : Cell) → slice_get cells k ≡ Some (record { width = width; cell = cell })
      → is_input_kind (cell_net lines cells outlets outs k (record { width = width; cell = cell })).kind ≡ false
      → Among (cell_name lines k cell) (flat_map item_targets m.items)
  cell_driven k width (Input port) h f = absurd (cc)
  cell_driven k width (Const v) h f = by_declaration k width (Const v) h (inl refl) (inl refl)
  cell_driven k width (Op op args) h f = by_declaration k width (Op op args) h (inl refl) (inl refl)
  cell_driven k width (Peek mem at) h f = by_declaration k width (Peek mem at) h (inl refl) (inl refl)
  cell_driven k width (Reg next) h f = by_edge k width (Reg next) h (inl refl) (inl refl)
  cell_driven k width (Mem depth at next enable) h f = by_edge k width (Mem depth at next enable) h (inl refl) (inl refl)

  pub none_undriven : Never (HasUndriven m)
  none_undriven p h =
      let x : NetTree = h.0 in
      elim (origin lines cells outlets outs x (among_from x m.nets p h.1)) [
        | the_clock e ↦ (let f : true ≡ false = sym (ap (λ (z : NetTree). is_input_kind z.kind) e) ∙ h.2 in cc)
        | a_cell k y at e ↦
            let f = sym (ap (λ (z : NetTree). is_input_kind z.kind) e) ∙ h.2 in
            h.3 (subst (λ n. Among n (flat_map item_targets m.items)) (sym (ap (λ (z : NetTree). z.name) e)) (cell_driven k y.width y.cell at f))
        | an_output j o at e ↦
            let item : ItemTree = assignment lines cells outs o in
            h.3 (subst (λ n. Among n (flat_map item_targets m.items)) (sym (ap (λ (z : NetTree). z.name) e))
            (in_items (port_name outs o.port) item (among_right item (declarations lines cells outlets outs) _
            (among_left item (map (assignment lines cells outs) outlets) (edges lines cells outlets outs)
            (among_map (assignment lines cells outs) o outlets (among_from o outlets j at)))) (inl refl)))
      ]

  -- an equation reads cells before the one that it drives
  abbrev Earlier : List ℕ → List ℕ → Type 0
  Earlier a b = (k : ℕ) × (x : SizedCell) × (slice_get cells k ≡ Some x) × (b ≡ cell_name lines k x.cell)
      × ((j : ℕ) (y : SizedCell) → slice_get cells j ≡ Some y → a ≡ cell_name lines j y.cell → k < j)

  feeds_earlier : (a b : List ℕ) → Feeds m a b → Earlier a b
  feeds_earlier a b f = elim (equation_origin lines cells outlets outs f.0 f.1) [
    | of_cell k x h d ↦
        let r = drive_reads_below lines cells outlets outs ok k x.width x.cell h f.0 b d f.3 in (
          r.at,
          r.sized,
          r.found,
          r.named,
          λ j y g e.
              let same : j ≡ k = cell_once lines cells outlets outs ok j k y x g h (sym e ∙ sym f.2 ∙ drive_name k x.width x.cell f.0 d) in
              let l = r.below in omega arith,
        )
    | of_output k o h is ↦
        let q : Among b (net_name lines cells o.net.0 ∷ []) = subst (λ (z : DriveTree). Among b (names_in z.value)) is f.3 in
        let r : IsCellName lines cells outlets outs ok b = elim q [
          | inl e ↦ net_named_cell lines cells outlets outs ok o.net.0 _ b
              (ok.shown.each k o h) e
          | inr none ↦ absurd none
        ] in (
          r.at,
          r.sized,
          r.found,
          r.named,
          λ j y g e. absurd
              (cell_not_output lines cells outlets outs ok j y k o g h (sym e ∙ sym f.2 ∙ ap (λ (z : DriveTree). z.name) is)),
        )
  ] where
    drive_name : (k width : ℕ) (cell : Cell) (d : DriveTree) → Among d (cell_drives lines cells outlets outs k width cell) → d.name ≡ cell_name lines k cell
    drive_name k width (Input port) d a = absurd a
    drive_name k width (Reg next) d a = absurd a
    drive_name k width (Mem depth at next enable) d a = absurd a
    drive_name k width (Const v) d a = elim a [ inl e ↦ ap (λ (z : DriveTree). z.name) (sym e) | inr none ↦ absurd none ]
    drive_name k width (Op op args) d a = elim a [ inl e ↦ ap (λ (z : DriveTree). z.name) (sym e) | inr none ↦ absurd none ]
    drive_name k width (Peek mem at) d a = elim a [ inl e ↦ ap (λ (z : DriveTree). z.name) (sym e) | inr none ↦ absurd none ]

  reaches_earlier : (a b : List ℕ) → Reaches m a b → Earlier a b
  reaches_earlier _ _ (at_once a b h) = feeds_earlier a b h
  reaches_earlier _ _ (through a b d h k) =
      let first = feeds_earlier a b h in
      let later = reaches_earlier b d k in
      (later.0, later.1, later.2, later.3, λ j y g e. let here = first.4 j y g e in let there = later.4 first.0 first.1 first.2 first.3 in omega arith)

  pub none_loops : Never (HasLoop m)
  none_loops p h =
      let round = reaches_earlier h.0.name h.0.name h.2 in
      let below = round.4 round.0 round.1 round.2 round.3 in
      omega arith
