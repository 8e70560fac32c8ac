-- A run of the netlist, read by name, is one of the written module.
use Rattle.std.proofs.Common.{ℕ, ◌≡◌, ◌==◌, ◌+◌, ◌^◌, ◌<◌, ◌⊎◌, inl, inr, false, List, [], ◌∷◌, ◌++◌, length, Option, Some, None, slice_get, arith, refl, sym, ap, ◌∙◌, subst}
use Rattle.std.specs.Prelude.{map, bytes_eq, find}
use Rattle.std.proofs.lemmas.Bool.{cases_Bool, eqb-true, cond-false, both_ways}
use Rattle.std.proofs.lemmas.Option.{unwrap_or-slice_get}
use Rattle.ae_netlist.proofs.ReadAt.{store_got, word_got}
use Rattle.ae_netlist.specs.declared.cell.NetId.{NetId}
use Rattle.ae_netlist.specs.declared.cell.Cell.{Cell}
use Rattle.ae_netlist.specs.declared.cell.Cell.TheVariants.{Input, Const, Op, Reg, Mem, Peek}
use Rattle.ae_netlist.specs.declared.cell.SizedCell.{SizedCell}
use Rattle.ae_netlist.specs.declared.cell.Outlet.{Outlet}
use Rattle.ae_netlist.specs.Circuit as c
use Rattle.ae_netlist.specs.Counts as c_counts
use Rattle.ae_netlist.specs.Runs as r
use Rattle.ae_netlist.proofs.Shapes.{clock_shaped, cell_holds as net_holds}
use Rattle.ae_vmodule.specs.ModuleTree.{NetTree}
use Rattle.ae_judge.specs.Names.{Among, is_clock}
use Rattle.ae_runs.specs.Values.{ModuleClock}
use Rattle.ae_runs.specs.Runs.{clock_at, FitsKind, IsModuleShaped, IsSettled, next_clock, StepsTo, IsStep, IsModuleRun}
use Rattle.ae_runs.specs.PlainRun.{clocks_from}
use Rattle.ae_judge.proofs.Members.{same_bytes, bytes_same, among_left, among_right, among_split, among_at, among_from, among_map, among_unmap, find_only}
use Rattle.ae_runs.proofs.Made.{from_length, from_at}
use Rattle.ae_verilog.specs.NetlistModule.{port_name, cell_name, each_numbered}
use Rattle.ae_verilog.specs.Written.{IsWritableNetlist}
use Rattle.ae_spelled.proofs.LawNames.{cell_not_output, output_once, cell_once}
use Rattle.ae_spelled.proofs.LawNets.{among_listed, listed_among, written, cell_net, the_clock, a_cell, an_output, origin, name_of}
use Rattle.ae_spelled.proofs.LawValues.{Reads}
use Rattle.ae_spelled.proofs.LawEdges.{register_next, memory_next}
use Rattle.ae_spelled.proofs.LawClocks.{clock_is_clock, Makes, settled_from}

number_in : Option (List ℕ × ℕ) → ℕ
number_in None = 0
number_in (Some e) = e.1

plain_fits : (cell : Cell) (w x : ℕ) (s : List ℕ) → c.IsPlain cell → r.CellHolds cell w x s → x < 2 ^ w
plain_fits (Input port) w x s p h = h.0
plain_fits (Const v) w x s p h = h.0
plain_fits (Op op args) w x s p h = h.0
plain_fits (Reg next) w x s p h = h.0
plain_fits (Mem depth at next enable) w x s p h = absurd p
plain_fits (Peek mem at) w x s p h = h.0

pub other_number : (a b : ℕ) → (a ≡ b → ⊥) → (a == b) ≡ false
other_number a b h = elim (cases_Bool (a == b)) [ inl e ↦ absurd (h (eqb-true a b e)) | inr e ↦ e ]

-- a connected memory is written
pub written_memory : (own width depth : ℕ) (at next enable : NetId) (cells : List SizedCell) → c_counts.AreWhole cells → c.IsFormed cells
    → slice_get cells own ≡ Some (record { width = width; cell = Mem depth at next enable }) → c.IsWritten cells width depth at.0 next.0 enable.0
written_memory own width depth at next enable cells whole formed h =
    let fits = (formed.each own _ h).cell in
    let w = whole.each own width depth at next enable h in
    elim fits.2 [
      | inl names ↦ absurd (w.connected names.enable_own)
      | inr is ↦ is
    ]

module _ (lines : ℕ → ℕ) (cells : List SizedCell) (outlets : List Outlet) (outs : ℕ) (ok : IsWritableNetlist cells outlets outs) where
  -- each name of a cell or an output beside the net that it shows
  abbrev cell_entry : ℕ → SizedCell → List (List ℕ × ℕ)
  cell_entry k x = (cell_name lines k x.cell, k) ∷ []

  abbrev output_entry : Outlet → List ℕ × ℕ
  output_entry o = (port_name outs o.port, o.net.0)

  table : List (List ℕ × ℕ)
  table = each_numbered cell_entry 0 cells ++ map output_entry outlets

  net_in : List ℕ → ℕ
  net_in n = number_in (find (λ (e : List ℕ × ℕ). bytes_eq e.0 n) table)

  in_table : (e : List ℕ × ℕ) → Among e table → ((k : ℕ) × (x : SizedCell) × (slice_get cells k ≡ Some x) × (e ≡ (cell_name lines k x.cell, k)))
      ⊎ ((j : ℕ) × (o : Outlet) × (slice_get outlets j ≡ Some o) × (e ≡ output_entry o))
  unfolding table
  in_table e a = elim (among_split e (each_numbered cell_entry 0 cells) (map output_entry outlets) a) [
    | inl b ↦
        let p = listed_among cell_entry e 0 cells b in
        let n : 0 + p.0 ≡ p.0 = omega arith in
        inl (p.0, p.1, p.2, elim p.3 [ inl q ↦ sym q ∙ (λ i. (cell_name lines (n i) p.1.cell, n i)) | inr none ↦ absurd none ])
    | inr b ↦ let p = among_unmap output_entry e outlets b in let q = among_at p.0 outlets p.1 in inr (q.0, p.0, q.1, sym p.2)
  ]

  cell_in : (k : ℕ) (x : SizedCell) → slice_get cells k ≡ Some x → net_in (cell_name lines k x.cell) ≡ k
  unfolding table net_in number_in
  cell_in k x h =
      let n : k ≡ 0 + k = omega arith in
      let here : Among (cell_name lines k x.cell, k) table = among_left (cell_name lines k x.cell, k) (each_numbered cell_entry 0 cells)
      (map output_entry outlets) (among_listed cell_entry (cell_name lines k x.cell, k) 0 cells k x h
      (inl (λ i. (cell_name lines (sym n i) x.cell, sym n i)))) in
      ap number_in (find_only (λ (e : List ℕ × ℕ). bytes_eq e.0 (cell_name lines k x.cell)) table (cell_name lines k x.cell, k) here
      (bytes_same (cell_name lines k x.cell) (cell_name lines k x.cell) refl) (λ e a t.
      let same : e.0 ≡ cell_name lines k x.cell = same_bytes e.0 (cell_name lines k x.cell) t in
      elim (in_table e a) [
        | inl p ↦
            let eq : p.0 ≡ k = cell_once lines cells outlets outs ok p.0 k p.1 x p.2 h (sym (ap (λ (u : List ℕ × ℕ). u.0) p.3) ∙ same) in
            let o : Some p.1 ≡ Some x = sym p.2 ∙ ap (slice_get cells) eq ∙ h in
            let zx : p.1 ≡ x = cc in
            p.3 ∙ (λ i. (cell_name lines (eq i) (zx i).cell, eq i))
        | inr p ↦ absurd (cell_not_output lines cells outlets outs ok k x p.0 p.1 h p.2 (sym same ∙ ap (λ (u : List ℕ × ℕ). u.0) p.3))
      ]))

  output_in : (j : ℕ) (o : Outlet) → slice_get outlets j ≡ Some o → net_in (port_name outs o.port) ≡ o.net.0
  unfolding table net_in number_in
  output_in j o h =
      let here : Among (output_entry o) table = among_right (output_entry o) (each_numbered cell_entry 0 cells) (map output_entry outlets)
      (among_map output_entry o outlets (among_from o outlets j h)) in
      ap number_in (find_only (λ (e : List ℕ × ℕ). bytes_eq e.0 (port_name outs o.port)) table (output_entry o) here
      (bytes_same (port_name outs o.port) (port_name outs o.port) refl) (λ e a t.
      let same : e.0 ≡ port_name outs o.port = same_bytes e.0 (port_name outs o.port) t in
      elim (in_table e a) [
        | inl p ↦ absurd (cell_not_output lines cells outlets outs ok p.0 p.1 j o p.2 h (sym (ap (λ (u : List ℕ × ℕ). u.0) p.3) ∙ same))
        | inr p ↦
            let eq : p.0 ≡ j = output_once lines cells outlets outs ok p.0 j p.1 o p.2 h (sym (ap (λ (u : List ℕ × ℕ). u.0) p.3) ∙ same) in
            let q : Some p.1 ≡ Some o = sym p.2 ∙ ap (slice_get outlets) eq ∙ h in
            let po : p.1 ≡ o = cc in
            p.3 ∙ ap output_entry po
      ]))

  module _ (run : List r.Clock) (is : r.IsRun cells run) where
    -- a clock of the run, by name
    read : ℕ → ModuleClock
    read t = record { word = λ n. r.word_at run t (net_in n); store = λ n. r.store_at run t (net_in n) }

    word_of_cell : (t k : ℕ) (x : SizedCell) → slice_get cells k ≡ Some x → (read t).word (cell_name lines k x.cell) ≡ r.word_at run t k
    unfolding read
    word_of_cell t k x h = ap (r.word_at run t) (cell_in k x h)

    store_of_cell : (t k : ℕ) (x : SizedCell) → slice_get cells k ≡ Some x → (read t).store (cell_name lines k x.cell) ≡ r.store_at run t k
    unfolding read
    store_of_cell t k x h = ap (r.store_at run t) (cell_in k x h)

    word_of_output : (t j : ℕ) (o : Outlet) → slice_get outlets j ≡ Some o → (read t).word (port_name outs o.port) ≡ r.word_at run t o.net.0
    unfolding read
    word_of_output t j o h = ap (r.word_at run t) (output_in j o h)

    holds_at : (t k : ℕ) (x : SizedCell) → t < length run → slice_get cells k ≡ Some x → r.CellHolds x.cell x.width (r.word_at run t k) (r.store_at run t k)
    holds_at t k x l h = rw (word_got run t k, store_got run t k) (net_holds (clock_shaped is t l) k x h)

    net_fits : (t a w : ℕ) → t < length run → c.IsNet cells a w → r.word_at run t a < 2 ^ w
    net_fits t a w l h = subst (λ v. r.word_at run t a < 2 ^ v) h.wide (plain_fits h.sized.cell h.sized.width _ _ h.plain (holds_at t a h.sized l h.found))

    reads : (t : ℕ) → t < length run → Reads lines cells outlets outs ok (read t) (r.word_at run t) (r.store_at run t)
    reads t l = record {
      word = λ a w h. ap (read t).word (name_of lines cells outlets outs a h.sized h.found) ∙ word_of_cell t a h.sized h.found;
      store = λ k w d h. ap (read t).store (name_of lines cells outlets outs k _ h.found) ∙ store_of_cell t k _ h.found;
      fits = λ a w h. net_fits t a w l h;
      stores = λ k w d h. (holds_at t k _ l h.found).2;
    }

    makes : (t k width : ℕ) (l : t < length run) (cell : Cell) → slice_get cells k ≡ Some (record { width = width; cell = cell })
        → Makes lines cells outlets outs ok (read t) (r.word_at run t) (r.store_at run t) (reads t l) k cell
    makes t k width l (Input port) h = tt
    makes t k width l (Const v) h = is.settles t k _ l h
    makes t k width l (Op op args) h = is.settles t k _ l h
    makes t k width l (Reg next) h = tt
    makes t k width l (Mem depth at next enable) h = tt
    makes t k width l (Peek mem at) h = is.settles t k _ l h ∙ unwrap_or-slice_get (r.store_at run t mem.0) (r.word_at run t at.0) 0

    settled : (t : ℕ) → t < length run → IsSettled (written lines cells outlets outs) (read t)
    settled t l = settled_from lines cells outlets outs ok (read t) (r.word_at run t) (r.store_at run t) (reads t l) (λ k x h. makes t k x.width l x.cell h)
        (λ j o h. word_of_output t j o h)

    cell_holds : (t k width : ℕ) (cell : Cell) → t < length run → slice_get cells k ≡ Some (record { width = width; cell = cell })
        → FitsKind (cell_net lines cells outlets outs k (record { width = width; cell = cell })).kind width (r.word_at run t k) (r.store_at run t k)
    cell_holds t k width (Input port) l h = (holds_at t k _ l h).0
    cell_holds t k width (Const v) l h = (holds_at t k _ l h).0
    cell_holds t k width (Op op args) l h = (holds_at t k _ l h).0
    cell_holds t k width (Reg next) l h = (holds_at t k _ l h).0
    cell_holds t k width (Mem depth at next enable) l h = let p = holds_at t k _ l h in (p.1, p.2)
    cell_holds t k width (Peek mem at) l h = (holds_at t k _ l h).0

    shaped : (t : ℕ) → t < length run → IsModuleShaped (written lines cells outlets outs) (read t)
    shaped t l = record {
      holds = λ y a no_clock. elim (origin lines cells outlets outs y a) [
        | the_clock e ↦ absurd (both_ways _ no_clock (ap (λ (z : NetTree). is_clock (written lines cells outlets outs) z.name) e ∙
            clock_is_clock lines cells outlets outs ok))
        | a_cell k x h e ↦
            subst (λ (z : NetTree). FitsKind z.kind z.width ((read t).word z.name) ((read t).store z.name)) (sym e)
            (subst (λ v. FitsKind (cell_net lines cells outlets outs k x).kind x.width v ((read t).store (cell_name lines k x.cell)))
            (sym (word_of_cell t k x h))
            (subst (λ s. FitsKind (cell_net lines cells outlets outs k x).kind x.width (r.word_at run t k) s) (sym (store_of_cell t k x h))
            (cell_holds t k x.width x.cell l h)))
        | an_output j o h e ↦
            subst (λ (z : NetTree). FitsKind z.kind z.width ((read t).word z.name) ((read t).store z.name)) (sym e)
            (subst (λ v. v < 2 ^ c.width_of cells o.net.0) (sym (word_of_output t j o h)) (net_fits t o.net.0 _ l (ok.shown.each j o h)))
      ];
    }

    cell_steps : (t k width : ℕ) (cell : Cell) → t + 1 < length run → slice_get cells k ≡ Some (record { width = width; cell = cell })
        → let y : NetTree = cell_net lines cells outlets outs k (record { width = width; cell = cell }) in
        StepsTo y.kind ((next_clock (written lines cells outlets outs) (read t)).word y.name) ((read (t + 1)).word y.name)
        ((next_clock (written lines cells outlets outs) (read t)).store y.name) ((read (t + 1)).store y.name)
    cell_steps t k width (Input port) l h = tt
    cell_steps t k width (Const v) l h = tt
    cell_steps t k width (Op op args) l h = tt
    cell_steps t k width (Peek mem at) l h = tt
    cell_steps t k width (Reg next) l h =
        word_of_cell (t + 1) k _ h ∙ is.steps t k _ l h ∙ sym
        (register_next lines cells outlets outs ok (read t) (r.word_at run t) (r.store_at run t) (reads t (omega arith)) k width next h)
    cell_steps t k width (Mem depth at next enable) l h =
        let w = ok.whole.each k width depth at next enable h in
        store_of_cell (t + 1) k _ h ∙ is.steps t k _ l h
        ∙ cond-false _ (r.store_at run t k) _ (other_number enable.0 k w.connected)
        ∙ sym (memory_next lines cells outlets outs ok (read t) (r.word_at run t) (r.store_at run t) (reads t (omega arith)) k width depth at next enable h
        (written_memory k width depth at next enable cells ok.whole ok.formed h))

    steps : (t : ℕ) → t + 1 < length run → IsStep (written lines cells outlets outs) (read t) (read (t + 1))
    steps t l = record {
      steps = λ y a. elim (origin lines cells outlets outs y a) [
        | the_clock e ↦ subst (λ (z : NetTree). StepsTo z.kind ((next_clock (written lines cells outlets outs) (read t)).word z.name)
            ((read (t + 1)).word z.name) ((next_clock (written lines cells outlets outs) (read t)).store z.name) ((read (t + 1)).store z.name)) (sym e) tt
        | a_cell k x h e ↦ subst (λ (z : NetTree). StepsTo z.kind ((next_clock (written lines cells outlets outs) (read t)).word z.name)
            ((read (t + 1)).word z.name) ((next_clock (written lines cells outlets outs) (read t)).store z.name) ((read (t + 1)).store z.name)) (sym e)
            (cell_steps t k x.width x.cell l h)
        | an_output j o h e ↦ subst (λ (z : NetTree). StepsTo z.kind ((next_clock (written lines cells outlets outs) (read t)).word z.name)
            ((read (t + 1)).word z.name) ((next_clock (written lines cells outlets outs) (read t)).store z.name) ((read (t + 1)).store z.name)) (sym e) tt
      ];
    }

    pub run_by_name : List ModuleClock
    run_by_name = clocks_from read 0 (length run)

    pub by_name_length : length run_by_name ≡ length run
    unfolding run_by_name
    by_name_length = from_length read 0 (length run)

    at_is : (t : ℕ) → t < length run → clock_at run_by_name t ≡ read t
    unfolding run_by_name
    at_is t l = from_at read 0 (length run) t l ∙ ap read (let e : 0 + t ≡ t = omega arith in e)

    within : (t : ℕ) → t < length run_by_name → t < length run
    within t l = let e = by_name_length in omega arith

    pub by_name_is_run : IsModuleRun (written lines cells outlets outs) run_by_name
    by_name_is_run = record {
      shaped = λ t l. subst (IsModuleShaped (written lines cells outlets outs)) (sym (at_is t (within t l))) (shaped t (within t l));
      settles = λ t l. subst (IsSettled (written lines cells outlets outs)) (sym (at_is t (within t l))) (settled t (within t l));
      steps = λ t l.
          let h : t + 1 < length run = within (t + 1) l in
          let here : t < length run = omega arith in
          subst (λ z. IsStep (written lines cells outlets outs) z (clock_at run_by_name (t + 1))) (sym (at_is t here))
          (subst (IsStep (written lines cells outlets outs) (read t)) (sym (at_is (t + 1) h)) (steps t h));
    }

    -- it has the words of the netlist's run
    pub by_name_word : (t k : ℕ) (x : SizedCell) → t < length run → slice_get cells k ≡ Some x
        → (clock_at run_by_name t).word (cell_name lines k x.cell) ≡ r.word_at run t k
    by_name_word t k x l h = ap (λ (z : ModuleClock). z.word (cell_name lines k x.cell)) (at_is t l) ∙ word_of_cell t k x h

    pub by_name_store : (t k : ℕ) (x : SizedCell) → t < length run → slice_get cells k ≡ Some x
        → (clock_at run_by_name t).store (cell_name lines k x.cell) ≡ r.store_at run t k
    by_name_store t k x l h = ap (λ (z : ModuleClock). z.store (cell_name lines k x.cell)) (at_is t l) ∙ store_of_cell t k x h

    pub by_name_output : (t j : ℕ) (o : Outlet) → t < length run → slice_get outlets j ≡ Some o
        → (clock_at run_by_name t).word (port_name outs o.port) ≡ r.word_at run t o.net.0
    by_name_output t j o l h = ap (λ (z : ModuleClock). z.word (port_name outs o.port)) (at_is t l) ∙ word_of_output t j o h
