-- The clock of a written module is `clk`, and what stands in one clock of the module and of the netlist.
use Rattle.std.proofs.Common.{ℕ, ◌≡◌, ◌⊎◌, inl, inr, Bool, true, false, List, [], ◌∷◌, Some, None, slice_get, refl, sym, ap, ◌∙◌}
use Rattle.std.specs.Prelude.{bytes_eq, codes}
use Rattle.std.proofs.lemmas.Bool.{cond-true}
use Rattle.ae_netlist.specs.declared.cell.Cell.{Cell}
use Rattle.ae_netlist.specs.declared.cell.Cell.TheVariants.{Input, Const, Op, Reg, Mem, Peek}
use Rattle.ae_netlist.specs.declared.cell.SizedCell.{SizedCell}
use Rattle.ae_netlist.specs.declared.cell.Outlet.{Outlet}
use Rattle.ae_netlist.specs.Circuit as c
use Rattle.ae_vmodule.specs.ModuleTree.{StmtTree, DriveTree, ItemTree, nets, assigns, always}
use Rattle.ae_judge.specs.Names as e
use Rattle.ae_judge.specs.Widths.{declared_width_in, declared_width}
use Rattle.ae_runs.specs.Values.{ModuleClock, assigned}
use Rattle.ae_runs.specs.Runs.{IsSettled}
use Rattle.ae_judge.proofs.Members.{bytes_same, other_bytes, among_at}
use Rattle.ae_verilog.specs.NetlistModule.{clock_name, port_name, number_name, cell_name, net_value, drive}
use Rattle.ae_verilog.specs.Written.{IsWritableNetlist}
use Rattle.ae_spelled.proofs.LawNames.{cell_not_clock, clock_not_output}
use Rattle.ae_spelled.proofs.LawNets.{written, name_of, output_named, clock_named}
use Rattle.ae_spelled.proofs.LawItems.{cell_drives, declares, shows, changes, item_origin, of_cell, of_output, equation_origin, cell_equation, output_equation}
use Rattle.ae_spelled.proofs.LawValues.{Reads, made, net_is, drive_is}

-- the first clock that an item names is this one, or no item names one
first_of : (n : List ℕ) (is : List ItemTree) → ((clock : List ℕ) (body : StmtTree) → e.Among (always clock body) is → clock ≡ n) → (e.first_clock is ≡ None)
    ⊎ (e.first_clock is ≡ Some n)
first_of n [] h = inl refl
first_of n (nets drives ∷ is) h = first_of n is (λ k b a. h k b (inr a))
first_of n (assigns drives ∷ is) h = first_of n is (λ k b a. h k b (inr a))
first_of n (always clock body ∷ is) h = inr (ap Some (h clock body (inl refl)))

clock_of : ItemTree → List ℕ
clock_of (nets drives) = []
clock_of (assigns drives) = []
clock_of (always clock body) = clock

module _ (lines : ℕ → ℕ) (cells : List SizedCell) (outlets : List Outlet) (outs : ℕ) (ok : IsWritableNetlist cells outlets outs) where
  one_clock : (clock : List ℕ) (body : StmtTree) → e.Among (always clock body) (written lines cells outlets outs).items → clock ≡ clock_name
  unfolding clock_of
  one_clock clock body a =
      let p = among_at (always clock body) (written lines cells outlets outs).items a in
      elim (item_origin lines cells outlets outs p.0 (always clock body) p.1) [
        | declares k x at other place is ↦ absurd (not_always clock body (cell_drives lines cells outlets outs k x.width x.cell) is)
        | shows k o at place is ↦ absurd (not_assigns clock body _ is)
        | changes k x at state place is ↦ ap clock_of is
      ]
    where
      not_always : (clock : List ℕ) (body : StmtTree) (ds : List DriveTree) → always clock body ≡ nets ds → ⊥
      not_always clock body ds h = cc

      not_assigns : (clock : List ℕ) (body : StmtTree) (ds : List DriveTree) → always clock body ≡ assigns ds → ⊥
      not_assigns clock body ds h = cc

  clock_is : e.clock_name (written lines cells outlets outs) ≡ Some clock_name
  clock_is = elim (first_of clock_name (written lines cells outlets outs).items one_clock) [
    | inl none ↦ ap (e.clock_or (written lines cells outlets outs).nets) none ∙
        cond-true _ (Some (codes "clk")) None (ap (e.passes _) (clock_named lines cells outlets outs ok))
    | inr some ↦ ap (e.clock_or (written lines cells outlets outs).nets) some
  ]

  pub is_clock_when : (n : List ℕ) (b : Bool) → bytes_eq clock_name n ≡ b → e.is_clock (written lines cells outlets outs) n ≡ b
  unfolding e.is_clock
  is_clock_when n b h = ap (e.is_named n) clock_is ∙ h

  pub clock_is_clock : e.is_clock (written lines cells outlets outs) clock_name ≡ true
  clock_is_clock = is_clock_when clock_name true (bytes_same clock_name clock_name refl)

  pub cell_no_clock : (k : ℕ) (x : SizedCell) → slice_get cells k ≡ Some x → e.is_clock (written lines cells outlets outs) (cell_name lines k x.cell) ≡ false
  cell_no_clock k x h = is_clock_when (cell_name lines k x.cell) false
      (other_bytes clock_name (cell_name lines k x.cell) (λ s. cell_not_clock lines cells outlets outs ok k x h (sym s)))

  pub output_no_clock : (j : ℕ) (o : Outlet) → slice_get outlets j ≡ Some o → e.is_clock (written lines cells outlets outs) (port_name outs o.port) ≡ false
  output_no_clock j o h = is_clock_when (port_name outs o.port) false
      (other_bytes clock_name (port_name outs o.port) (λ s. clock_not_output lines cells outlets outs ok j o h s))

  pub output_wide : (j : ℕ) (o : Outlet) → slice_get outlets j ≡ Some o
      → declared_width (written lines cells outlets outs).nets (port_name outs o.port) ≡ c.width_of cells o.net.0
  output_wide j o h = ap declared_width_in (output_named lines cells outlets outs ok j o h)

  module _ (m : ModuleClock) (ws : ℕ → ℕ) (ss : ℕ → List ℕ) (r : Reads lines cells outlets outs ok m ws ss) where
    -- the word of a cell that an equation gives is what the cell makes
    abbrev pub Makes : ℕ → Cell → Type 0
    Makes k (Input port) = Unit {0}
    Makes k (Const v) = ws k ≡ made lines cells outlets outs ok m ws ss (Const v)
    Makes k (Op op args) = ws k ≡ made lines cells outlets outs ok m ws ss (Op op args)
    Makes k (Reg next) = Unit {0}
    Makes k (Mem depth at next enable) = Unit {0}
    Makes k (Peek mem at) = ws k ≡ made lines cells outlets outs ok m ws ss (Peek mem at)

    made_from : (k width : ℕ) (cell : Cell) (d : DriveTree) → e.Among d (cell_drives lines cells outlets outs k width cell) → Makes k cell
        → ws k ≡ made lines cells outlets outs ok m ws ss cell
    made_from k width (Input port) d a h = absurd a
    made_from k width (Const v) d a h = h
    made_from k width (Op op args) d a h = h
    made_from k width (Reg next) d a h = absurd a
    made_from k width (Mem depth at next enable) d a h = absurd a
    made_from k width (Peek mem at) d a h = h

    number_word : (k width : ℕ) (cell : Cell) (d : DriveTree) → slice_get cells k ≡ Some (record { width = width; cell = cell })
        → e.Among d (cell_drives lines cells outlets outs k width cell) → m.word (number_name lines k) ≡ ws k
    number_word k width (Input port) d h a = absurd a
    number_word k width (Const v) d h a = ap m.word (sym (name_of lines cells outlets outs k _ h)) ∙
        r.word k width (record { sized = _; found = h; plain = tt; wide = refl })
    number_word k width (Op op args) d h a = ap m.word (sym (name_of lines cells outlets outs k _ h)) ∙
        r.word k width (record { sized = _; found = h; plain = tt; wide = refl })
    number_word k width (Reg next) d h a = absurd a
    number_word k width (Mem depth at next enable) d h a = absurd a
    number_word k width (Peek mem at) d h a = ap m.word (sym (name_of lines cells outlets outs k _ h)) ∙
        r.word k width (record { sized = _; found = h; plain = tt; wide = refl })

    -- so the equations of the module hold where the cells make their words and the outputs show theirs
    pub settled_from : ((k : ℕ) (x : SizedCell) → slice_get cells k ≡ Some x → Makes k x.cell)
        → ((j : ℕ) (o : Outlet) → slice_get outlets j ≡ Some o → m.word (port_name outs o.port) ≡ ws o.net.0) → IsSettled (written lines cells outlets outs) m
    settled_from makes shown = record {
      wires = λ d a. elim (equation_origin lines cells outlets outs d a) [
        | of_cell k x h b ↦
            let is = drive_is lines cells outlets outs ok m ws ss r k x.width x.cell h d b in
            ap m.word is.0 ∙ number_word k x.width x.cell d h b ∙ made_from k x.width x.cell d b (makes k x h) ∙ sym is.1
        | of_output j o h is ↦
            ap m.word (ap (λ (z : DriveTree). z.name) is) ∙ shown j o h
            ∙ sym (net_is lines cells outlets outs ok m ws ss r (port_name outs o.port) (c.width_of cells o.net.0) o.net.0 (output_wide j o h)
            (ok.shown.each j o h))
            ∙ sym (ap (λ (z : DriveTree). assigned (written lines cells outlets outs).nets m z.name z.value) is)
      ];
    }

    by_equation : IsSettled (written lines cells outlets outs) m → (k width : ℕ) (cell : Cell) (d : DriveTree)
        → slice_get cells k ≡ Some (record { width = width; cell = cell }) → e.Among d (cell_drives lines cells outlets outs k width cell)
        → ws k ≡ made lines cells outlets outs ok m ws ss cell
    by_equation s k width cell d h a =
        let is = drive_is lines cells outlets outs ok m ws ss r k width cell h d a in
        sym (number_word k width cell d h a) ∙ sym (ap m.word is.0) ∙ s.wires d (cell_equation lines cells outlets outs k _ d h a) ∙ is.1

    -- and the cells make their words, and the outputs show theirs, where the equations hold
    pub makes_from : IsSettled (written lines cells outlets outs) m → (k width : ℕ) (cell : Cell)
        → slice_get cells k ≡ Some (record { width = width; cell = cell }) → Makes k cell
    makes_from s k width (Input port) h = tt
    makes_from s k width (Reg next) h = tt
    makes_from s k width (Mem depth at next enable) h = tt
    makes_from s k width (Const v) h = by_equation s k width (Const v) (drive (number_name lines k) _) h (inl refl)
    makes_from s k width (Op op args) h = by_equation s k width (Op op args) (drive (number_name lines k) _) h (inl refl)
    makes_from s k width (Peek mem at) h = by_equation s k width (Peek mem at) (drive (number_name lines k) _) h (inl refl)

    pub shown_from : IsSettled (written lines cells outlets outs) m → (j : ℕ) (o : Outlet) → slice_get outlets j ≡ Some o
        → m.word (port_name outs o.port) ≡ ws o.net.0
    shown_from s j o h =
        s.wires (drive (port_name outs o.port) (net_value lines cells o.net.0)) (output_equation lines cells outlets outs j o h)
        ∙ net_is lines cells outlets outs ok m ws ss r (port_name outs o.port) (c.width_of cells o.net.0) o.net.0 (output_wide j o h) (ok.shown.each j o h)
