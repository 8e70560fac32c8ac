-- A netlist with a register that is connected is formed, and only that register has changed.
use Rattle.std.proofs.Common.{ℕ, ◌≡◌, refl, ◌∙◌, ap, length-set}
use Rattle.std.proofs.lemmas.Option.{get_or_from_slice_get}
use Rattle.ae_netlist.specs.declared.cell.Cell.TheVariants.{Reg}
use Rattle.ae_netlist.specs.declared.cell.SizedCell.{SizedCell}
use Rattle.ae_netlist.specs.Circuit.{Circuit, IsRegister, IsNet, width_of}
use Rattle.ae_netlist.proofs.Growing.{formed_connected, keeps_connected, nets_later}
use Rattle.ae_netlist.specs.Counts.{is_input}
use Rattle.ae_netlist.proofs.Counting.{numbers_replaced}
use Rattle.ae_netlist.proofs.netlist.Netlist.connect.Goals as goal

pub invariant_of-self : goal.invariant_of-self
invariant_of-self c =
    let same : c.self.inside.cells.items ≡ c.args.self.now.cells = ap (λ (v : Circuit). v.cells) c.self.view_is in
    let reg : IsRegister c.self.inside.cells.items c.args.r.0 (width_of c.self.inside.cells.items c.args.r.0) = rw same c.requires.register in
    let there : IsNet c.self.inside.cells.items c.args.next.0 (width_of c.self.inside.cells.items c.args.r.0) = rw same c.requires.next in
    let wide : c.width-width.result ≡ width_of c.self.inside.cells.items c.args.r.0 =
    c.width-width.ensures ∙ ap (λ (n : SizedCell). n.width)
    (c.index.ensures ∙ get_or_from_slice_get c.self.inside.cells.items c.args.r.0 _ c.index.result.now reg.found) in
    let placed : c.of.result ≡ record { width = width_of c.self.inside.cells.items c.args.r.0; cell = Reg c.args.next } =
    c.of.ensures ∙ ap (λ (w : ℕ). record { width = w; cell = Reg c.args.next }) wide in
    rw placed (
      simp length-set c.self.invariant.0,
      formed_connected _ _ _ c.args.next c.self.invariant.1 reg there,
      nets_later _ _ _ (keeps_connected _ _ _ c.args.next reg) c.self.invariant.2,
      numbers_replaced is_input _ _ _ _ _ reg.found refl c.self.invariant.3,
      c.self.invariant.4,
      c.self.invariant.5,
    )

pub returns : goal.returns
returns c =
    let same : c.self.inside.cells.items ≡ c.args.self.now.cells = ap (λ (v : Circuit). v.cells) c.self.view_is in
    let reg : IsRegister c.self.inside.cells.items c.args.r.0 (width_of c.self.inside.cells.items c.args.r.0) = rw same c.requires.register in
    let wide : c.width-width.result ≡ width_of c.self.inside.cells.items c.args.r.0 =
    c.width-width.ensures ∙ ap (λ (n : SizedCell). n.width)
    (c.index.ensures ∙ get_or_from_slice_get c.self.inside.cells.items c.args.r.0 _ c.index.result.now reg.found) in
    let placed : c.of.result ≡ record { width = width_of c.self.inside.cells.items c.args.r.0; cell = Reg c.args.next } =
    c.of.ensures ∙ ap (λ (w : ℕ). record { width = w; cell = Reg c.args.next }) wide in
    rw (placed, ← c.self.view_is)
