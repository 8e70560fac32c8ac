-- A netlist with a memory that is connected is formed, and only that memory has changed.
use Rattle.std.proofs.Common.{ℕ, ◌≡◌, ◌∙◌, refl, sym, ap, length-set}
use Rattle.std.proofs.lemmas.Option.{get_or_from_slice_get}
use Rattle.ae_netlist.specs.declared.cell.Cell.TheVariants.{Mem}
use Rattle.ae_netlist.specs.declared.cell.SizedCell.{SizedCell}
use Rattle.ae_netlist.specs.Circuit.{Circuit, IsMemory, IsWritten, width_of, depth_of, depth_in_cell}
use Rattle.ae_netlist.specs.Counts.{is_input}
use Rattle.ae_netlist.proofs.Growing.{formed_written, keeps_written, nets_later}
use Rattle.ae_netlist.proofs.Counting.{numbers_replaced}
use Rattle.ae_netlist.proofs.netlist.Netlist.connect_memory.Goals as goal

pub invariant_of-self : goal.invariant_of-self
invariant_of-self c =
    let m : ℕ = c.args.m.0 in
    let same : c.self.inside.cells.items ≡ c.args.self.now.cells = ap (λ (v : Circuit). v.cells) c.self.view_is in
    let mem : IsMemory c.self.inside.cells.items m (width_of c.self.inside.cells.items m) (depth_of c.self.inside.cells.items m) = rw same c.requires.memory in
    let written : IsWritten c.self.inside.cells.items (width_of c.self.inside.cells.items m)
    (depth_of c.self.inside.cells.items m) c.args.at.0 c.args.next.0 c.args.enable.0 = rw same c.requires.written in
    let found : c.sized-width.result ≡ record {
      width = width_of c.self.inside.cells.items m;
      cell = Mem (depth_of c.self.inside.cells.items m) mem.at mem.next mem.enable;
    } =
    c.sized-width.ensures ∙ (c.index.ensures ∙ get_or_from_slice_get c.self.inside.cells.items m _ c.index.result.now mem.found) in
    let deep : c.in-Mem.depth ≡ depth_of c.self.inside.cells.items m =
    ap depth_in_cell (sym c.in-Mem.is) ∙ ap (λ (n : SizedCell). depth_in_cell n.cell) found in
    let placed : c.of.result ≡ record {
      width = width_of c.self.inside.cells.items m;
      cell = Mem (depth_of c.self.inside.cells.items m) c.args.at c.args.next c.args.enable;
    } =
    rw (← deep, ← ap (λ (n : SizedCell). n.width) found) c.of.ensures in
    rw placed (
      simp length-set c.self.invariant.0,
      formed_written _ _ _ _ c.args.at c.args.next c.args.enable c.self.invariant.1 mem written,
      nets_later _ _ _ (keeps_written _ _ _ _ c.args.at c.args.next c.args.enable mem) c.self.invariant.2,
      numbers_replaced is_input _ _ _ _ _ mem.found refl c.self.invariant.3,
      c.self.invariant.4,
      c.self.invariant.5,
    )

pub returns-in-Mem : goal.returns-in-Mem
returns-in-Mem c =
    let m : ℕ = c.args.m.0 in
    let same : c.self.inside.cells.items ≡ c.args.self.now.cells = ap (λ (v : Circuit). v.cells) c.self.view_is in
    let mem : IsMemory c.self.inside.cells.items m (width_of c.self.inside.cells.items m) (depth_of c.self.inside.cells.items m) = rw same c.requires.memory in
    let found : c.sized-width.result ≡ record {
      width = width_of c.self.inside.cells.items m;
      cell = Mem (depth_of c.self.inside.cells.items m) mem.at mem.next mem.enable;
    } =
    c.sized-width.ensures ∙ (c.index.ensures ∙ get_or_from_slice_get c.self.inside.cells.items m _ c.index.result.now mem.found) in
    let deep : c.in-Mem.depth ≡ depth_of c.self.inside.cells.items m =
    ap depth_in_cell (sym c.in-Mem.is) ∙ ap (λ (n : SizedCell). depth_in_cell n.cell) found in
    let placed : c.of.result ≡ record {
      width = width_of c.self.inside.cells.items m;
      cell = Mem (depth_of c.self.inside.cells.items m) c.args.at c.args.next c.args.enable;
    } =
    rw (← deep, ← ap (λ (n : SizedCell). n.width) found) c.of.ensures in
    rw (placed, ← c.self.view_is)

pub returns-in_default : goal.returns-in_default
returns-in_default c =
    let m : ℕ = c.args.m.0 in
    let same : c.self.inside.cells.items ≡ c.args.self.now.cells = ap (λ (v : Circuit). v.cells) c.self.view_is in
    let mem : IsMemory c.self.inside.cells.items m (width_of c.self.inside.cells.items m) (depth_of c.self.inside.cells.items m) = rw same c.requires.memory in
    absurd (c.in_default.not-Mem _ _ _ _ (ap (λ (n : SizedCell). n.cell)
    (c.sized-width.ensures ∙ (c.index.ensures ∙ get_or_from_slice_get c.self.inside.cells.items m _ c.index.result.now mem.found))))
