-- The ports of a stalled circuit.
use Rattle.std.proofs.Common.{ℕ, zero, suc, ◌≡◌, ◌+◌, ◌≤◌, List, [], ◌∷◌, length, map, Some, slice_get, Bool, arith, refl, ap, sym, ◌∙◌, subst}
use Rattle.std.proofs.lemmas.List.{length-map}
use Rattle.std.proofs.lemmas.List.Sums.{length-filter}
use Rattle.std.proofs.lemmas.Option.{same_Some}
use Rattle.ae_netlist.specs.declared.cell.Port.TheVariants.{Enable}
use Rattle.ae_netlist.specs.declared.cell.Cell.{Cell}
use Rattle.ae_netlist.specs.declared.cell.SizedCell.{SizedCell}
use Rattle.ae_netlist.specs.declared.cell.Outlet.{Outlet}
use Rattle.ae_netlist.specs.Circuit.{Circuit, HaveNets, IsNet, width_of}
use Rattle.ae_netlist.specs.Counts.{cells_of, count_of, is_input, number_of}
use Rattle.ae_verilog.specs.NetlistModule.{IsInputPort}
use Rattle.ae_ports.specs.Ports.{SizedPort, input_cell, outlet_port}
use Rattle.ae_correct.proofs.Nets.{HavePorts, inputs_kept as all_kept}
use Rattle.ae_netlist.proofs.Growing.{width_is}
use Rattle.ae_stall.specs.Images.{renumbered, moved_outlet, with_enable}
use Rattle.ae_stall.specs.Stalled.{IsStalled}

abbrev pub enable_port : SizedPort
enable_port = record { port = Enable; width = 1 }

abbrev input_test : SizedCell → Bool
input_test c = is_input c.cell

all_counted : (ports : List SizedPort) → count_of is_input (map input_cell ports) ≡ length ports
all_counted ports =
    sym (length-filter input_test (map input_cell ports)) ∙ (ap (λ (l : List SizedCell). length l) (all_kept ports) ∙ length-map ports input_cell)

longer : (cells : List SizedCell) → 1 ≤ length cells → length (with_enable cells) ≡ length cells + 1
longer [] l = absurd (omega arith)
longer (x ∷ cells) l = omega arith

outlets_same : (old new : List SizedCell) (os : List Outlet)
    → ((n : ℕ) (sized : SizedCell) → slice_get old n ≡ Some sized → (cell : Cell)
    × (slice_get new (renumbered n) ≡ Some (record { width = sized.width; cell = cell })))
    → ((k : ℕ) (o : Outlet) → slice_get os k ≡ Some o → IsNet old o.net.0 (width_of old o.net.0))
    → map (outlet_port new) (map moved_outlet os) ≡ map (outlet_port old) os
outlets_same old new [] w h = refl
outlets_same old new (o ∷ os) w h =
    let net : IsNet old o.net.0 (width_of old o.net.0) = h 0 o refl in
    let there = w o.net.0 net.sized net.found in
    let same : width_of new (renumbered o.net.0) ≡ width_of old o.net.0 = width_is new (renumbered o.net.0) _ there.1 ∙
    sym (width_is old o.net.0 net.sized net.found) in
    λ i. record { port = o.port; width = same i } ∷ outlets_same old new os w (λ k p e. h (suc k) p e) i

pub stalled_ports_are : (old new : Circuit) (rst : SizedPort) (ins outs : List SizedPort) → IsStalled old new → HaveNets old.cells old.outlets
    → HavePorts old.cells old.outlets (rst ∷ ins) outs → HavePorts new.cells new.outlets (rst ∷ enable_port ∷ ins) outs
stalled_ports_are old new rst ins outs s have h =
    let all : number_of is_input old.cells (suc (length ins)) ≡ suc (length ins) = ap (count_of is_input) h.inputs.first ∙ all_counted (rst ∷ ins) in
    let some : 1 ≤ length (cells_of is_input old.cells) = (let e = length-filter input_test old.cells in omega (arith, h.inputs.count)) in
    record {
      inputs = record {
        first = s.first (length ins) all ∙ ap with_enable h.inputs.first;
        count = sym (length-filter input_test new.cells) ∙ (ap (λ (l : List SizedCell). length l) s.inputs ∙
            (longer (cells_of is_input old.cells) some ∙ (let e = length-filter input_test old.cells in omega (arith, h.inputs.count))));
      };
      outputs = ap (map (outlet_port new.cells)) s.outputs ∙ (outlets_same old.cells new.cells old.outlets s.widths have.each ∙ h.outputs);
      inner = inner;
    }
  where
    inner : (n : ℕ) (p : SizedPort) → slice_get (rst ∷ enable_port ∷ ins) n ≡ Some p → IsInputPort p.port
    inner zero p e = h.inner 0 p e
    inner (suc zero) p e = subst (λ (x : SizedPort). IsInputPort x.port) (same_Some enable_port p e) tt
    inner (suc (suc n)) p e = h.inner (suc n) p e

pub moved_port : (rst : SizedPort) (ins : List SizedPort) (k : ℕ) (p : SizedPort) → slice_get (rst ∷ ins) k ≡ Some p
    → slice_get (rst ∷ enable_port ∷ ins) (renumbered k) ≡ Some p
moved_port rst ins zero p e = e
moved_port rst ins (suc k) p e = e
