-- A stalled circuit can be written as a module.
use Rattle.std.proofs.Common.{ℕ, zero, suc, ◌≡◌, ◌<◌, ◌≤◌, ◌^◌, List, ◌∷◌, length, map, get_or, Some, slice_get, arith, refl, ap, sym, ◌∙◌, subst}
use Rattle.std.proofs.lemmas.List.{length-map}
use Rattle.std.proofs.lemmas.Option.{same_Some, slice_get_within, slice_get-get_or}
use Rattle.ae_netlist.specs.declared.cell.Port.{Port}
use Rattle.ae_netlist.specs.declared.cell.Port.TheVariants.{Reset, Enable, In}
use Rattle.ae_netlist.specs.declared.cell.Cell.{Cell}
use Rattle.ae_netlist.specs.declared.cell.Cell.TheVariants.{Input, Const, Op, Reg, Mem, Peek}
use Rattle.ae_netlist.specs.declared.cell.SizedCell.{SizedCell}
use Rattle.ae_netlist.specs.declared.cell.Outlet.{Outlet}
use Rattle.ae_netlist.specs.Circuit.{Circuit}
use Rattle.ae_sttype.specs.StTree.{StTree}
use Rattle.ae_ops.specs.Blocks.{Stream}
use Rattle.ae_verilog.specs.NetlistModule.{IsInputPort, IsOutputPort}
use Rattle.ae_verilog.specs.NetlistModule as written
use Rattle.ae_verilog.specs.Written.{IsWritableNetlist}
use Rattle.ae_verilog.specs.Text.{CellPortFits, PortFits}
use Rattle.ae_seq.specs.ProgramTree.{ProgramTree}
use Rattle.ae_eval.proofs.Items.{entry-at}
use Rattle.ae_delay.specs.declared.own.OwnCosts.{OwnCosts}
use Rattle.ae_ports.specs.CircuitFor.{IsCircuitFor}
use Rattle.ae_ports.specs.Ports.{SizedPort, columns_in, input_ports, reset_port, streams_of}
use Rattle.ae_correct.specs.Laws.{IsLaidOut}
use Rattle.ae_correct.proofs.Keeps.{circuit_ports, outs_of}
use Rattle.ae_correct.proofs.Laid.{few_ins, ins_filling}
use Rattle.ae_correct.proofs.ModulePorts.{mapped_at}
use Rattle.ae_correct.proofs.Nets.{HavePorts}
use Rattle.ae_correct.proofs.Places.{length_from, port_from}
use Rattle.ae_correct.proofs.Written.{AreSmall, IsPortAt, all_columns, input_at, input_port_fits, inputs_apart, writable}
use Rattle.ae_stall.specs.Images.{moved_outlet}
use Rattle.ae_stall.specs.Stalled.{IsStalled}
use Rattle.ae_stalled.specs.Laws.{StalledCircuitsAreWritable}
use Rattle.ae_stalled.proofs.Ports.{enable_port, stalled_ports_are}

-- the inputs of a stalled circuit
abbrev pub stalled_ins : List Stream → List SizedPort
stalled_ins ss = reset_port ∷ enable_port ∷ input_ports ss

-- ---- no two inputs are the same

-- reset, enable, and the others
abbrev kind_in : Port → ℕ
kind_in Reset = 0
kind_in Enable = 1
kind_in _ = 2

in_kind : (ss : List Stream) (n : ℕ) (p : SizedPort) → slice_get (input_ports ss) n ≡ Some p → kind_in p.port ≡ 2
in_kind ss n p h = let r = port_from (λ param lane word. In param lane word) 0 ss n p h in ap kind_in r.port

pub head_kind : (p q : SizedPort) → Some p ≡ Some q → kind_in q.port ≡ kind_in p.port
head_kind p q e = sym (ap (λ (x : SizedPort). kind_in x.port) (same_Some p q e))

kinds_apart : {A : Type 0} (a b : SizedPort) (k l : ℕ) → kind_in a.port ≡ k → kind_in b.port ≡ l → a.port ≡ b.port → k < l → A
kinds_apart a b k l f g e lt = let same : k ≡ l = sym f ∙ (ap kind_in e ∙ g) in absurd (omega (arith, same, lt))

stalled_apart : (ss : List Stream) (m n : ℕ) (a b : SizedPort) → slice_get (stalled_ins ss) m ≡ Some a → slice_get (stalled_ins ss) n ≡ Some b
    → a.port ≡ b.port → m ≡ n
stalled_apart ss zero zero a b f g e = refl
stalled_apart ss zero (suc zero) a b f g e = kinds_apart a b 0 1 (head_kind reset_port a f) (head_kind enable_port b g) e (omega arith)
stalled_apart ss zero (suc (suc n)) a b f g e = kinds_apart a b 0 2 (head_kind reset_port a f) (in_kind ss n b g) e (omega arith)
stalled_apart ss (suc zero) zero a b f g e = kinds_apart b a 0 1 (head_kind reset_port b g) (head_kind enable_port a f) (sym e) (omega arith)
stalled_apart ss (suc zero) (suc zero) a b f g e = refl
stalled_apart ss (suc zero) (suc (suc n)) a b f g e = kinds_apart a b 1 2 (head_kind enable_port a f) (in_kind ss n b g) e (omega arith)
stalled_apart ss (suc (suc m)) zero a b f g e = kinds_apart b a 0 2 (head_kind reset_port b g) (in_kind ss m a f) (sym e) (omega arith)
stalled_apart ss (suc (suc m)) (suc zero) a b f g e = kinds_apart b a 1 2 (head_kind enable_port b g) (in_kind ss m a f) (sym e) (omega arith)
stalled_apart ss (suc (suc m)) (suc (suc n)) a b f g e = ap suc (inputs_apart ss (suc m) (suc n) a b f g e)

-- ---- their numbers are those of few ports

stalled_port_fits : (ss : List StTree) (k : ℕ) (p : SizedPort) → AreSmall ss → length ss ≤ 8 → slice_get (stalled_ins (streams_of ss)) k ≡ Some p
    → PortFits p.port
stalled_port_fits ss zero p small few h = input_port_fits ss zero p small few h
stalled_port_fits ss (suc zero) p small few h = subst (λ (x : SizedPort). PortFits x.port) (same_Some enable_port p h) tt
stalled_port_fits ss (suc (suc k)) p small few h = input_port_fits ss (suc k) p small few h

cell_fits : (cells : List SizedCell) (k width : ℕ) (cell : Cell)
    → ((port : Port) → slice_get cells k ≡ Some (record { width = width; cell = Input port }) → PortFits port)
    → slice_get cells k ≡ Some (record { width = width; cell = cell }) → CellPortFits cell
cell_fits cells k width (Input port) f e = f port e
cell_fits cells k width (Const c) f e = tt
cell_fits cells k width (Op op args) f e = tt
cell_fits cells k width (Reg next) f e = tt
cell_fits cells k width (Mem depth at next enable) f e = tt
cell_fits cells k width (Peek mem at) f e = tt

-- ---- outputs are those that were, on other nets

record IsMoved (os : List Outlet) (k : ℕ) (o : Outlet) : Type 0 where
  from : Outlet
  found : slice_get os k ≡ Some from
  is : moved_outlet from ≡ o

moved_from : (os : List Outlet) (k : ℕ) (o : Outlet) → slice_get (map moved_outlet os) k ≡ Some o → IsMoved os k o
moved_from os k o h =
    let within : k < length (map moved_outlet os) = slice_get_within (map moved_outlet os) k o h in
    let e = entry-at os k (omega (arith, within, length-map os moved_outlet)) in
    record { from = e.0; found = e.1; is = same_Some (moved_outlet e.0) o (sym (mapped_at moved_outlet os k e.0 e.1) ∙ h) }

-- ---- the whole

module _ (p : ProgramTree) (slowdown : ℕ) (costs : OwnCosts) (ins outs : List StTree) (n new : Circuit) (laid : IsLaidOut p slowdown ins outs)
    (light : costs.load ≤ 50000)
    (c : IsCircuitFor p slowdown costs ins outs n) (still : IsStalled n new) where
  plain : IsWritableNetlist n.cells n.outlets (length outs)
  plain = writable p slowdown costs ins outs n laid (omega (arith, light)) c

  small_ins : AreSmall ins
  small_ins q t e = (ins_filling p slowdown ins outs laid q t e).size

  have : HavePorts new.cells new.outlets (stalled_ins (streams_of ins)) (outs_of outs)
  have = stalled_ports_are n new reset_port (input_ports (streams_of ins)) (outs_of outs) still c.shown (circuit_ports p slowdown costs ins outs n c)

  port_at : (k width : ℕ) (port : Port) → slice_get new.cells k ≡ Some (record { width = width; cell = Input port })
      → IsPortAt (stalled_ins (streams_of ins)) k port
  port_at k width port e = input_at new.cells (stalled_ins (streams_of ins)) k width port have.inputs e

  outlet_at : (k : ℕ) (o : Outlet) → slice_get new.outlets k ≡ Some o → IsMoved n.outlets k o
  outlet_at k o e = moved_from n.outlets k o (ap (λ (os : List Outlet). slice_get os k) (sym still.outputs) ∙ e)

  have_ports : written.HavePorts new.cells new.outlets (length outs)
  have_ports = record {
    inputs = λ k width port e. (let r = port_at k width port e in subst IsInputPort r.is (have.inner k r.sized r.found));
    inputs_differ = λ k l v w port e f.
        (let a = port_at k v port e in
        let b = port_at l w port f in
        stalled_apart (streams_of ins) k l a.sized b.sized a.found b.found (a.is ∙ sym b.is));
    outputs = λ k o e. (let r = outlet_at k o e in subst (λ (x : Outlet). IsOutputPort (length outs) x.port) r.is (plain.ports.outputs k r.from r.found));
    outputs_differ = λ k l a b e f same.
        (let x = outlet_at k a e in
        let y = outlet_at l b f in
        plain.ports.outputs_differ k l x.from y.from x.found y.found (ap (λ (o : Outlet). o.port) x.is ∙ (same ∙ sym (ap (λ (o : Outlet). o.port) y.is))));
  }

  few_cells : length new.cells < 2 ^ 32
  few_cells =
      let ports : length (input_ports (streams_of ins)) ≡ columns_in (streams_of ins) = length_from (λ param lane word. In param lane word) 0
      (streams_of ins) in
      omega (arith, still.small, c.small, light, ports, all_columns ins small_ins, few_ins p slowdown ins outs laid)

  output_fits : (k : ℕ) (o : Outlet) → slice_get new.outlets k ≡ Some o → PortFits o.port
  output_fits k o e =
      let r = outlet_at k o e in
      let within : k < length n.outlets = slice_get_within n.outlets k r.from r.found in
      let same : get_or n.outlets k r.from ≡ r.from = same_Some (get_or n.outlets k r.from) r.from
      (sym (slice_get-get_or n.outlets k r.from within) ∙ r.found) in
      subst (λ (x : Outlet). PortFits x.port) r.is (subst (λ (x : Outlet). PortFits x.port) same (plain.outputs k r.from within))

  pub is_writable : IsWritableNetlist new.cells new.outlets (length outs)
  is_writable = record {
    formed = still.formed;
    shown = still.shown;
    ports = have_ports;
    whole = still.whole c.whole;
    few = few_cells;
    inputs = λ k d within.
        (let x : SizedCell = get_or new.cells k d in
        cell_fits new.cells k x.width x.cell (λ port e. (let r = port_at k x.width port e in
        subst PortFits r.is (stalled_port_fits ins k r.sized small_ins (few_ins p slowdown ins outs laid) r.found)))
        (slice_get-get_or new.cells k d within));
    outputs = λ k d within. output_fits k (get_or new.outlets k d) (slice_get-get_or new.outlets k d within);
  }

pub stalled_writable : StalledCircuitsAreWritable
stalled_writable p slowdown costs ins outs n stalled laid light c still = is_writable p slowdown costs ins outs n stalled laid light c still
