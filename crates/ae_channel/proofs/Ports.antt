-- The ports of the circuit of a program between two channels are those of a module, and no two are the same.
use Rattle.std.proofs.Common.{ℕ, zero, suc, ◌≡◌, ◌+◌, ◌<◌, ◌≤◌, inl, inr, List, ◌∷◌, length, map, min, Some, slice_get, arith, refl, ap, sym, ◌∙◌, subst}
use Rattle.std.proofs.lemmas.Bool.{cases_lt}
use Rattle.std.proofs.lemmas.List.{length-map}
use Rattle.std.proofs.lemmas.Option.{same_Some, slice_get_within}
use Rattle.ae_netlist.specs.declared.cell.Handshake.TheVariants.{SinkReady, SinkValid, SourceReady, SourceValid}
use Rattle.ae_netlist.specs.declared.cell.Port.{Port}
use Rattle.ae_netlist.specs.declared.cell.Port.TheVariants.{In, Out, Reset, Stream as Wire}
use Rattle.ae_netlist.specs.declared.cell.Cell.{Cell}
use Rattle.ae_netlist.specs.declared.cell.Cell.TheVariants.{Input}
use Rattle.ae_netlist.specs.declared.cell.Outlet.{Outlet}
use Rattle.ae_netlist.specs.declared.cell.SizedCell.{SizedCell}
use Rattle.ae_netlist.specs.Circuit.{Circuit}
use Rattle.ae_netlist.specs.Counts.{cells_of, is_input}
use Rattle.ae_seq.specs.ProgramTree.{ProgramTree}
use Rattle.ae_sttype.specs.StTree.{StTree}
use Rattle.ae_ops.specs.Blocks.{Stream, stream_of}
use Rattle.ae_delay.specs.declared.own.OwnCosts.{OwnCosts}
use Rattle.ae_ports.specs.CircuitFor.{IsCircuitFor}
use Rattle.ae_ports.specs.Ports.{SizedPort, input_cell, input_ports, outlet_port, output_ports, reset_port, streams_of}
use Rattle.ae_verilog.specs.NetlistModule.{IsInputPort, IsOutputPort}
use Rattle.ae_verilog.specs.NetlistModule as written
use Rattle.ae_correct.proofs.Keeps.{circuit_ports, inner_ports, ins_of, outs_of}
use Rattle.ae_correct.proofs.Nets.{HavePorts}
use Rattle.ae_correct.proofs.Places.{port_from, same_place}
use Rattle.ae_correct.proofs.Written.{inputs_apart}
use Rattle.ae_stall.specs.Images.{bit_input, with_inputs}
use Rattle.ae_streamed.specs.Between.{HasChannelInputs, channel_inputs, ports_of, sink_ready, sink_valid, source_ready, source_valid}
use Rattle.ae_control.proofs.Cells.{get_mapped}
use Rattle.ae_streamed.proofs.Within.{of_mapped}
use Rattle.ae_channel.proofs.Inputs.{all_inputs, one_place, place, placed}

-- ---- inputs

abbrev bit_port : Port → SizedPort
bit_port port = record { port = port; width = 1 }

-- the reset, those of the channels, and the others
abbrev pub stream_ins : List Stream → List SizedPort
stream_ins ss = reset_port ∷ bit_port source_valid ∷ bit_port sink_ready ∷ input_ports ss

abbrev kind_in : Port → ℕ
kind_in Reset = 0
kind_in (Wire SourceValid) = 1
kind_in (Wire SinkReady) = 2
kind_in _ = 3

head_kind : (p q : SizedPort) → Some p ≡ Some q → kind_in q.port ≡ kind_in p.port
head_kind p q e = sym (ap (λ (x : SizedPort). kind_in x.port) (same_Some p q e))

-- which of them a port is
in_kind : (ss : List Stream) (n : ℕ) (p : SizedPort) → slice_get (stream_ins ss) n ≡ Some p → kind_in p.port ≡ min n 3
in_kind ss zero p h = head_kind reset_port p h
in_kind ss (suc zero) p h = head_kind (bit_port source_valid) p h
in_kind ss (suc (suc zero)) p h = head_kind (bit_port sink_ready) p h
in_kind ss (suc (suc (suc n))) p h =
    let r = port_from (λ param lane word. In param lane word) 0 ss n p h in
    let far : 3 ≡ min (suc (suc (suc n))) 3 = omega arith in
    ap kind_in r.port ∙ far

far_apart : (ss : List Stream) (m n : ℕ) (a b : SizedPort) → slice_get (stream_ins ss) m ≡ Some a → slice_get (stream_ins ss) n ≡ Some b → a.port ≡ b.port
    → 3 ≤ m → 3 ≤ n → m ≡ n
far_apart ss (suc (suc (suc m))) (suc (suc (suc n))) a b f g e j k =
    (let same : suc m ≡ suc n = inputs_apart ss (suc m) (suc n) a b f g e in omega (arith, same))
far_apart ss zero n a b f g e j k = absurd (omega (arith, j))
far_apart ss (suc zero) n a b f g e j k = absurd (omega (arith, j))
far_apart ss (suc (suc zero)) n a b f g e j k = absurd (omega (arith, j))
far_apart ss m zero a b f g e j k = absurd (omega (arith, k))
far_apart ss m (suc zero) a b f g e j k = absurd (omega (arith, k))
far_apart ss m (suc (suc zero)) a b f g e j k = absurd (omega (arith, k))

ins_apart : (ss : List Stream) (m n : ℕ) (a b : SizedPort) → slice_get (stream_ins ss) m ≡ Some a → slice_get (stream_ins ss) n ≡ Some b → a.port ≡ b.port
    → m ≡ n
ins_apart ss m n a b f g e =
    let same : min m 3 ≡ min n 3 = sym (in_kind ss m a f) ∙ (ap kind_in e ∙ in_kind ss n b g) in
    elim (cases_lt m 3) [
      | inl low ↦ omega (arith, same, low)
      | inr high ↦ far_apart ss m n a b f g e high (omega (arith, same, high))
    ]

are_ins : (ss : List Stream) (n : ℕ) (p : SizedPort) → slice_get (stream_ins ss) n ≡ Some p → IsInputPort p.port
are_ins ss zero p h = inner_ports ss 0 p h
are_ins ss (suc zero) p h = subst (λ (x : SizedPort). IsInputPort x.port) (same_Some (bit_port source_valid) p h) tt
are_ins ss (suc (suc zero)) p h = subst (λ (x : SizedPort). IsInputPort x.port) (same_Some (bit_port sink_ready) p h) tt
are_ins ss (suc (suc (suc n))) p h = inner_ports ss (suc n) p h

abbrev port_in : Cell → Port
port_in (Input port) = port
port_in _ = Reset

-- the port of an input, by its place
record IsPortAt (ports : List SizedPort) (k : ℕ) (port : Port) : Type 0 where
  sized : SizedPort
  found : slice_get ports k ≡ Some sized
  is : sized.port ≡ port

module _ (cells : List SizedCell) (ss : List Stream) (listed : cells_of is_input cells ≡ map input_cell (stream_ins ss)) where
  port_at : (n width : ℕ) (port : Port) → slice_get cells n ≡ Some (record { width = width; cell = Input port }) → IsPortAt (stream_ins ss) (place cells n) port
  port_at n width port e =
      let r = of_mapped input_cell (stream_ins ss) (place cells n) _ (ap (λ cs. slice_get cs (place cells n)) (sym listed) ∙ placed cells n _ e refl) in
      record { sized = r.0; found = r.1; is = ap (λ (x : SizedCell). port_in x.cell) r.2 }

  inputs_there : (n width : ℕ) (port : Port) → slice_get cells n ≡ Some (record { width = width; cell = Input port }) → IsInputPort port
  inputs_there n width port e = (let r = port_at n width port e in subst IsInputPort r.is (are_ins ss (place cells n) r.sized r.found))

  inputs_differ : (m n v w : ℕ) (port : Port) → slice_get cells m ≡ Some (record { width = v; cell = Input port })
      → slice_get cells n ≡ Some (record { width = w; cell = Input port }) → m ≡ n
  inputs_differ m n v w port e f =
      let a = port_at m v port e in
      let b = port_at n w port f in
      one_place cells m n _ _ e f refl refl (ins_apart ss (place cells m) (place cells n) a.sized b.sized a.found b.found (a.is ∙ sym b.is))

-- ---- outputs

abbrev kind_out : Port → ℕ
kind_out (Wire SourceReady) = 0
kind_out (Wire SinkValid) = 1
kind_out _ = 2

abbrev out_at : (result lane word : ℕ) → Port
out_at result lane word = Out result lane word

abbrev number_of : Port → ℕ
number_of (Out result lane word) = result
number_of _ = 0

abbrev lane_of : Port → ℕ
lane_of (Out result lane word) = lane
lane_of _ = 0

abbrev word_of : Port → ℕ
word_of (Out result lane word) = word
word_of _ = 0

module _ (old : Circuit) (ins : List SizedPort) (ss : List Stream) (have : HavePorts old.cells old.outlets ins (output_ports ss)) where
  -- an output of the circuit
  record IsOldOutput (k : ℕ) (port : Port) : Type 0 where
    sized : SizedPort
    found : slice_get (output_ports ss) k ≡ Some sized
    is : sized.port ≡ port

  old_output : (k : ℕ) (port : Port) → slice_get (ports_of old.outlets) k ≡ Some port → IsOldOutput k port
  old_output k port e =
      let r = of_mapped (λ (o : Outlet). o.port) old.outlets k port e in
      record {
        sized = outlet_port old.cells r.0;
        found = ap (λ ps. slice_get ps k) (sym have.outputs) ∙ get_mapped (outlet_port old.cells) old.outlets k r.0 r.1;
        is = r.2;
      }

  abbrev all_outs : List Port
  all_outs = source_ready ∷ sink_valid ∷ ports_of old.outlets

  out_kind : (n : ℕ) (port : Port) → slice_get all_outs n ≡ Some port → kind_out port ≡ min n 2
  out_kind zero port h = sym (ap kind_out (same_Some source_ready port h))
  out_kind (suc zero) port h = sym (ap kind_out (same_Some sink_valid port h))
  out_kind (suc (suc n)) port h =
      let r = old_output n port h in
      let p = port_from out_at 0 ss n r.sized r.found in
      let far : 2 ≡ min (suc (suc n)) 2 = omega arith in
      ap kind_out (sym r.is ∙ p.port) ∙ far

  old_apart : (m n : ℕ) (port : Port) → slice_get (ports_of old.outlets) m ≡ Some port → slice_get (ports_of old.outlets) n ≡ Some port → m ≡ n
  old_apart m n port f g =
      let a = old_output m port f in
      let b = old_output n port g in
      let x = port_from out_at 0 ss m a.sized a.found in
      let y = port_from out_at 0 ss n b.sized b.found in
      let same : Out (0 + x.number) x.lane x.word ≡ Out (0 + y.number) y.lane y.word = sym x.port ∙ (a.is ∙ (sym b.is ∙ y.port)) in
      same_place out_at 0 ss m n a.sized b.sized x y (omega (arith, ap number_of same)) (ap lane_of same) (ap word_of same)

  outs_apart : (m n : ℕ) (port : Port) → slice_get all_outs m ≡ Some port → slice_get all_outs n ≡ Some port → m ≡ n
  outs_apart m n port f g = both m n f g (sym (out_kind m port f) ∙ out_kind n port g)
    where
      both : (m n : ℕ) → slice_get all_outs m ≡ Some port → slice_get all_outs n ≡ Some port → min m 2 ≡ min n 2 → m ≡ n
      both (suc (suc m)) (suc (suc n)) f g same = (let e : m ≡ n = old_apart m n port f g in omega (arith, e))
      both zero n f g same = omega (arith, same)
      both (suc zero) n f g same = omega (arith, same)
      both m zero f g same = omega (arith, same)
      both m (suc zero) f g same = omega (arith, same)

  are_outs : (n : ℕ) (port : Port) → slice_get all_outs n ≡ Some port → IsOutputPort (length ss) port
  are_outs zero port h = subst (IsOutputPort (length ss)) (same_Some source_ready port h) tt
  are_outs (suc zero) port h = subst (IsOutputPort (length ss)) (same_Some sink_valid port h) tt
  are_outs (suc (suc n)) port h =
      let r = old_output n port h in
      let p = port_from out_at 0 ss n r.sized r.found in
      let within : p.number < length ss = slice_get_within ss p.number p.stream p.found in
      subst (IsOutputPort (length ss)) (sym p.port ∙ r.is) (omega (arith, within))

-- ---- all

pub have_ports : (p : ProgramTree) (slowdown : ℕ) (costs : OwnCosts) (ins outs : List StTree) (n new : Circuit) → IsCircuitFor p slowdown costs ins outs n
    → HasChannelInputs n.cells new.cells
    → ports_of new.outlets ≡ source_ready ∷ sink_valid ∷ ports_of n.outlets → written.HavePorts new.cells new.outlets (length outs)
have_ports p slowdown costs ins outs n new c inputs outputs =
    let have : HavePorts n.cells n.outlets (ins_of ins) (outs_of outs) = circuit_ports p slowdown costs ins outs n c in
    let listed : cells_of is_input new.cells ≡ map input_cell (stream_ins (streams_of ins)) = inputs ∙
    ap (with_inputs (map bit_input channel_inputs)) (all_inputs n.cells (ins_of ins) have.inputs) in
    let port : (k : ℕ) (o : Outlet) → slice_get new.outlets k ≡ Some o → slice_get (source_ready ∷ sink_valid ∷ ports_of n.outlets) k ≡ Some o.port =
    λ k o e. ap (λ ps. slice_get ps k) (sym outputs) ∙ get_mapped (λ (x : Outlet). x.port) new.outlets k o e in
    record {
      inputs = inputs_there new.cells (streams_of ins) listed;
      inputs_differ = inputs_differ new.cells (streams_of ins) listed;
      outputs = λ k o e. subst (λ many. IsOutputPort many o.port) (length-map outs stream_of)
          (are_outs n (ins_of ins) (streams_of outs) have k o.port (port k o e));
      outputs_differ = λ j k a b e f same.
          outs_apart n (ins_of ins) (streams_of outs) have j k b.port
          (subst (λ (x : Port). slice_get (source_ready ∷ sink_valid ∷ ports_of n.outlets) j ≡ Some x) same (port j a e)) (port k b f);
    }
