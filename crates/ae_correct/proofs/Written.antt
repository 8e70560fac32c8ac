-- The circuit of a program can be written as a module.
use Rattle.std.proofs.Common.{ℕ, zero, suc, ◌≡◌, ◌+◌, ◌-◌, ◌*◌, ◌<◌, ◌≤◌, ◌^◌, inl, inr, true, false, List, [], ◌∷◌, ◌++◌, length, map, drop, get_or, Some, slice_get, arith, refl, ap, sym, ◌∙◌, subst}
use Rattle.std.proofs.lemmas.List.{length-map, take-append-drop}
use Rattle.std.proofs.lemmas.Option.{none-some, same_Some, slice_get_within, slice_get-get_or}
use Rattle.ae_netlist.specs.declared.cell.Port.{Port}
use Rattle.ae_netlist.specs.declared.cell.Port.TheVariants.{Reset, In, Out}
use Rattle.ae_netlist.specs.declared.cell.Cell.{Cell}
use Rattle.ae_netlist.specs.declared.cell.Cell.TheVariants.{Input, Const, Op, Reg, Mem, Peek}
use Rattle.ae_netlist.specs.declared.cell.SizedCell.{SizedCell}
use Rattle.ae_netlist.specs.declared.cell.Outlet.{Outlet}
use Rattle.ae_netlist.specs.Circuit.{Circuit}
use Rattle.ae_netlist.specs.Counts.{is_input}
use Rattle.ae_verilog.specs.NetlistModule.{IsInputPort, IsOutputPort}
use Rattle.ae_verilog.specs.NetlistModule as written
use Rattle.ae_verilog.specs.Written.{IsWritableNetlist}
use Rattle.ae_verilog.specs.Text.{PortFits, CellPortFits}
use Rattle.ae_sttype.specs.StTree.{StTree, lanes, st_atoms, element_words}
use Rattle.ae_sttype.specs.Size.{IsInSize}
use Rattle.ae_sttype.proofs.Bounds.{atoms_pos, lanes-le-atoms, lanes_below, product_part as factor_le}
use Rattle.ae_ops.specs.Blocks.{Stream, stream_of, stream_widths}
use Rattle.ae_seq.specs.ProgramTree.{ProgramTree}
use Rattle.ae_eval.proofs.Items.{entry-at}
use Rattle.ae_fold.proofs.Kinding.{get_append_cases}
use Rattle.ae_ports.specs.Ports.{streams_of, SizedPort, input_cell, outlet_port, reset_port, input_ports, output_ports, columns_in}
use Rattle.ae_correct.proofs.Places.{IsPortFrom, columns_more, length_from, port_from, same_place}
use Rattle.ae_correct.proofs.Nets.{HaveInputs, HavePorts, NoInputs, no_more}
use Rattle.ae_correct.proofs.ModulePorts.{mapped_at}
use Rattle.ae_ports.proofs.Columns.{element_columns, stream_columns}
use Rattle.ae_delay.specs.declared.own.OwnCosts.{OwnCosts}
use Rattle.ae_ports.specs.CircuitFor.{IsCircuitFor}
use Rattle.ae_rewrite.specs.Scheduled.{AreFilling}
use Rattle.ae_correct.specs.Laws.{CircuitsAreWritable}
use Rattle.ae_correct.proofs.Laid.{few_ins, few_outs, ins_filling, outs_filling}
use Rattle.ae_correct.proofs.Keeps.{circuit_ports, ins_of, outs_of}

-- ---- an entry of a list that a function made

pub record IsMapped {A B : Type 0} (f : A → B) (xs : List A) (k : ℕ) (y : B) : Type 0 where
  pub from : A
  pub found : slice_get xs k ≡ Some from
  pub is : f from ≡ y

pub unmapped : {A B : Type 0} (f : A → B) (xs : List A) (k : ℕ) (y : B) → slice_get (map f xs) k ≡ Some y → IsMapped f xs k y
unmapped f xs k y h =
    let within : k < length (map f xs) = slice_get_within (map f xs) k y h in
    let e = entry-at xs k (omega (arith, within, length-map xs f)) in
    record { from = e.0; found = e.1; is = same_Some (f e.0) y (sym (mapped_at f xs k e.0 e.1) ∙ h) }

-- ---- where inputs stand

no_input_at : (cells : List SizedCell) (k : ℕ) (c : SizedCell) → NoInputs cells → slice_get cells k ≡ Some c → is_input c.cell ≡ false
no_input_at [] k c h e = absurd (none-some c e)
no_input_at (x ∷ cells) zero c h e = subst (λ (y : SizedCell). is_input y.cell ≡ false) (same_Some x c e) h.0
no_input_at (x ∷ cells) (suc k) c h e = no_input_at cells k c h.1 e

abbrev port_in : Cell → Port → Port
port_in (Input port) other = port
port_in _ other = other

-- the port of an input, by its number
pub record IsPortAt (ports : List SizedPort) (k : ℕ) (port : Port) : Type 0 where
  pub sized : SizedPort
  pub found : slice_get ports k ≡ Some sized
  pub is : sized.port ≡ port

pub input_at : (cells : List SizedCell) (ports : List SizedPort) (k width : ℕ) (port : Port) → HaveInputs cells ports
    → slice_get cells k ≡ Some (record { width = width; cell = Input port }) → IsPortAt ports k port
input_at cells ports k width port h e =
    let rest : List SizedCell = drop (length ports) cells in
    let c : SizedCell = record { width = width; cell = Input port } in
    let whole : map input_cell ports ++ rest ≡ cells = ap (λ cs. cs ++ rest) (sym h.first) ∙ take-append-drop (length ports) cells in
    let here : slice_get (map input_cell ports ++ rest) k ≡ Some c = ap (λ cs. slice_get cs k) whole ∙ e in
    elim (get_append_cases (map input_cell ports) rest k c c here) [
      | inl front ↦ (let r = unmapped input_cell ports k c front.1 in
          record { sized = r.from; found = r.found; is = ap (λ (x : SizedCell). port_in x.cell Reset) r.is })
      | inr back ↦ (let none : true ≡ false = no_input_at rest (k - length (map input_cell ports)) c (no_more cells ports h.first h.count) back.1 in cc)
    ]

-- ---- no two ports are the same

abbrev number_in : Port → ℕ
number_in (In param lane word) = param
number_in (Out result lane word) = result
number_in _ = 0

abbrev lane_in : Port → ℕ
lane_in (In param lane word) = lane
lane_in (Out result lane word) = lane
lane_in _ = 0

abbrev word_in : Port → ℕ
word_in (In param lane word) = word
word_in (Out result lane word) = word
word_in _ = 0

abbrev IsNoReset : Port → Type 0
IsNoReset Reset = ⊥
IsNoReset _ = Unit {0}

abbrev in_at : (param lane word : ℕ) → Port
in_at param lane word = In param lane word

abbrev out_at : (result lane word : ℕ) → Port
out_at result lane word = Out result lane word

pub inputs_apart : (ss : List Stream) (m n : ℕ) (a b : SizedPort) → slice_get (reset_port ∷ input_ports ss) m ≡ Some a
    → slice_get (reset_port ∷ input_ports ss) n ≡ Some b → a.port ≡ b.port → m ≡ n
inputs_apart ss zero zero a b f g e = refl
inputs_apart ss zero (suc n) a b f g e =
    let r = port_from in_at 0 ss n b g in
    let same : Reset ≡ In (0 + r.number) r.lane r.word = ap (λ (x : SizedPort). x.port) (same_Some reset_port a f) ∙ e ∙ r.port in
    absurd (subst IsNoReset (sym same) tt)
inputs_apart ss (suc m) zero a b f g e =
    let r = port_from in_at 0 ss m a f in
    let same : Reset ≡ In (0 + r.number) r.lane r.word = ap (λ (x : SizedPort). x.port) (same_Some reset_port b g) ∙ sym e ∙ r.port in
    absurd (subst IsNoReset (sym same) tt)
inputs_apart ss (suc m) (suc n) a b f g e =
    let x = port_from in_at 0 ss m a f in
    let y = port_from in_at 0 ss n b g in
    let same : In (0 + x.number) x.lane x.word ≡ In (0 + y.number) y.lane y.word = sym x.port ∙ e ∙ y.port in
    let number : x.number ≡ y.number = omega (arith, ap number_in same) in
    ap suc (same_place in_at 0 ss m n a b x y number (ap lane_in same) (ap word_in same))

outputs_apart : (ss : List Stream) (m n : ℕ) (a b : SizedPort) → slice_get (output_ports ss) m ≡ Some a → slice_get (output_ports ss) n ≡ Some b
    → a.port ≡ b.port → m ≡ n
outputs_apart ss m n a b f g e =
    let x = port_from out_at 0 ss m a f in
    let y = port_from out_at 0 ss n b g in
    let same : Out (0 + x.number) x.lane x.word ≡ Out (0 + y.number) y.lane y.word = sym x.port ∙ e ∙ y.port in
    let number : x.number ≡ y.number = omega (arith, ap number_in same) in
    same_place out_at 0 ss m n a b x y number (ap lane_in same) (ap word_in same)

-- ---- how many ports there are

-- layouts in size
abbrev pub AreSmall : List StTree → Type 0
AreSmall ss = (q : ℕ) (s : StTree) → slice_get ss q ≡ Some s → IsInSize s

product_le : (a b c m : ℕ) → a ≤ b → b * c ≤ m → a * c ≤ m
product_le a b c m h g = grind arith

few_columns : (s : StTree) → IsInSize s → length (stream_widths (stream_of s)) ≤ 16384
few_columns s h =
    (let p = product_le (lanes s) (st_atoms s) (element_words s) 16384 (lanes-le-atoms s h.lengths) h.in_words in omega (arith, p, stream_columns s))

pub all_columns : (ss : List StTree) → AreSmall ss → columns_in (streams_of ss) ≤ length ss * 16384
all_columns [] h = omega arith
all_columns (s ∷ ss) h = omega (arith, columns_more (stream_of s) (streams_of ss), few_columns s (h 0 s refl), all_columns ss (λ q t e. h (suc q) t e))

-- the numbers of a port of few layouts in size
record IsFew (r : ℕ) (lane word : ℕ) : Type 0 where
  number : r < 8
  lane_few : lane < 16384
  word_few : word < 16384

few_numbers : (at : ℕ → ℕ → ℕ → Port) (ss : List StTree) (n : ℕ) (p : SizedPort) → AreSmall ss → length ss ≤ 8 → (r : IsPortFrom at 0 (streams_of ss) n p)
    → IsFew r.number r.lane r.word
few_numbers at ss n p small few r =
    let m = unmapped stream_of ss r.number r.stream r.found in
    let size : IsInSize m.from = small r.number m.from m.found in
    let within : r.number < length ss = slice_get_within ss r.number m.from m.found in
    let lane : r.lane < lanes m.from = subst (λ (x : Stream). r.lane < x.lanes) (sym m.is) r.lane_below in
    let word : r.word < length (stream_of m.from).widths = subst (λ (x : Stream). r.word < length x.widths) (sym m.is) r.word_below in
    let words : element_words m.from ≤ 16384 = factor_le (st_atoms m.from) (element_words m.from) 16384 (atoms_pos m.from size.lengths) size.in_words in
    record {
      number = omega (arith, within);
      lane_few = omega (arith, lane, lanes_below m.from size);
      word_few = omega (arith, word, words, element_columns m.from);
    }

pub input_port_fits : (ss : List StTree) (k : ℕ) (p : SizedPort) → AreSmall ss → length ss ≤ 8
    → slice_get (reset_port ∷ input_ports (streams_of ss)) k ≡ Some p → PortFits p.port
input_port_fits ss zero p small few h = subst (λ (x : SizedPort). PortFits x.port) (same_Some reset_port p h) tt
input_port_fits ss (suc k) p small few h =
    let r = port_from in_at 0 (streams_of ss) k p h in
    let f = few_numbers in_at ss k p small few r in
    subst PortFits (sym r.port) (omega (arith, f.number), omega (arith, f.lane_few), omega (arith, f.word_few))

output_port_fits : (ss : List StTree) (k : ℕ) (p : SizedPort) → AreSmall ss → length ss ≤ 8 → slice_get (output_ports (streams_of ss)) k ≡ Some p
    → PortFits p.port
output_port_fits ss k p small few h =
    let r = port_from out_at 0 (streams_of ss) k p h in
    let f = few_numbers out_at ss k p small few r in
    subst PortFits (sym r.port) (omega (arith, f.number), omega (arith, f.lane_few), omega (arith, f.word_few))

-- ---- the whole

cell_fits : (cells : List SizedCell) (ss : List StTree) (k width : ℕ) (cell : Cell) → HaveInputs cells (reset_port ∷ input_ports (streams_of ss)) → AreSmall ss
    → length ss ≤ 8
    → slice_get cells k ≡ Some (record { width = width; cell = cell }) → CellPortFits cell
cell_fits cells ss k width (Input port) h small few e =
    let r = input_at cells (reset_port ∷ input_ports (streams_of ss)) k width port h e in
    subst PortFits r.is (input_port_fits ss k r.sized small few r.found)
cell_fits cells ss k width (Const c) h small few e = tt
cell_fits cells ss k width (Op op args) h small few e = tt
cell_fits cells ss k width (Reg next) h small few e = tt
cell_fits cells ss k width (Mem depth at next enable) h small few e = tt
cell_fits cells ss k width (Peek mem at) h small few e = tt

module _ (p : ProgramTree) (slowdown : ℕ) (costs : OwnCosts) (ins outs : List StTree) (n : Circuit) (fill_ins : AreFilling slowdown ins)
    (fill_outs : AreFilling slowdown outs)
    (params : length ins ≤ 8) (results : length outs ≤ 8) (light : costs.load ≤ 100000) (c : IsCircuitFor p slowdown costs ins outs n) where
  have : HavePorts n.cells n.outlets (ins_of ins) (outs_of outs)
  have = circuit_ports p slowdown costs ins outs n c

  small_ins : AreSmall ins
  small_ins q t e = (fill_ins q t e).size

  small_outs : AreSmall outs
  small_outs r t e = (fill_outs r t e).size

  -- an output's port
  shown_at : (k : ℕ) (o : Outlet) → slice_get n.outlets k ≡ Some o → slice_get (outs_of outs) k ≡ Some (outlet_port n.cells o)
  shown_at k o e = ap (λ ps. slice_get ps k) (sym have.outputs) ∙ mapped_at (outlet_port n.cells) n.outlets k o e

  output_named : (k : ℕ) (o : Outlet) → slice_get n.outlets k ≡ Some o → IsOutputPort (length outs) o.port
  output_named k o e =
      let r = port_from out_at 0 (streams_of outs) k (outlet_port n.cells o) (shown_at k o e) in
      let within : r.number < length (streams_of outs) = slice_get_within (streams_of outs) r.number r.stream r.found in
      subst (IsOutputPort (length outs)) (sym r.port) (omega (arith, within, length-map outs stream_of))

  have_ports : written.HavePorts n.cells n.outlets (length outs)
  have_ports = record {
    inputs = λ k width port e. (let r = input_at n.cells (ins_of ins) k width port have.inputs e in subst IsInputPort r.is (have.inner k r.sized r.found));
    inputs_differ = λ k l v w port e f.
        (let a = input_at n.cells (ins_of ins) k v port have.inputs e in
        let b = input_at n.cells (ins_of ins) l w port have.inputs f in
        inputs_apart (streams_of ins) k l a.sized b.sized a.found b.found (a.is ∙ sym b.is));
    outputs = output_named;
    outputs_differ = λ k l a b e f same. outputs_apart (streams_of outs) k l (outlet_port n.cells a) (outlet_port n.cells b) (shown_at k a e)
        (shown_at l b f) same;
  }

  few_cells : length n.cells < 2 ^ 32
  few_cells =
      let ports : length (input_ports (streams_of ins)) ≡ columns_in (streams_of ins) = length_from in_at 0 (streams_of ins) in
      omega (arith, c.small, light, ports, all_columns ins small_ins, params)

  is_writable : IsWritableNetlist n.cells n.outlets (length outs)
  is_writable = record {
    formed = c.formed;
    shown = c.shown;
    ports = have_ports;
    whole = c.whole;
    few = few_cells;
    inputs = λ k d within. (let x : SizedCell = get_or n.cells k d in
        cell_fits n.cells ins k x.width x.cell have.inputs small_ins params (slice_get-get_or n.cells k d within));
    outputs = λ k d within. (let o : Outlet = get_or n.outlets k d in
        output_port_fits outs k (outlet_port n.cells o) small_outs results (shown_at k o (slice_get-get_or n.outlets k d within)));
  }

pub writable : CircuitsAreWritable
writable p slowdown costs ins outs n laid light c =
    is_writable p slowdown costs ins outs n (ins_filling p slowdown ins outs laid) (outs_filling p slowdown ins outs laid) (few_ins p slowdown ins outs laid)
    (few_outs p slowdown ins outs laid) light c
