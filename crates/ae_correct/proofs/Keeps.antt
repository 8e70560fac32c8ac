-- The module of a circuit for a program keeps blocks: those that its inputs hold give those of the program's results.
use Rattle.std.proofs.Common.{ℕ, zero, suc, ◌≡◌, ◌+◌, ◌*◌, ◌<◌, ◌≤◌, List, ◌∷◌, length, map, take, Option, Some, slice_get, arith, ap, sym, ◌∙◌, subst}
use Rattle.std.proofs.lemmas.Nat.{mul-add-lt, row_fits}
use Rattle.std.proofs.lemmas.Option.{same_Some, slice_get_within}
use Rattle.std.specs.Prelude.{unwrap_or}
use Rattle.ae_seqtype.specs.ValueTree.{ValueTree, flat}
use Rattle.ae_sttype.specs.declared.st_type.Slot.{Slot}
use Rattle.ae_sttype.specs.StTree.{StTree, time, lanes, st_atoms, element_words}
use Rattle.ae_sttype.specs.Slots.{slots}
use Rattle.ae_sttype.specs.Size.{IsInSize}
use Rattle.ae_sttype.specs.Holds.{Holds}
use Rattle.ae_sttype.proofs.Places.{slot_at, slot_of, slot_below, length-slots}
use Rattle.ae_netlist.specs.declared.cell.Port.TheVariants.{In}
use Rattle.ae_netlist.specs.Circuit.{Circuit}
use Rattle.ae_netlist.specs.Counts.{count_of, is_input}
use Rattle.ae_netlist.specs.Runs.{Clock}
use Rattle.ae_vmodule.specs.ModuleTree.{ModuleTree}
use Rattle.ae_runs.specs.Values.{ModuleClock}
use Rattle.ae_runs.specs.SameRuns.{BeginAlike, HaveEqualOutputs, HasSameRuns}
use Rattle.ae_verilog.specs.NetlistModule.{netlist_module, IsInputPort}
use Rattle.ae_ops.specs.Waves.{Wave}
use Rattle.ae_ops.specs.Blocks.{Stream, stream_of, stream_widths}
use Rattle.ae_seq.specs.ProgramTree.{ProgramTree}
use Rattle.ae_seq.specs.Meaning.{at, mean}
use Rattle.ae_rewrite.specs.Blocks.{InputsHold, MakesBlocks, OutputsHold, input_wave, output_wave}
use Rattle.ae_rewrite.specs.Scheduled.{AreFilling}
use Rattle.ae_delay.specs.declared.own.OwnCosts.{OwnCosts}
use Rattle.ae_ports.specs.CircuitFor.{IsCircuitFor}
use Rattle.ae_ports.specs.Ports.{streams_of, SizedPort, reset_port, columns_in, input_cell, outlet_port}
use Rattle.ae_ports.specs.Ports as net_side
use Rattle.ae_ports.proofs.Columns.{stream_columns, first_columns}
use Rattle.ae_correct.specs.Correct.{param_ports, result_ports, wave, BundlesHold, KeepsBlocks}
use Rattle.ae_correct.proofs.Places.{port_from}
use Rattle.ae_correct.proofs.Nets.{HavePorts}
use Rattle.ae_correct.proofs.Clocks.{column_in, column_out, resets}

-- ---- waves that agree hold the same words

-- two waves have the same words in the clocks and columns of a layout from clock k on
abbrev pub Agree : (k : ℕ) → StTree → (wave other : Wave) → Type 0
Agree k s wave other = (c q : ℕ) → k ≤ c → c < k + time s → q < length (stream_widths (stream_of s)) → wave c q ≡ other c q

pub holds_alike : (k : ℕ) (s : StTree) (wave other : Wave) (ws : List ℕ) → IsInSize s → Agree k s wave other → Holds other k (element_words s) (slots s) ws
    → Holds wave k (element_words s) (slots s) ws
holds_alike k s wave other ws size agree h e j w found below =
    let within : e < st_atoms s = (let i = slice_get_within (slots s) e w found in omega (arith, i, length-slots s)) in
    let is : slot_of s e ≡ w = ap (λ (o : Option Slot). unwrap_or o (slot_at 0 0)) found in
    let b = slot_below s size.lengths e within in
    let clock : w.clock < time s = subst (λ (x : Slot). x.clock < time s) is b.0 in
    let lane : w.lane < lanes s = subst (λ (x : Slot). x.lane < lanes s) is b.1 in
    let column : w.lane * element_words s + j < length (stream_widths (stream_of s)) = omega (
      arith,
      stream_columns s,
      mul-add-lt w.lane (element_words s) j (lanes s) lane below,
    ) in
    agree (k + w.clock) (w.lane * element_words s + j) (omega arith) (omega (arith, clock)) column ∙ h e j w found below

-- ---- the ports of a circuit

pub inner_ports : (ss : List Stream) (n : ℕ) (p : SizedPort) → slice_get (reset_port ∷ net_side.input_ports ss) n ≡ Some p → IsInputPort p.port
inner_ports ss zero p h = subst (λ (x : SizedPort). IsInputPort x.port) (same_Some reset_port p h) tt
inner_ports ss (suc n) p h = let r = port_from (λ param lane word. In param lane word) 0 ss n p h in subst IsInputPort (sym r.port) tt

-- the ports that the module of a circuit has
abbrev pub ins_of : List StTree → List SizedPort
ins_of ins = reset_port ∷ net_side.input_ports (streams_of ins)

abbrev pub outs_of : List StTree → List SizedPort
outs_of outs = net_side.output_ports (streams_of outs)

pub ports_there : (ins outs : List StTree) (n : Circuit) → take (1 + length (net_side.input_ports (streams_of ins))) n.cells ≡ map input_cell (ins_of ins)
    → count_of is_input n.cells ≡ 1 + length (net_side.input_ports (streams_of ins))
    → map (outlet_port n.cells) n.outlets ≡ outs_of outs → HavePorts n.cells n.outlets (ins_of ins) (outs_of outs)
ports_there ins outs n inputs no_others outputs =
    let long : 1 + length (net_side.input_ports (streams_of ins)) ≡ length (ins_of ins) = omega arith in
    record {
      inputs = record { first = ap (λ k. take k n.cells) (sym long) ∙ inputs; count = no_others ∙ long };
      outputs = outputs;
      inner = inner_ports (streams_of ins);
    }

pub circuit_ports : (p : ProgramTree) (slowdown : ℕ) (costs : OwnCosts) (ins outs : List StTree) (n : Circuit) → IsCircuitFor p slowdown costs ins outs n
    → HavePorts n.cells n.outlets (ins_of ins) (outs_of outs)
circuit_ports p slowdown costs ins outs n c = ports_there ins outs n c.inputs c.no_others c.outputs

-- ---- blocks

-- of a netlist with these ports that makes the blocks of the program, whatever its costs
module _ (lines : ℕ → ℕ) (p : ProgramTree) (slowdown latency : ℕ) (ins outs : List StTree) (n : Circuit)
    (ports : HavePorts n.cells n.outlets (ins_of ins) (outs_of outs)) (making : MakesBlocks n p slowdown latency ins outs)
    (same : HasSameRuns (netlist_module lines n.cells n.outlets (length outs)) n) (size_in : AreFilling slowdown ins)
    (size_out : AreFilling slowdown outs) where
  abbrev many : ℕ
  many = length outs

  abbrev own : ModuleTree
  own = netlist_module lines n.cells n.outlets (length outs)

  -- where the ports of the parameters hold a block, the inputs of the circuit do
  inputs_hold : (run : List ModuleClock) (other : List Clock) (start k : ℕ) (block : List ValueTree) → BeginAlike own n run other
      → start + (k + slowdown) ≤ length run
      → BundlesHold run start k param_ports ins block → InputsHold other start k ins block
  inputs_hold run other start k block alike room held = record {
    each = λ q t found.
        let fill = size_in q t found in
        let full : time t ≡ slowdown = fill.time in
        let there : Holds (input_wave other start (1 + columns_in (take q (streams_of ins)))) k (element_words t) (slots t) (flat (at block q)) =
        holds_alike k t (input_wave other start (1 + columns_in (take q (streams_of ins)))) (wave run start (param_ports q t)) (flat (at block q)) fill.size
        (λ clock column low high small. sym (column_in lines n many ins (outs_of outs) ports run other alike (start + clock) q column t
        (omega (arith, full)) found small)) (held.each q t found) in
        subst (λ i. Holds (input_wave other start (1 + i)) k (element_words t) (slots t) (flat (at block q))) (sym (first_columns ins q)) there;
  }

  -- where the outputs of the circuit hold results, the ports of the results do
  outputs_hold : (run : List ModuleClock) (other : List Clock) (start k : ℕ) (values : List ValueTree) → HaveEqualOutputs own n run other
      → start + (k + slowdown) ≤ length run
      → OutputsHold other n.outlets start k outs values → BundlesHold run start k (result_ports many) outs values
  outputs_hold run other start k values equal room held = record {
    each = λ r t found.
        let fill = size_out r t found in
        let full : time t ≡ slowdown = fill.time in
        let there : Holds (output_wave other n.outlets start (columns_in (take r (streams_of outs)))) k (element_words t) (slots t) (flat (at values r)) =
        subst (λ i. Holds (output_wave other n.outlets start i) k (element_words t) (slots t) (flat (at values r))) (first_columns outs r)
        (held.each r t found) in
        holds_alike k t (wave run start (result_ports many r t)) (output_wave other n.outlets start (columns_in (take r (streams_of outs))))
        (flat (at values r)) fill.size
        (λ clock column low high small. column_out lines n many outs (ins_of ins) ports run other equal (start + clock) r column t
        (omega (arith, full)) found small) there;
  }

  pub keeps : KeepsBlocks own p slowdown latency ins outs
  keeps = record {
    results = λ run start blocks reset long given b block there.
        (let inside : b < length blocks = slice_get_within blocks b block there in
        let fits : b * slowdown + slowdown ≤ length blocks * slowdown = row_fits b slowdown (length blocks) slowdown inside (omega arith) in
        let w = same.of_module run reset.run_of in
        let other = w.0 in
        let same_long : length run ≡ length other = w.2.long in
        let g = given b block there in
        let in_room : start + (b * slowdown + slowdown) ≤ length run = omega (arith, fits, long) in
        let law_room : start + (latency + (b + 1) * slowdown) ≤ length other = omega (arith, fits, long, same_long) in
        let out_room : start + (latency + b * slowdown + slowdown) ≤ length run = omega (arith, fits, long) in
        let held = inputs_hold run other start (b * slowdown) block w.2 in_room g.1 in
        let made = making.makes other start b block w.1 (resets lines n many (net_side.input_ports (streams_of ins))
        (outs_of outs) ports run other start w.2 reset) law_room g.0 held in
        outputs_hold run other start (latency + b * slowdown) (mean p block) w.3 out_room made);
  }
