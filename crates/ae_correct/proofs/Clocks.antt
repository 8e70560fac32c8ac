-- In runs that begin alike, the ports of a module have the words of its netlist's nets.
use Rattle.std.proofs.Common.{ℕ, zero, suc, ◌≡◌, ◌+◌, ◌<◌, true, false, List, [], ◌∷◌, length, map, take, Option, Some, slice_get, arith, refl, ap, sym, ◌∙◌}
use Rattle.std.proofs.lemmas.List.{length-map}
use Rattle.std.specs.Prelude.{codes, unwrap_or}
use Rattle.std.specs.List.{enumerate_from}
use Rattle.std.proofs.lemmas.Option.{none-some, same_Some, slice_get_within}
use Rattle.ae_netlist.specs.declared.cell.NetId.{NetId}
use Rattle.ae_netlist.specs.declared.cell.Port.{Port}
use Rattle.ae_netlist.specs.declared.cell.Port.TheVariants.{In, Out}
use Rattle.ae_netlist.specs.declared.cell.SizedCell.{SizedCell}
use Rattle.ae_netlist.specs.declared.cell.Outlet.{Outlet}
use Rattle.ae_netlist.specs.Circuit.{Circuit}
use Rattle.ae_netlist.specs.Runs.{Clock, IsReset, word_at}
use Rattle.ae_vmodule.specs.ModuleTree.{NetTree}
use Rattle.ae_runs.specs.Values.{ModuleClock}
use Rattle.ae_runs.specs.Runs.{clock_at, IsResetRun}
use Rattle.ae_runs.specs.SameRuns.{BeginAlike, HaveEqualOutputs}
use Rattle.ae_verilog.specs.NetlistModule.{port_name}
use Rattle.ae_sttype.specs.StTree.{StTree}
use Rattle.ae_ops.specs.Blocks.{stream_of, stream_widths}
use Rattle.ae_eval.proofs.Items.{entry-at}
use Rattle.ae_ports.specs.Ports.{streams_of, SizedPort, input_cell, outlet_port, reset_port, stream_ports, columns_in}
use Rattle.ae_rewrite.specs.Blocks.{outlet_net}
use Rattle.ae_ports.specs.Ports as net_side
use Rattle.ae_correct.specs.Correct.{param_ports, result_ports, name_of}
use Rattle.ae_correct.proofs.Places.{port_there}
use Rattle.ae_correct.proofs.Nets.{HavePorts, in_net, out_net, tree, numbered_inputs, inputs_filtered, outputs_filtered}
use Rattle.ae_correct.proofs.ModulePorts.{mapped_at, column_at}

numbered_at : {X : Type 0} (xs : List X) (j k : ℕ) (x : X) → slice_get xs k ≡ Some x → slice_get (enumerate_from j xs) k ≡ Some (j + k, x)
numbered_at [] j k x h = absurd (none-some x h)
numbered_at (y ∷ xs) j zero x h = let z : j ≡ j + 0 = omega arith in λ i. Some (z i, same_Some y x h i)
numbered_at (y ∷ xs) j (suc k) x h = let e : j + 1 + k ≡ j + suc k = omega arith in numbered_at xs (j + 1) k x h ∙ ap (λ i. Some (i, x)) e

module _ (lines : ℕ → ℕ) (n : Circuit) (many : ℕ) (ins outs : List SizedPort) (h : HavePorts n.cells n.outlets ins outs) (run : List ModuleClock)
    (other : List Clock) where
  -- an input
  pub input_alike : BeginAlike (tree lines n.cells n.outlets many ins outs h) n run other → (t k : ℕ) (p : SizedPort) → t < length run
      → slice_get ins k ≡ Some p → (clock_at run t).word (port_name 1 p.port) ≡ word_at other t k
  input_alike alike t k p below at =
      let c : ModuleClock = clock_at run t in
      let word : NetTree → ℕ = λ x. c.word x.name in
      let numbered : ℕ × SizedCell → ℕ = λ x. word_at other t x.0 in
      let left : slice_get (map word (map in_net ins)) k ≡ Some (c.word (port_name 1 p.port)) = mapped_at word (map in_net ins) k (in_net p)
      (mapped_at in_net ins k p at) in
      let right : slice_get (map numbered (enumerate_from 0 (map input_cell ins))) k ≡ Some (word_at other t (0 + k)) =
      mapped_at numbered (enumerate_from 0 (map input_cell ins)) k (0 + k, input_cell p)
      (numbered_at (map input_cell ins) 0 k (input_cell p) (mapped_at input_cell ins k p at)) in
      let same : map word (map in_net ins) ≡ map numbered (enumerate_from 0 (map input_cell ins)) =
      ap (map word) (sym (inputs_filtered lines n.cells n.outlets many ins outs h)) ∙ alike.inputs t below ∙
      ap (map numbered) (numbered_inputs n.cells ins h.inputs) in
      let z : 0 + k ≡ k = omega arith in
      same_Some _ _ (sym left ∙ ap (λ ws. slice_get ws k) same ∙ right) ∙ ap (word_at other t) z

  -- an output
  pub output_alike : HaveEqualOutputs (tree lines n.cells n.outlets many ins outs h) n run other → (t k : ℕ) (p : SizedPort) → t < length run
      → slice_get outs k ≡ Some p → (clock_at run t).word (port_name many p.port) ≡ word_at other t (outlet_net n.outlets k)
  output_alike equal t k p below at =
      let c : ModuleClock = clock_at run t in
      let word : NetTree → ℕ = λ x. c.word x.name in
      let shown : Outlet → ℕ = λ o. word_at other t o.net.0 in
      let within : k < length outs = slice_get_within outs k p at in
      let o = entry-at n.outlets k (omega (arith, within, ap length h.outputs, length-map n.outlets (outlet_port n.cells))) in
      let left : slice_get (map word (map (out_net many) outs)) k ≡ Some (c.word (port_name many p.port)) = mapped_at word (map (out_net many) outs) k
      (out_net many p) (mapped_at (out_net many) outs k p at) in
      let right : slice_get (map shown n.outlets) k ≡ Some (word_at other t o.0.net.0) = mapped_at shown n.outlets k o.0 o.1 in
      let same : map word (map (out_net many) outs) ≡ map shown n.outlets = ap (map word) (sym (outputs_filtered lines n.cells n.outlets many ins outs h)) ∙
      equal.outputs t below in
      let net : outlet_net n.outlets k ≡ o.0.net.0 =
      ap (λ (x : Option NetId). (unwrap_or x (record { 0 = 0 })).0) (mapped_at (λ (x : Outlet). x.net) n.outlets k o.0 o.1) in
      same_Some _ _ (sym left ∙ ap (λ ws. slice_get ws k) same ∙ right) ∙ ap (word_at other t) (sym net)

-- a reset run of the module is one of the netlist, whose first input is the reset
pub resets : (lines : ℕ → ℕ) → (n : Circuit) (many : ℕ) (ins outs : List SizedPort) (h : HavePorts n.cells n.outlets (reset_port ∷ ins) outs)
    (run : List ModuleClock) (other : List Clock) (start : ℕ)
    → BeginAlike (tree lines n.cells n.outlets many (reset_port ∷ ins) outs h) n run other
    → IsResetRun (tree lines n.cells n.outlets many (reset_port ∷ ins) outs h) run start → IsReset other 0 start
resets lines n many ins outs h run other start alike r =
    let long : length run ≡ length other = alike.long in
    let same : (t : ℕ) → t < length run → (clock_at run t).word (codes "rst") ≡ word_at other t 0 = λ t below. input_alike lines n many
    (reset_port ∷ ins) outs h run other alike t 0 reset_port below refl in
    record {
      some = r.some;
      high = λ t early below. (let b : t < length run = omega (arith, below, long) in sym (same t b) ∙ r.high t early b);
      low = λ t late below. (let b : t < length run = omega (arith, below, long) in sym (same t b) ∙ r.low t late b);
    }

-- a column of a parameter's ports
pub column_in : (lines : ℕ → ℕ) → (n : Circuit) (many : ℕ) (ss : List StTree) (outs : List SizedPort)
    (h : HavePorts n.cells n.outlets (reset_port ∷ net_side.input_ports (streams_of ss)) outs) (run : List ModuleClock) (other : List Clock)
    → BeginAlike (tree lines n.cells n.outlets many (reset_port ∷ net_side.input_ports (streams_of ss)) outs h) n run other → (t q column : ℕ) (s : StTree)
    → t < length run → slice_get ss q ≡ Some s → column < length (stream_widths (stream_of s))
    → (clock_at run t).word (unwrap_or (slice_get (map name_of (param_ports q s)) column) []) ≡ word_at other t
    (1 + columns_in (take q (streams_of ss)) + column)
column_in lines n many ss outs h run other alike t q column s below found small =
    let at : ℕ → ℕ → ℕ → Port = λ param lane word. In param lane word in
    let c = column_at 1 false (at q) s column small in
    let z : q ≡ 0 + q = omega arith in
    let there : slice_get (net_side.input_ports (streams_of ss)) (columns_in (take q (streams_of ss)) + column) ≡ Some c.port =
    port_there at 0 (streams_of ss) q column (stream_of s) c.port (mapped_at stream_of ss q s found)
    (ap (λ i. slice_get (stream_ports (at i) (stream_of s)) column) (sym z) ∙ c.here) in
    let place : suc (columns_in (take q (streams_of ss)) + column) ≡ 1 + columns_in (take q (streams_of ss)) + column = omega arith in
    ap ((clock_at run t).word) c.named
    ∙ input_alike lines n many (reset_port ∷ net_side.input_ports (streams_of ss)) outs h run other alike t
    (suc (columns_in (take q (streams_of ss)) + column)) c.port below there
    ∙ ap (word_at other t) place

-- a column of a result's ports
pub column_out : (lines : ℕ → ℕ) → (n : Circuit) (many : ℕ) (rs : List StTree) (ins : List SizedPort)
    (h : HavePorts n.cells n.outlets ins (net_side.output_ports (streams_of rs))) (run : List ModuleClock) (other : List Clock)
    → HaveEqualOutputs (tree lines n.cells n.outlets many ins (net_side.output_ports (streams_of rs)) h) n run other → (t q column : ℕ) (s : StTree)
    → t < length run → slice_get rs q ≡ Some s → column < length (stream_widths (stream_of s))
    → (clock_at run t).word (unwrap_or (slice_get (map name_of (result_ports many q s)) column) []) ≡ word_at other t
    (outlet_net n.outlets (columns_in (take q (streams_of rs)) + column))
column_out lines n many rs ins h run other equal t q column s below found small =
    let at : ℕ → ℕ → ℕ → Port = λ result lane word. Out result lane word in
    let c = column_at many true (at q) s column small in
    let z : q ≡ 0 + q = omega arith in
    let there : slice_get (net_side.output_ports (streams_of rs)) (columns_in (take q (streams_of rs)) + column) ≡ Some c.port =
    port_there at 0 (streams_of rs) q column (stream_of s) c.port (mapped_at stream_of rs q s found)
    (ap (λ i. slice_get (stream_ports (at i) (stream_of s)) column) (sym z) ∙ c.here) in
    ap ((clock_at run t).word) c.named ∙ output_alike lines n many ins (net_side.output_ports (streams_of rs)) h run other equal t
    (columns_in (take q (streams_of rs)) + column) c.port below there
