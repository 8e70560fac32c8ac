-- The module of a stalled circuit keeps the blocks in its enabled clocks.
use Rattle.std.proofs.Common.{ℕ, suc, ◌≡◌, ◌+◌, ◌*◌, ◌<◌, ◌≤◌, List, [], ◌∷◌, ◌++◌, length, map, take, Option, Some, slice_get, true, false, arith, refl, ap, sym, ◌∙◌}
use Rattle.std.specs.Prelude.{codes, ◌==◌, unwrap_or}
use Rattle.std.specs.List.{filter}
use Rattle.std.proofs.lemmas.List.{length-map, map-append}
use Rattle.std.proofs.lemmas.Nat.{row_fits}
use Rattle.std.proofs.lemmas.Option.{slice_get_within, unwrap_or-slice_get}
use Rattle.ae_seqtype.specs.ValueTree.{ValueTree, flat}
use Rattle.ae_sttype.specs.StTree.{StTree, time}
use Rattle.ae_netlist.specs.declared.cell.NetId.{NetId}
use Rattle.ae_netlist.specs.declared.cell.Port.{Port}
use Rattle.ae_netlist.specs.declared.cell.Port.TheVariants.{In, Out}
use Rattle.ae_netlist.specs.declared.cell.Outlet.{Outlet}
use Rattle.ae_netlist.specs.declared.cell.SizedCell.{SizedCell}
use Rattle.ae_netlist.specs.Counts.{is_input}
use Rattle.std.proofs.lemmas.List.Sums.{count_by-le-length}
use Rattle.ae_netlist.specs.Circuit.{Circuit}
use Rattle.ae_netlist.specs.Runs as netlist
use Rattle.ae_netlist.specs.Runs.{Clock, no_clock, word_at}
use Rattle.ae_netlist.proofs.OrElse.{or_map, shaped_at}
use Rattle.ae_vmodule.specs.ModuleTree.{ModuleTree}
use Rattle.ae_runs.specs.Values.{ModuleClock}
use Rattle.ae_runs.specs.Runs.{IsResetRun, clock_at, idle_clock}
use Rattle.ae_runs.specs.Runs as module_runs
use Rattle.ae_runs.specs.SameRuns.{BeginAlike, HaveEqualOutputs, HasSameRuns}
use Rattle.ae_verilog.specs.NetlistModule.{netlist_module, port_name}
use Rattle.ae_ops.specs.Blocks.{stream_of, stream_widths}
use Rattle.ae_seq.specs.ProgramTree.{ProgramTree}
use Rattle.ae_seq.specs.Meaning.{at, mean}
use Rattle.ae_eval.proofs.Items.{entry-at}
use Rattle.ae_rewrite.specs.Blocks.{outlet_net}
use Rattle.ae_rewrite.specs.Scheduled.{IsFilling}
use Rattle.ae_delay.specs.declared.own.OwnCosts.{OwnCosts}
use Rattle.ae_ports.specs.CircuitFor.{IsCircuitFor}
use Rattle.ae_ports.specs.Ports.{SizedPort, columns_in, outlet_port, reset_port, streams_of}
use Rattle.ae_ports.specs.Ports as net_side
use Rattle.ae_ports.proofs.Columns.{map_map}
use Rattle.ae_correct.specs.Correct.{ModulePort, BundlesHold, KeepsBlocks, param_ports, name_of, result_ports, port_of, ports_of, wave}
use Rattle.ae_correct.proofs.Clocks.{input_alike, output_alike}
use Rattle.ae_correct.proofs.Keeps.{circuit_ports, holds_alike, ins_of, outs_of, keeps}
use Rattle.ae_correct.specs.Laws.{IsLaidOut}
use Rattle.ae_correct.proofs.Laid.{ins_filling, outs_filling}
use Rattle.ae_correct.proofs.ModuleClock.{clocked}
use Rattle.ae_correct.proofs.ModulePorts.{column_at, from_are, mapped_at}
use Rattle.ae_correct.proofs.Nets.{HavePorts, in_net, out_net, ports_filtered}
use Rattle.ae_correct.proofs.Places.{port_there}
use Rattle.ae_stall.specs.Images.{renumbered, moved_outlet}
use Rattle.ae_stall.proofs.Lists.{without_at}
use Rattle.ae_stall.specs.Stalled.{IsStalled, clock_without, enabled_part, is_enabled}
use Rattle.ae_stalled.specs.Correct.{AreReset, IsCorrectStalled, KeepsEnabledBlocks, enable_name, enabled_clocks, stalled_ports}
use Rattle.ae_stalled.proofs.Enabled.{AreAligned, aligned}
use Rattle.ae_stalled.proofs.Ports.{enable_port, moved_port, stalled_ports_are}

-- ---- the name of a column is that of a port

record IsNamed (many : ℕ) (ports : List SizedPort) (named : List ℕ) : Type 0 where
  place : ℕ
  port : SizedPort
  there : slice_get ports place ≡ Some port
  is : named ≡ port_name many port.port

named_in : (ss : List StTree) (q column : ℕ) (s : StTree) → slice_get ss q ≡ Some s → column < length (stream_widths (stream_of s))
    → IsNamed 1 (reset_port ∷ net_side.input_ports (streams_of ss)) (unwrap_or (slice_get (map name_of (param_ports q s)) column) [])
named_in ss q column s found small =
    let at : ℕ → ℕ → ℕ → Port = λ param lane word. In param lane word in
    let c = column_at 1 false (at q) s column small in
    let z : q ≡ 0 + q = omega arith in
    record {
      place = suc (columns_in (take q (streams_of ss)) + column);
      port = c.port;
      there = port_there at 0 (streams_of ss) q column (stream_of s) c.port (mapped_at stream_of ss q s found)
          (ap (λ i. slice_get (net_side.stream_ports (at i) (stream_of s)) column) (sym z) ∙ c.here);
      is = c.named;
    }

named_out : (many : ℕ) (rs : List StTree) (q column : ℕ) (s : StTree) → slice_get rs q ≡ Some s → column < length (stream_widths (stream_of s))
    → IsNamed many (net_side.output_ports (streams_of rs)) (unwrap_or (slice_get (map name_of (result_ports many q s)) column) [])
named_out many rs q column s found small =
    let at : ℕ → ℕ → ℕ → Port = λ result lane word. Out result lane word in
    let c = column_at many true (at q) s column small in
    let z : q ≡ 0 + q = omega arith in
    record {
      place = columns_in (take q (streams_of rs)) + column;
      port = c.port;
      there = port_there at 0 (streams_of rs) q column (stream_of s) c.port (mapped_at stream_of rs q s found)
          (ap (λ i. slice_get (net_side.stream_ports (at i) (stream_of s)) column) (sym z) ∙ c.here);
      is = c.named;
    }

module _ (lines : ℕ → ℕ) (p : ProgramTree) (slowdown : ℕ) (costs : OwnCosts) (ins outs : List StTree) (n new : Circuit) (laid : IsLaidOut p slowdown ins outs)
    (c : IsCircuitFor p slowdown costs ins outs n) (still : IsStalled n new)
    (plain_same : HasSameRuns (netlist_module lines n.cells n.outlets (length outs)) n)
    (same : HasSameRuns (netlist_module lines new.cells new.outlets (length outs)) new) where
  old_ports : HavePorts n.cells n.outlets (ins_of ins) (outs_of outs)
  old_ports = circuit_ports p slowdown costs ins outs n c

  new_ports : HavePorts new.cells new.outlets (reset_port ∷ enable_port ∷ net_side.input_ports (streams_of ins)) (outs_of outs)
  new_ports = stalled_ports_are n new reset_port (net_side.input_ports (streams_of ins)) (outs_of outs) still c.shown old_ports

  abbrev many : ℕ
  many = length outs

  abbrev tree : ModuleTree
  tree = netlist_module lines new.cells new.outlets (length outs)

  abbrev plain : ModuleTree
  plain = netlist_module lines n.cells n.outlets (length outs)

  outlet_at : (k : ℕ) (port : SizedPort) → slice_get (outs_of outs) k ≡ Some port → (outlet_net n.outlets k < length n.cells)
      × (outlet_net new.outlets k ≡ renumbered (outlet_net n.outlets k))
  outlet_at k port found =
      let net_of : Outlet → NetId = λ o. o.net in
      let within : k < length (outs_of outs) = slice_get_within (outs_of outs) k port found in
      let o = entry-at n.outlets k (omega (
        arith,
        within,
        ap (λ (l : List SizedPort). length l) old_ports.outputs,
        length-map n.outlets (outlet_port n.cells),
      )) in
      let left : outlet_net n.outlets k ≡ o.0.net.0 = ap (λ (x : Option NetId). (unwrap_or x (record { 0 = 0 })).0)
      (mapped_at net_of n.outlets k o.0 o.1) in
      let right : outlet_net (map moved_outlet n.outlets) k ≡ renumbered o.0.net.0 =
      ap (λ (x : Option NetId). (unwrap_or x (record { 0 = 0 })).0)
      (mapped_at net_of (map moved_outlet n.outlets) k (moved_outlet o.0) (mapped_at moved_outlet n.outlets k o.0 o.1)) in
      let net = c.shown.each k o.0 o.1 in
      let low : o.0.net.0 < length n.cells = slice_get_within n.cells o.0.net.0 net.sized net.found in
      (omega (arith, left), ap (λ (l : List Outlet). outlet_net l k) still.outputs ∙ (right ∙ ap renumbered (sym left)))

  -- a run of the module and one of its netlist
  module _ (run : List ModuleClock) (other : List Clock) (is_run : netlist.IsRun new.cells other) (alike : BeginAlike tree new run other)
      (equal : HaveEqualOutputs tree new run other) where
    abbrev clocks : List ModuleClock
    clocks = enabled_clocks run

    abbrev part : List Clock
    part = enabled_part (length n.cells) other

    tests : (t : ℕ) → t < length run → ((clock_at run t).word enable_name == 1) ≡ is_enabled (unwrap_or (slice_get other t) no_clock)
    unfolding word_at
    tests t l = ap (λ x. x == 1) (input_alike lines new many (reset_port ∷ enable_port ∷ net_side.input_ports (streams_of ins))
        (outs_of outs) new_ports run other alike t 1 enable_port l refl)

    pairs : AreAligned (λ (x : ModuleClock). x.word enable_name == 1) is_enabled idle_clock no_clock run other
    pairs = aligned (λ (x : ModuleClock). x.word enable_name == 1) is_enabled idle_clock no_clock run other alike.long tests

    part_long : length clocks ≡ length part
    unfolding enabled_clocks enabled_part
    part_long = pairs.long ∙ sym (length-map (filter is_enabled other) (clock_without (length n.cells)))

    -- where an enabled clock stands
    record IsThere (t : ℕ) : Type 0 where
      place : ℕ
      within : place < length run
      left : clock_at run place ≡ clock_at clocks t
      right : unwrap_or (slice_get part t) no_clock ≡ clock_without (length n.cells) (unwrap_or (slice_get other place) no_clock)

    there : (t : ℕ) → t < length clocks → IsThere t
    unfolding enabled_clocks enabled_part
    there t l =
        let q = pairs.each t l in
        record {
          place = q.at;
          within = q.within;
          left = q.left;
          right = or_map (clock_without (length n.cells)) (filter is_enabled other) t no_clock no_clock (omega (arith, pairs.long)) ∙
              ap (clock_without (length n.cells)) (sym q.right);
        }

    word_there : (t k : ℕ) (h : IsThere t) → k < length n.cells → word_at part t k ≡ word_at other h.place (renumbered k)
    unfolding word_at
    word_there t k h l =
        let shaped = shaped_at is_run h.place (let b = h.within in omega (arith, alike.long)) in
        let whole : Clock = unwrap_or (slice_get other h.place) no_clock in
        rw h.right (unwrap_or-slice_get (clock_without (length n.cells) whole).words k 0
        ∙ without_at (length n.cells) whole.words k 0 l (omega (arith, shaped.words, still.longer)) ∙ sym (unwrap_or-slice_get whole.words (renumbered k) 0))

    -- ---- a run of the module without the enable

    module _ (r : List ModuleClock) (begin : BeginAlike plain n r part) (shown : HaveEqualOutputs plain n r part) where
      long : length r ≡ length clocks
      long = begin.long ∙ sym part_long

      in_word : (t k : ℕ) (port : SizedPort) → t < length clocks → slice_get (ins_of ins) k ≡ Some port
          → (clock_at r t).word (port_name 1 port.port) ≡ (clock_at clocks t).word (port_name 1 port.port)
      in_word t k port l found =
          let h : IsThere t = there t l in
          let inside : k < length n.cells = omega (
            arith,
            slice_get_within (ins_of ins) k port found,
            old_ports.inputs.count,
            count_by-le-length (λ (x : SizedCell). is_input x.cell) n.cells,
          ) in
          input_alike lines n many (ins_of ins) (outs_of outs) old_ports r part begin t k port (omega (arith, long)) found
          ∙ (word_there t k h inside
          ∙ (sym (input_alike lines new many (reset_port ∷ enable_port ∷ net_side.input_ports (streams_of ins))
          (outs_of outs) new_ports run other alike h.place (renumbered k) port h.within
          (moved_port reset_port (net_side.input_ports (streams_of ins)) k port found))
          ∙ ap (λ (x : ModuleClock). x.word (port_name 1 port.port)) h.left))

      out_word : (t k : ℕ) (port : SizedPort) → t < length clocks → slice_get (outs_of outs) k ≡ Some port
          → (clock_at r t).word (port_name many port.port) ≡ (clock_at clocks t).word (port_name many port.port)
      out_word t k port l found =
          let h : IsThere t = there t l in
          let o = outlet_at k port found in
          let inside : outlet_net n.outlets k < length n.cells = o.0 in
          let net : outlet_net new.outlets k ≡ renumbered (outlet_net n.outlets k) = o.1 in
          output_alike lines n many (ins_of ins) (outs_of outs) old_ports r part shown t k port (omega (arith, long)) found
          ∙ (word_there t (outlet_net n.outlets k) h inside
          ∙ (ap (word_at other h.place) (sym net)
          ∙ (sym (output_alike lines new many (reset_port ∷ enable_port ∷ net_side.input_ports (streams_of ins))
          (outs_of outs) new_ports run other equal h.place k port h.within found)
          ∙ ap (λ (x : ModuleClock). x.word (port_name many port.port)) h.left)))

      -- blocks on the inputs, and on the outputs
      holds_in : (start k : ℕ) (block : List ValueTree) → start + (k + slowdown) ≤ length clocks → BundlesHold clocks start k param_ports ins block
          → BundlesHold r start k param_ports ins block
      holds_in start k block room held = record {
        each = λ q t found.
            let fill : IsFilling slowdown t = ins_filling p slowdown ins outs laid q t found in
            holds_alike k t (wave r start (param_ports q t)) (wave clocks start (param_ports q t)) (flat (at block q)) fill.size
            (λ clock column low high small.
            (let name : IsNamed 1 (ins_of ins) (unwrap_or (slice_get (map name_of (param_ports q t)) column) []) = named_in ins q column t found small in
            let full : time t ≡ slowdown = fill.time in
            ap (clock_at r (start + clock)).word name.is ∙ (in_word (start + clock) name.place name.port (omega (arith, full)) name.there ∙
            ap (clock_at clocks (start + clock)).word (sym name.is))))
            (held.each q t found);
      }

      holds_out : (start k : ℕ) (values : List ValueTree) → start + (k + slowdown) ≤ length clocks
          → BundlesHold r start k (result_ports (length outs)) outs values → BundlesHold clocks start k (result_ports (length outs)) outs values
      holds_out start k values room held = record {
        each = λ q t found.
            let fill : IsFilling slowdown t = outs_filling p slowdown ins outs laid q t found in
            holds_alike k t (wave clocks start (result_ports (length outs) q t)) (wave r start (result_ports (length outs) q t)) (flat (at values q)) fill.size
            (λ clock column low high small.
            (let name : IsNamed (length outs) (outs_of outs) (unwrap_or (slice_get (map name_of (result_ports (length outs) q t)) column) []) = named_out
            (length outs) outs q column t found small in
            let full : time t ≡ slowdown = fill.time in
            let named : unwrap_or (slice_get (map name_of (result_ports (length outs) q t)) column) [] ≡ port_name many name.port.port = name.is in
            ap (clock_at clocks (start + clock)).word named ∙ (sym (out_word (start + clock) name.place name.port (omega (arith, full)) name.there) ∙
            ap (clock_at r (start + clock)).word (sym named))))
            (held.each q t found);
      }

      resets : (start : ℕ) → module_runs.IsModuleRun plain r → AreReset clocks start → IsResetRun plain r start
      resets start runs h = record {
        run_of = runs;
        some = h.some;
        high = λ t early below. in_word t 0 reset_port (omega (arith, long)) refl ∙ h.high t early (omega (arith, long));
        low = λ t late below. in_word t 0 reset_port (omega (arith, long)) refl ∙ h.low t late (omega (arith, long));
      }

  stalled_keeps : KeepsEnabledBlocks tree p slowdown costs.latency ins outs
  stalled_keeps = record {
    results = λ run start blocks is_run reset long given b block found.
        let w = same.of_module run is_run in
        let o = w.0 in
        let part_run : netlist.IsRun n.cells (enabled_part (length n.cells) o) = still.runs o w.1 in
        let v = plain_same.of_netlist (enabled_part (length n.cells) o) part_run in
        let r = v.0 in
        let inside : b < length blocks = slice_get_within blocks b block found in
        let fits : b * slowdown + slowdown ≤ length blocks * slowdown = row_fits b slowdown (length blocks) slowdown inside (omega arith) in
        let same_long = long_is run o w.1 w.2 w.3 r v.2 v.3 in
        let base : KeepsBlocks plain p slowdown costs.latency ins outs = keeps lines p slowdown costs.latency ins outs n
        (circuit_ports p slowdown costs ins outs n c) c.makes plain_same (ins_filling p slowdown ins outs laid) (outs_filling p slowdown ins outs laid) in
        holds_out run o w.1 w.2 w.3 r v.2 v.3 start (costs.latency + b * slowdown) (mean p block) (omega (arith, fits))
        (base.results r start blocks (resets run o w.1 w.2 w.3 r v.2 v.3 start v.1 reset) (omega (arith, same_long))
        (λ d other there. (let g = given d other there in
        let low : d < length blocks = slice_get_within blocks d other there in
        let room : d * slowdown + slowdown ≤ length blocks * slowdown = row_fits d slowdown (length blocks) slowdown low (omega arith) in
        (g.0, holds_in run o w.1 w.2 w.3 r v.2 v.3 start (d * slowdown) other (omega (arith, room)) g.1)))
        b block found);
  }
    where
      long_is : (run : List ModuleClock) (o : List Clock) (a : netlist.IsRun new.cells o) (b : BeginAlike tree new run o) (e : HaveEqualOutputs tree new run o)
          (r : List ModuleClock) (x : BeginAlike plain n r (enabled_part (length n.cells) o))
          (y : HaveEqualOutputs plain n r (enabled_part (length n.cells) o)) → length r ≡ length (enabled_clocks run)
      long_is run o a b e r x y = long run o a b e r x y

  faced : ports_of tree ≡ stalled_ports ins outs
  faced =
      let given : List SizedPort = net_side.input_ports (streams_of ins) in
      let clk : ModulePort = record { name = codes "clk"; width = 1; is_output = false } in
      let rst : ModulePort = record { name = codes "rst"; width = 1; is_output = false } in
      let en : ModulePort = record { name = enable_name; width = 1; is_output = false } in
      ap (map port_of) (ports_filtered lines new.cells new.outlets many (reset_port ∷ enable_port ∷ given) (outs_of outs) new_ports)
      ∙ ap (λ ps. clk ∷ rst ∷ en ∷ ps) (map-append port_of (map in_net given) (map (out_net many) (outs_of outs)))
      ∙ (λ i. clk ∷ rst ∷ en ∷ (map_map port_of in_net given i ++ map_map port_of (out_net many) (outs_of outs) i))
      ∙ (λ i. clk ∷ rst ∷ en ∷ (from_are 1 false (λ param lane word. In param lane word) 0 ins i
      ++ from_are many true (λ result lane word. Out result lane word) 0 outs i))

  pub stalled_correct : IsCorrectStalled tree p slowdown costs.latency
  stalled_correct = record {
    named = refl;
    inputs = ins;
    outputs = outs;
    layouts = laid.layouts;
    ports = faced;
    clocked = clocked lines new.cells new.outlets (length outs);
    keeps = stalled_keeps;
  }
