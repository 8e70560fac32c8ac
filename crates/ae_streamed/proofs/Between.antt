-- A marked circuit with a control around it stands between two channels.
use Rattle.std.proofs.Common.{ℕ, zero, suc, ◌≡◌, ◌+◌, ◌*◌, ◌/◌, ◌%◌, ◌-◌, ◌<◌, ◌≤◌, Bool, true, false, List, [], ◌∷◌, length, map, sum_by, Some, slice_get, drop, unwrap_or, arith, refl, sym, ap, ◌∙◌, subst}
use Rattle.std.specs.Prelude.{◌||◌, ◌==◌, nat_lt, if◌then◌else◌}
use Rattle.std.proofs.lemmas.List.{length-map}
use Rattle.std.proofs.Math.Nat.{div-le_self}
use Rattle.std.proofs.lemmas.Nat.{div-add-mod', div_below, mod_below}
use Rattle.ae_seq.specs.ProgramTree.{ProgramTree}
use Rattle.ae_sttype.specs.StTree.{StTree}
use Rattle.ae_sttype.specs.Moves.{columns_of}
use Rattle.ae_netlist.specs.declared.cell.Outlet.{Outlet}
use Rattle.ae_netlist.specs.declared.cell.SizedCell.{SizedCell}
use Rattle.ae_netlist.specs.Circuit.{Circuit, HaveNets, IsFormed, IsNet}
use Rattle.ae_netlist.specs.Counts.{is_input}
use Rattle.ae_netlist.proofs.Growing.{extends_length}
use Rattle.ae_netlist.specs.Runs.{Clock, HasOneRun, IsReset, IsRun, no_clock, word_at}
use Rattle.ae_gates.specs.Cells.{Adds, Grows}
use Rattle.ae_gates.proofs.Fits.{held_fits}
use Rattle.ae_rewrite.specs.Blocks.{MakesBlocks, outlet_net}
use Rattle.ae_stall.specs.Held.{inner_clock}
use Rattle.ae_stall.specs.Images.{bit_input, placed, placed_net, with_inputs}
use Rattle.ae_stream.specs.Queue.{next_a}
use Rattle.ae_stream.specs.Streams.{Ends, Stays, Streams, bit, is_beat, is_transfer}
use Rattle.ae_stream.specs.Control.{AreWithin, BySteps, Control, IsInside, steps_before, word_in}
use Rattle.ae_stream.specs.Driven.{IsDriven, late_clock}
use Rattle.ae_stream.specs.Fed.{CanBeFed}
use Rattle.ae_stream.specs.Laws.{DrivenCircuitsGoOn, DrivenCircuitsKeepWords, DrivenCircuitsStream, HeldCircuitsAreInside, HeldMarksAreSeen, WiredControlsAreDriven, WiredControlsHaveNoPaths}
use Rattle.ae_stream.specs.Paths.{HasNoPaths, IsComplete}
use Rattle.ae_stream.specs.Progress.{GoesOn}
use Rattle.ae_stream.specs.Wired.{AreQueued, FromEach, IsMarked, IsWired}
use Rattle.ae_streamed.specs.declared.marking.Marks.{Marks}
use Rattle.ae_streamed.specs.Beats.{HasMarks, IsBitOf}
use Rattle.ae_streamed.specs.Between.{IsStream, IsWrapped, channel_ends, channel_inputs, copied_nets, ports_of, sink_valid, source_ready, wires_of}
use Rattle.ae_control.specs.Columns.{net_at}
use Rattle.ae_streamed.specs.Count.{mark_cells}
use Rattle.ae_control.specs.Controls.{control_of, ends_of}
use Rattle.ae_control.proofs.Cells.{same_cells}
use Rattle.ae_streamed.proofs.Phasing.{bit_of}
use Rattle.ae_gates.proofs.Added.{net_within}

-- ---- outputs

-- where the copy has the net of an output
made_at : (outlets : List Outlet) (q : ℕ) → net_at (copied_nets outlets) q ≡ placed 2 (outlet_net outlets q)
made_at [] q = refl
made_at (o ∷ outlets) zero = refl
made_at (o ∷ outlets) (suc q) = made_at outlets q

outlet_found : (outlets : List Outlet) (q : ℕ) → q < length outlets → (o : Outlet) × (slice_get outlets q ≡ Some o) × (outlet_net outlets q ≡ o.net.0)
outlet_found [] q l = absurd (omega arith)
outlet_found (o ∷ outlets) zero l = (o, refl, refl)
outlet_found (o ∷ outlets) (suc q) l = outlet_found outlets q (omega arith)

outlet_within : (n : Circuit) → HaveNets n.cells n.outlets → (q : ℕ) → q < length n.outlets → outlet_net n.outlets q < length n.cells
outlet_within n have q l =
    let o = outlet_found n.outlets q l in
    subst (λ k. k < length n.cells) (sym o.2) (net_within (have.each q o.0 o.1))

or_left : (a b : Bool) → a ≡ true → (a || b) ≡ true
or_left true b h = refl
or_left false b h = (let e : false ≡ true = h in absurd (grind (arith, e)))

first_inputs : (q : ℕ) → 3 + q ≡ placed 2 (1 + q)
first_inputs q =
    let e : 1 + q ≡ suc q = omega arith in
    let f : 3 + q ≡ suc (2 + q) = omega arith in
    f ∙ sym (ap (placed 2) e)

module _ (n marked new : Circuit) (m : Marks) (slowdown latency wait : ℕ) (inputs outputs : List StTree)
    (some : 0 < slowdown) (formed : IsFormed n.cells) (have : HaveNets n.cells n.outlets) (one : HasOneRun n.cells)
    (adds : Adds n marked (mark_cells inputs outputs) 0) (formed_marked : IsFormed marked.cells)
    (marks : HasMarks marked.cells m slowdown (latency % slowdown) inputs outputs) (wrapped : IsWrapped marked new m (latency / slowdown) wait)
    (waits : (c : ℕ) → is_beat outputs c ≡ true → latency + c < suc wait * slowdown)
    (ins : AreWithin inputs slowdown (sum_by columns_of inputs)) (outs : AreWithin outputs slowdown (sum_by columns_of outputs))
    (fits : sum_by columns_of inputs < length n.cells) (shows : length n.outlets ≡ sum_by columns_of outputs) (any : 0 < sum_by columns_of outputs)
    (lies_inside : HeldCircuitsAreInside) (are_seen : HeldMarksAreSeen) (are_driven : WiredControlsAreDriven) (they_stream : DrivenCircuitsStream)
    (they_keep : DrivenCircuitsKeepWords) (they_go_on : DrivenCircuitsGoOn)
    (they_have_no_paths : WiredControlsHaveNoPaths) where
  abbrev columns : ℕ
  columns = length n.outlets

  abbrev second : ℕ → ℕ
  second k = wrapped.at + 4 * k + 1

  -- the control, and its ends
  abbrev x : Control
  x = control_of wrapped.by wrapped.control.takes wrapped.control.here wrapped.control.shows (net_at (copied_nets marked.outlets)) second

  abbrev own : Ends
  own = ends_of (wires_of m) wrapped.by (sum_by columns_of inputs) columns (λ q. 3 + q) (λ q. outlet_net new.outlets (2 + q))

  own_is : own ≡ channel_ends (sum_by columns_of inputs) columns new.outlets
  own_is =
      ap (λ k. record own { source = record { valid = 1; ready = k } }) (sym wrapped.shown.asks)
      ∙ ap (λ k. record own { source = record { valid = 1; ready = outlet_net new.outlets 0 }; sink = record { valid = k; ready = 2 } }) (sym wrapped.shown.one)

  grows : Grows n marked
  grows = adds.grows

  long : length n.cells ≤ length marked.cells
  long = extends_length n.cells marked.cells grows.extends

  module _ (run : List Clock) (start : ℕ) (r : IsRun new.cells run) (reset : IsReset run 0 start) where
    keeps : (k : ℕ) (sized : SizedCell) → length marked.cells + 2 ≤ k → slice_get new.cells k ≡ Some sized → slice_get new.cells k ≡ Some sized
    keeps k sized low h = h

    wired : IsWired x wrapped.control.gates wrapped.control.row own (placed 2 m.wants.0) (latency / slowdown) wait run
    wired = wrapped.control.wired (net_at (copied_nets marked.outlets)) second (λ q. 3 + q) (λ q. outlet_net new.outlets (2 + q))
        (sum_by columns_of inputs) columns new.cells keeps run r

    queued : AreQueued x own run
    queued =
        let q = wrapped.columns.queued (wires_of m) wrapped.control.takes wrapped.control.here wrapped.control.shows (sum_by columns_of inputs)
        (λ q. 3 + q) new.cells
        (λ k sized low h. h) run r (wrapped.control.moves new.cells keeps run r) in
        let size : length (copied_nets marked.outlets) ≡ columns = length-map marked.outlets (λ (o : Outlet). placed_net 2 o.net) ∙ ap length grows.outlets in
        let same : length marked.outlets ≡ columns = ap length grows.outlets in
        record {
          shown = λ k l.
              let at : outlet_net new.outlets (2 + k) ≡ wrapped.at + 4 * k = wrapped.shown.columns k (omega (arith, same, l)) in
              subst (λ y. FromEach (λ c next. word_in y next ≡ next_a (bit x.one c) (bit x.two c) (is_transfer own.sink c) (word_in y c)
              (word_in (x.second k) c) (word_in (x.made k) c)) run)
              (sym at) (q.shown k (omega (arith, size, l)));
          second = λ k l. q.second k (omega (arith, size, l));
        }

    inside : IsInside x own n (inner_clock 2 (length n.cells)) run
    inside = lies_inside x own n marked wrapped.copied new (record {
      formed = formed;
      first = grows.extends;
      some = omega (arith, fits);
      held = wrapped.held;
      longer = wrapped.longer;
      ins = λ q b. (omega (arith, b, fits), first_inputs q);
      outs = λ q b. (outlet_within n have q b, ap (λ o. net_at (copied_nets o) q) grows.outlets ∙ made_at n.outlets q);
    }) run r

    reset_there : IsReset run wrapped.control.gates.reset start
    reset_there = subst (λ y. IsReset run y start) (sym wrapped.control.reset) reset

    on : (t : ℕ) → t < start → t < length run → bit x.enable (unwrap_or (slice_get run t) no_clock) ≡ true
    unfolding word_at
    on t b l =
        (wired.gates t l).enable
        ∙ or_left (bit wrapped.control.gates.reset (unwrap_or (slice_get run t) no_clock)) _ (high t b l)
      where
        high : (t : ℕ) → t < start → t < length run → bit wrapped.control.gates.reset (unwrap_or (slice_get run t) no_clock) ≡ true
        high t b l = ap (λ k. k == 1) (reset_there.high t b l)

    seen : (y : ℕ) (passes : ℕ → Bool) → IsBitOf marked.cells 0 y passes → BySteps x start run (bit (placed 2 y)) passes
    seen y passes h t l =
        bit_of (passes (steps_before x start run t)) (word_in (placed 2 y) (unwrap_or (slice_get (drop start run) t) no_clock))
        (are_seen x marked wrapped.copied new formed_marked (omega (arith, fits, long)) wrapped.held wrapped.longer run start r reset on y
        (λ c. if passes c then 1 else 0) (net_within h.net) h.words t l)

    marked_run : IsMarked x wrapped.control.gates wrapped.control.row (placed 2 m.wants.0) run start slowdown (latency % slowdown) inputs outputs
    marked_run = record {
      first = subst (λ y. BySteps x start run (bit y) (λ t. t % slowdown == 0)) (sym wrapped.control.first) (seen m.first.0 _ marks.first);
      last = subst (λ y. BySteps x start run (bit y) (λ t. t % slowdown == slowdown - 1)) (sym wrapped.control.last) (seen m.last.0 _ marks.last);
      wants = seen m.wants.0 _ marks.wants;
      late = subst (λ y. BySteps x start run (bit y) (λ t. is_beat outputs (late_clock slowdown (latency % slowdown) (t % slowdown))))
          (sym wrapped.control.late) (seen m.late.0 _ marks.late);
      behind = subst (λ y. BySteps x start run (bit y) (λ t. nat_lt (t % slowdown) (latency % slowdown))) (sym wrapped.control.behind)
          (seen m.behind.0 _ marks.behind);
    }

    driven : IsDriven x wrapped.control.gates wrapped.control.row own run start slowdown (latency / slowdown) (latency % slowdown) inputs outputs
    driven = are_driven x wrapped.control.gates wrapped.control.row own (placed 2 m.wants.0) wait run start slowdown (latency / slowdown)
        (latency % slowdown) inputs outputs
        (omega (arith, shows, any)) (λ c y. omega (arith, waits c y, div-add-mod' latency slowdown)) ins.first reset_there wired queued marked_run

    streams_own : (p : ProgramTree) → CanBeFed n.cells p inputs → MakesBlocks n p slowdown latency inputs outputs
        → Streams own run start p slowdown inputs outputs
    streams_own p fed makes = they_stream x wrapped.control.gates wrapped.control.row own n (inner_clock 2 (length n.cells)) run start slowdown
        (latency / slowdown) (latency % slowdown) p inputs outputs
        some (mod_below latency slowdown some) ins (subst (AreWithin outputs slowdown) (sym shows) outs) one fed
        (subst (λ k. MakesBlocks n p slowdown k inputs outputs) (sym (div-add-mod' latency slowdown)) makes) reset inside driven

    stays_own : Stays own columns run start
    stays_own = they_keep x wrapped.control.gates wrapped.control.row own run start slowdown (latency / slowdown)
        (latency % slowdown) inputs outputs driven refl

    goes_on_own : GoesOn own run start slowdown latency inputs outputs
    goes_on_own = subst (λ k. GoesOn own run start slowdown k inputs outputs) (div-add-mod' latency slowdown)
        (they_go_on x wrapped.control.gates wrapped.control.row own run start slowdown (latency / slowdown) (latency % slowdown) inputs outputs some
        (mod_below latency slowdown some) ins.first driven refl)

    complete : IsComplete x wrapped.control.gates wrapped.control.row own (placed 2 m.wants.0) (latency / slowdown) wait run start slowdown
        (latency % slowdown) inputs outputs
    complete = record {
      wired = wired;
      queued = queued;
      marked = marked_run;
      asks = λ t l. held_fits new.cells run t wrapped.by.asks.0 1 r l wrapped.asks;
      stands = λ t l. held_fits new.cells run t wrapped.by.one.0 1 r l wrapped.stands;
    }

  no_paths_own : (a b : List Clock) (start : ℕ) → IsRun new.cells a → IsReset a 0 start → IsRun new.cells b → IsReset b 0 start → HasNoPaths own a b start
  no_paths_own a b start ra reset rb reset_b =
      they_have_no_paths x wrapped.control.gates wrapped.control.row own (placed 2 m.wants.0) wait a b start slowdown (latency / slowdown)
      (latency % slowdown) inputs outputs reset.some
      (complete a start ra reset) (complete b start rb reset_b)

  pub is_stream : IsStream n new slowdown latency inputs outputs
  is_stream = record {
    valid = wrapped.valid;
    ready = wrapped.ready;
    input_ports = wrapped.inputs ∙ ap (with_inputs (map bit_input channel_inputs)) (same_cells is_input n.cells marked.cells grows.extends grows.inputs);
    ports = wrapped.shown.ports ∙ ap (λ o. source_ready ∷ sink_valid ∷ ports_of o) grows.outlets;
    asks = subst (λ k. IsNet new.cells k 1) (sym wrapped.shown.asks) wrapped.asks;
    stands = subst (λ k. IsNet new.cells k 1) (sym wrapped.shown.one) wrapped.stands;
    streams = λ p fed makes run start r reset. subst (λ e. Streams e run start p slowdown inputs outputs) own_is (streams_own run start r reset p fed makes);
    stays = λ run start r reset. subst (λ e. Stays e columns run start) own_is (stays_own run start r reset);
    goes_on = λ run start r reset. subst (λ e. GoesOn e run start slowdown latency inputs outputs) own_is (goes_on_own run start r reset);
    no_paths = λ a start ra reset b rb reset_b. subst (λ e. HasNoPaths e a b start) own_is (no_paths_own a b start ra reset rb reset_b);
    few = omega (arith, wrapped.few, adds.cells, ap length grows.outlets);
    muls = omega (arith, wrapped.muls, adds.muls);
    whole = λ w. wrapped.whole (adds.whole w);
  }

-- a circuit and the same with another limit
pub same_stream : (n new : Circuit) (slowdown latency limit : ℕ) (inputs outputs : List StTree)
    → IsStream (record n { limit = limit }) new slowdown latency inputs outputs → IsStream n new slowdown latency inputs outputs
same_stream n new slowdown latency limit inputs outputs h = record {
  valid = h.valid;
  ready = h.ready;
  input_ports = h.input_ports;
  ports = h.ports;
  asks = h.asks;
  stands = h.stands;
  streams = λ p fed m. h.streams p fed (record { makes = m.makes });
  stays = h.stays;
  goes_on = h.goes_on;
  no_paths = h.no_paths;
  few = h.few;
  muls = h.muls;
  whole = h.whole;
}

-- no more blocks than the latency has, and one
pub wait_few : (latency slowdown last : ℕ) → 0 < slowdown → last < slowdown → (latency + last) / slowdown ≤ latency / slowdown + 1
wait_few latency slowdown last some low =
    omega (
      arith,
      div_below (latency + last) slowdown (latency / slowdown + 2) some
          (omega (arith, div-add-mod' latency slowdown, mod_below latency slowdown some, low)),
    )

-- enough blocks for the last result of each
pub wait_long : (latency slowdown last c : ℕ) → 0 < slowdown → c ≤ last → latency + c < suc ((latency + last) / slowdown) * slowdown
wait_long latency slowdown last c some low =
    let d : ℕ = (latency + last) / slowdown in
    let wide : suc d * slowdown ≡ d * slowdown + slowdown = omega arith in
    omega (arith, wide, div-add-mod' (latency + last) slowdown, mod_below (latency + last) slowdown some, low)

pub blocks_few : (latency slowdown : ℕ) → 0 < slowdown → latency / slowdown ≤ latency
blocks_few latency slowdown some = div-le_self latency slowdown
