-- A tidied circuit is the circuit of the same program.
use Rattle.std.proofs.Common.{ℕ, zero, suc, ◌≡◌, ◌+◌, ◌-◌, ◌<◌, ◌≤◌, List, [], ◌∷◌, length, length-append, map, take, take-take, get_or, inl, inr, Some, slice_get, cond, arith, refl, sym, ap, ◌∙◌}
use Rattle.std.proofs.lemmas.Bool.{cases_lt}
use Rattle.std.proofs.lemmas.List.{length-map, get_or_past, get_or-map}
use Rattle.std.proofs.lemmas.List.Sums.{length-filter, sum_by-cons}
use Rattle.std.specs.Option.{option_map}
use Rattle.std.proofs.lemmas.Option.{slice_get-get_or, slice_get-map, unwrap_or-slice_get}
use Rattle.std.proofs.Math.Seq.{take-length}
use Rattle.std.specs.Prelude.{unwrap_or}
use Rattle.ae_netlist.specs.declared.cell.NetId.{NetId}
use Rattle.ae_netlist.specs.declared.cell.Port.{Port}
use Rattle.ae_netlist.specs.declared.cell.Port.TheVariants.{Reset, In}
use Rattle.ae_netlist.specs.declared.cell.SizedCell.{SizedCell}
use Rattle.ae_netlist.specs.declared.cell.Outlet.{Outlet}
use Rattle.ae_netlist.specs.Circuit.{Circuit, width_of}
use Rattle.ae_netlist.specs.Counts.{IsNumbered, count_of, number_of, is_input}
use Rattle.ae_netlist.specs.Runs.{Clock, IsReset, IsRun, no_clock, word_at}
use Rattle.ae_netlist.proofs.Gets.{get_from_take}
use Rattle.ae_netlist.proofs.ReadAt.{word_got}
use Rattle.ae_sttype.specs.StTree.{StTree}
use Rattle.ae_sttype.specs.Size.{HasLengths}
use Rattle.ae_ops.specs.Blocks.{AllHold, BlockLaw, Stream, stream_of, stream_widths}
use Rattle.ae_tidy.specs.Tidied.{IsTidied, ShowTheSame, shown_ports}
use Rattle.ae_rewrite.specs.StProgramTree.{StFuncTree}
use Rattle.ae_rewrite.specs.Sound.{IsSoundFunc, item_layout, item_layouts}
use Rattle.ae_delay.specs.declared.own.OwnCosts.{OwnCosts}
use Rattle.ae_flow.specs.Flow.{flow, words_at}
use Rattle.ae_ports.specs.Ports.{columns_in, streams_of, SizedPort, input_cell, input_ports, input_waves, outlet_port, ports_from, reset_port, stream_ports}
use Rattle.ae_lower.specs.Circuits.{IsCircuitThat, MakesResults, last_of, result_streams}
use Rattle.ae_lower.specs.Lowering.{instance_costs}
use Rattle.ae_lower.specs.Parts.{plain_part}
use Rattle.ae_lower.specs.Ported.{IsPorted}
use Rattle.ae_rewrite.specs.Blocks.{input_wave, outlet_net, output_wave}
use Rattle.ae_lower.proofs.Inputs.{length-stream_ports}
use Rattle.ae_lower.proofs.Results.{holds_same}

-- ---- inputs

pub all_inputs : (ps : List SizedPort) (n : ℕ) → n ≤ length ps → count_of is_input (take n (map input_cell ps)) ≡ n
all_inputs ps zero l = refl
all_inputs [] (suc n) l = absurd (omega arith)
all_inputs (p ∷ ps) (suc n) l =
    let one : count_of is_input (input_cell p ∷ take n (map input_cell ps)) ≡ 1 + count_of is_input (take n (map input_cell ps)) = sum_by-cons
    (λ (x : SizedCell). cond {A = ℕ} (is_input x.cell) 1 0) (input_cell p) (take n (map input_cell ps)) in
    one ∙ omega (arith, all_inputs ps n (omega arith))

input_at : (cells : List SizedCell) (ps : List SizedPort) (n : ℕ) → take (length ps) cells ≡ map input_cell ps → n < length ps → IsNumbered is_input cells n n
input_at cells ps n e l =
    let p : SizedPort = get_or ps n reset_port in
    let there : slice_get (map input_cell ps) n ≡ Some (input_cell p) =
    slice_get-get_or (map input_cell ps) n (input_cell reset_port) (rw (length-map ps input_cell) l) ∙
    ap (λ (x : SizedCell). Some x) (get_or-map input_cell ps n reset_port (input_cell reset_port) l) in
    record {
      sized = input_cell p;
      found = get_from_take cells (length ps) n (input_cell p) (ap (λ (x : List SizedCell). slice_get x n) e ∙ there);
      is_kind = refl;
      place = ap (count_of is_input) (sym (take-take n (length ps) cells (omega arith)) ∙ ap (take n) e) ∙ all_inputs ps n (omega arith);
    }

-- ---- words

past : (run : List Clock) (t n : ℕ) → length run ≤ t → word_at run t n ≡ 0
unfolding no_clock
past run t n l = word_got run t n ∙ rw (get_or_past run t no_clock l) refl

-- the inputs have the same words in both runs
abbrev SameInputs : ℕ → List Clock → List Clock → Type 0
SameInputs many before after = (t n : ℕ) → n < many → word_at before t n ≡ word_at after t n

same_inputs : (old new : Circuit) (ps : List SizedPort) (before after : List Clock) → take (length ps) old.cells ≡ map input_cell ps
    → take (length ps) new.cells ≡ map input_cell ps → ShowTheSame old new before after → SameInputs (length ps) before after
same_inputs old new ps before after e f s t n l = elim (cases_lt t (length after)) [
  | inl b ↦ s.inputs t n n n b (input_at old.cells ps n e l) (input_at new.cells ps n f l)
  | inr b ↦ past before t n (omega (arith, s.long)) ∙ sym (past after t n b)
]

inputs_same : (before after : List Clock) (start many : ℕ) (at : ℕ → ℕ → ℕ → Port) (ts : List StTree) (first i k : ℕ) (vs : List (List ℕ))
    → SameInputs many before after → first + length (ports_from at i (streams_of ts)) ≤ many
    → ((j : ℕ) (t : StTree) → slice_get ts j ≡ Some t → HasLengths t) → AllHold k (streams_of ts) (input_waves after start first (streams_of ts)) vs
    → AllHold k (streams_of ts) (input_waves before start first (streams_of ts)) vs
inputs_same before after start many at [] first i k [] same few sized h = tt
inputs_same before after start many at [] first i k (v ∷ vs) same few sized h = absurd h
inputs_same before after start many at (t ∷ ts) first i k [] same few sized h = absurd h
inputs_same before after start many at (t ∷ ts) first i k (v ∷ vs) same few sized h =
    let s : Stream = stream_of t in
    let wide : length (stream_ports (at i) s) ≡ length (stream_widths s) = length-stream_ports (at i) s in
    let all : length (ports_from at i (streams_of (t ∷ ts))) ≡ length (stream_ports (at i) s) + length (ports_from at (i + 1) (streams_of ts)) = length-append
    (stream_ports (at i) s) (ports_from at (i + 1) (streams_of ts)) in (
      holds_same t (sized zero t refl) k (input_wave after start first) (input_wave before start first) v
          (λ c q l. same (start + c) (first + q) (omega arith)) h.0,
      inputs_same before after start many at ts (first + length (stream_widths s)) (i + 1) k vs same (omega arith) (λ j u f. sized (suc j) u f) h.1,
    )

-- ---- outputs

same_count : (old new : Circuit) → shown_ports new ≡ shown_ports old → length new.outlets ≡ length old.outlets
same_count old new e =
    sym (length-map new.outlets (λ (o : Outlet). pair o.port (width_of new.cells o.net.0))) ∙
    (ap (λ (l : List (Port × ℕ)). length l) e ∙ length-map old.outlets (λ (o : Outlet). pair o.port (width_of old.cells o.net.0)))
  where
    pair : Port → ℕ → Port × ℕ
    pair p w = (p, w)

net_of : (outlets : List Outlet) (k : ℕ) (o : Outlet) → slice_get outlets k ≡ Some o → outlet_net outlets k ≡ o.net.0
net_of outlets k o h =
    ap (λ (n : NetId). n.0)
    (ap (λ o. unwrap_or o (record { 0 = 0 })) (slice_get-map (λ (x : Outlet). x.net) outlets k ∙ ap (option_map (λ (x : Outlet). x.net)) h))

no_net : (outlets : List Outlet) (k : ℕ) → length outlets ≤ k → outlet_net outlets k ≡ 0
no_net outlets k l =
    ap (λ (n : NetId). n.0) (unwrap_or-slice_get (map (λ (x : Outlet). x.net) outlets) k (record { 0 = 0 })
    ∙ get_or_past (map (λ (x : Outlet). x.net) outlets) k (record { 0 = 0 }) (rw (length-map outlets (λ (x : Outlet). x.net)) l))

outputs_same : (old new : Circuit) (many : ℕ) (before after : List Clock) (t k : ℕ) → 0 < many → SameInputs many before after
    → shown_ports new ≡ shown_ports old → ShowTheSame old new before after
    → word_at after t (outlet_net new.outlets k) ≡ word_at before t (outlet_net old.outlets k)
outputs_same old new many before after t k some same ports s =
    let count : length new.outlets ≡ length old.outlets = same_count old new ports in
    elim (cases_lt t (length after)) [
      | inr b ↦ past after t (outlet_net new.outlets k) b ∙ sym (past before t (outlet_net old.outlets k) (omega (arith, s.long)))
      | inl b ↦ elim (cases_lt k (length old.outlets)) [
        | inr g ↦ rw (no_net new.outlets k (omega arith), no_net old.outlets k g) (sym (same t 0 some))
        | inl l ↦
            let d : Outlet = record { port = Reset; net = record { 0 = 0 } } in
            let o : Outlet = get_or old.outlets k d in
            let p : Outlet = get_or new.outlets k d in
            let fo : slice_get old.outlets k ≡ Some o = slice_get-get_or old.outlets k d l in
            let fp : slice_get new.outlets k ≡ Some p = slice_get-get_or new.outlets k d (omega arith) in
            rw (net_of new.outlets k p fp, net_of old.outlets k o fo) (sym (s.outputs t k o p b fo fp))
      ]
    ]

same_ports : (old new : Circuit) → shown_ports new ≡ shown_ports old → map (outlet_port new.cells) new.outlets ≡ map (outlet_port old.cells) old.outlets
same_ports old new e = walk old new new.outlets old.outlets e
  where
    walk : (old new : Circuit) (ys xs : List Outlet) → map {B = Port × ℕ} (λ (o : Outlet). (o.port, width_of new.cells o.net.0)) ys ≡ map {B = Port × ℕ}
        (λ (o : Outlet). (o.port, width_of old.cells o.net.0)) xs
        → map (outlet_port new.cells) ys ≡ map (outlet_port old.cells) xs
    walk old new [] [] e = refl
    walk old new [] (x ∷ xs) e = cc
    walk old new (y ∷ ys) [] e = cc
    walk old new (y ∷ ys) (x ∷ xs) e =
        let both : ◌≡◌ {A = Port × ℕ} (y.port, width_of new.cells y.net.0) (x.port, width_of old.cells x.net.0) = cc in
        let rest : map {B = Port × ℕ} (λ (o : Outlet). (o.port, width_of new.cells o.net.0)) ys ≡ map {B = Port × ℕ}
        (λ (o : Outlet). (o.port, width_of old.cells o.net.0)) xs = cc in
        let one : outlet_port new.cells y ≡ outlet_port old.cells x = ap (λ (p : Port × ℕ). record { port = p.0; width = p.1 }) both in
        rw (one, walk old new ys xs rest) refl

-- ---- the law

-- the inputs of both have the same words
abbrev first_inputs : List StTree → List SizedPort
first_inputs ins = reset_port ∷ input_ports (streams_of ins)

ported_inputs : (ins : List StTree) (outs : List Stream) (costs : OwnCosts) (old : Circuit) → IsPorted ins outs costs old
    → take (length (first_inputs ins)) old.cells ≡ map input_cell (first_inputs ins)
ported_inputs ins outs costs old c =
    let many : 1 + length (input_ports (streams_of ins)) ≡ length (first_inputs ins) = omega arith in
    ap (λ n. take n old.cells) (sym many) ∙ c.inputs

tidied_first : (ins : List StTree) (outs : List Stream) (costs : OwnCosts) (old new : Circuit) → IsPorted ins outs costs old → IsTidied old new
    → take (length (first_inputs ins)) new.cells ≡ take (length (first_inputs ins)) old.cells
tidied_first ins outs costs old new c t =
    let ps : List SizedPort = first_inputs ins in
    let whole : take (length ps) (map input_cell ps) ≡ map input_cell ps = ap (λ n. take n (map input_cell ps)) (sym (length-map ps input_cell)) ∙
    take-length (map input_cell ps) in
    let number : number_of is_input old.cells (length ps) ≡ length ps = ap (count_of is_input) (ported_inputs ins outs costs old c ∙ sym whole) ∙
    all_inputs ps (length ps) (omega arith) in
    t.first (length ps) number

-- a law of the outputs from some column on, by the inputs
abbrev pub ShowsLaw : (ins : List StTree) (period latency : ℕ) (out : Stream) (means : List (List ℕ) → List ℕ) (column : ℕ) → Circuit → Type 0
ShowsLaw ins t d out means first n =
    (run : List Clock) (start : ℕ) → IsRun n.cells run → IsReset run 0 start
    → BlockLaw (length run - start) 0 (plain_part t d (streams_of ins) out means) (input_waves run start 1 (streams_of ins))
    (output_wave run n.outlets start first)

pub tidied_law : (ins : List StTree) (outs : List Stream) (costs : OwnCosts) (old new : Circuit)
    → ((j : ℕ) (t : StTree) → slice_get ins j ≡ Some t → HasLengths t) → IsPorted ins outs costs old → IsTidied old new
    → (t d : ℕ) (out : Stream) (means : List (List ℕ) → List ℕ) (first : ℕ) → ShowsLaw ins t d out means first old → ShowsLaw ins t d out means first new
tidied_law ins outs costs old new sized c t T d out means first law run start is_run reset =
    let many : ℕ = length (first_inputs ins) in
    let few : 1 + length (input_ports (streams_of ins)) ≤ many = omega arith in
    let u = t.runs run is_run in
    let before : List Clock = u.0 in
    let long : length before ≡ length run = u.2.long in
    let front = ported_inputs ins outs costs old c in
    let same : SameInputs many before run = same_inputs old new (first_inputs ins) before run front (tidied_first ins outs costs old new c t ∙ front) u.2 in
    let own = law before start u.1 (record {
      some = reset.some;
      high = λ c l b. same c 0 (omega arith) ∙ reset.high c l (omega arith);
      low = λ c l b. same c 0 (omega arith) ∙ reset.low c l (omega arith);
    }) in
    record {
      makes = λ b vs ends words holds.
          let made = own.makes b vs (rw long ends) words
          (inputs_same before run start many (λ param lane word. In param lane word) ins 1 0 _ vs same few sized holds) in
          λ e j w at lt. outputs_same old new many before run _ _ (omega arith) same t.outputs u.2 ∙ made e j w at lt;
    }

pub tidied_ported : (ins : List StTree) (outs : List Stream) (costs : OwnCosts) (old new : Circuit) → IsPorted ins outs costs old → IsTidied old new
    → IsPorted ins outs costs new
tidied_ported ins outs costs old new c t =
    let many : 1 + length (input_ports (streams_of ins)) ≡ length (first_inputs ins) = omega arith in
    record {
      inputs = ap (λ n. take n new.cells) many ∙ (tidied_first ins outs costs old new c t ∙ ported_inputs ins outs costs old c);
      no_others =
          sym (length-filter (λ (x : SizedCell). is_input x.cell) new.cells)
          ∙ (ap (λ (l : List SizedCell). length l) t.inputs ∙ (length-filter (λ (x : SizedCell). is_input x.cell) old.cells ∙ c.no_others));
      outputs = same_ports old new t.outputs ∙ c.outputs;
      formed = t.formed;
      shown = t.shown;
      whole = t.whole c.whole;
      small = omega (arith, t.small, c.small);
      muls = t.muls ∙ c.muls;
      memories = omega (arith, t.memories, c.memories);
    }

pub tidied_circuit : (instances : List StFuncTree) (s : StFuncTree) (old new : Circuit) → ((k : ℕ) × IsSoundFunc k s)
    → IsPorted s.ins (result_streams s) (instance_costs instances (last_of instances)) old × MakesResults instances s old
    → IsTidied old new → IsCircuitThat MakesResults instances s new
tidied_circuit instances s old new sound c t =
    let costs : OwnCosts = instance_costs instances (last_of instances) in
    let p = tidied_ported s.ins (result_streams s) costs old new c.0 t in
    record {
      inputs = p.inputs;
      no_others = p.no_others;
      outputs = p.outputs;
      makes = λ run start is_run reset r i result.
          (let before = columns_in (take r (result_streams s)) in
          tidied_law s.ins (result_streams s) costs old new (λ k v f. (sound.1.ins k v f).size.lengths) c.0 t s.budget costs.latency
          (stream_of (item_layout (item_layouts s) i)) (λ vs. words_at (flow instances vs) r) before
          (λ other begin others_run others_reset. c.1 other begin others_run others_reset r i result) run start is_run reset);
      formed = p.formed;
      shown = p.shown;
      whole = p.whole;
      small = p.small;
      muls = p.muls;
      memories = p.memories;
    }
