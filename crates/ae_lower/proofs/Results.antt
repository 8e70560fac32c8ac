-- The words of the parameters on the inputs, and those of the results on the outputs.
use Rattle.std.proofs.Common.{ℕ, zero, suc, ◌≡◌, ◌+◌, ◌*◌, ◌<◌, List, [], ◌∷◌, length, map, take, get_or, ◌-◌, Some, slice_get, arith, refl, sym, ap, ◌∙◌, subst}
use Rattle.std.proofs.lemmas.List.{get_or-append-add, get_or_append_left, length-map}
use Rattle.std.proofs.lemmas.List.FromFn.{get_or-map-range_with_len}
use Rattle.std.proofs.lemmas.List.Sums.{sum_by-cons}
use Rattle.std.proofs.lemmas.Option.{get_or_from_slice_get, same_Some, slice_get-get_or, slice_get-map, slice_get_within, unwrap_or-slice_get}
use Rattle.std.specs.Option.{option_map}
use Rattle.std.specs.Prelude.{unwrap_or}
use Rattle.ae_seqtype.proofs.Sizes.{length-repeated}
use Rattle.ae_sttype.specs.declared.st_type.Slot.{Slot}
use Rattle.ae_sttype.specs.StTree.{StTree, lanes}
use Rattle.ae_sttype.specs.Size.{HasLengths}
use Rattle.ae_sttype.proofs.Places.{slot_below, slot_of, stands_from_get}
use Rattle.ae_netlist.specs.declared.cell.NetId.{NetId}
use Rattle.ae_netlist.specs.declared.cell.Outlet.{Outlet}
use Rattle.ae_netlist.specs.Circuit.{Circuit}
use Rattle.ae_netlist.specs.Runs.{Clock, IsReset, IsRun, word_at}
use Rattle.ae_netlist.proofs.Growing.{extends_refl}
use Rattle.ae_ops.specs.Waves.{Wave, net_word, wave_of}
use Rattle.ae_ops.specs.Blocks.{AllHold, BlockLaw, HoldsWords, KeepsLaw, Stream, stream_of, stream_widths}
use Rattle.ae_rewrite.specs.StProgramTree.{StFuncTree}
use Rattle.ae_rewrite.specs.Sound.{IsSoundFunc, item_layout, item_layouts}
use Rattle.ae_delay.proofs.Instances.{all_items}
use Rattle.ae_flow.specs.Flow.{Callee, callees, flow, item_words, results_in, words_at}
use Rattle.ae_ports.specs.Ports.{streams_of, input_waves, columns_in}
use Rattle.ae_lower.specs.Circuits.{MakesResults, item_stream, last_of, result_streams}
use Rattle.ae_lower.specs.Lowering.{AreChosen, instance_costs}
use Rattle.ae_lower.specs.Parts.{plain_part}
use Rattle.ae_rewrite.specs.Blocks.{input_wave, outlet_net, output_wave}
use Rattle.ae_lower.specs.PortNets.{bundles_from, nets_from}
use Rattle.ae_lower.proofs.Inputs.{length-nets_from}
use Rattle.ae_lower.proofs.Outputs.{all_nets}
use Rattle.ae_lower.proofs.Spreading.{in_row}

-- ---- waves that agree on so many columns

abbrev pub AgreesOn : (columns : ℕ) → (wave other : Wave) → Type 0
AgreesOn n wave other = (c q : ℕ) → q < n → other c q ≡ wave c q

-- the words of a value stand on the columns of its layout
pub holds_same : (t : StTree) → HasLengths t → (k : ℕ) (wave other : Wave) (ws : List ℕ) → AgreesOn (length (stream_widths (stream_of t))) wave other
    → HoldsWords k (stream_of t) wave ws → HoldsWords k (stream_of t) other ws
holds_same t h k wave other ws same holds e j w at lt =
    let size : ℕ = length (stream_of t).widths in
    let stands = stands_from_get t e w.clock w.lane at in
    let on : (slot_of t e).lane < lanes t = (slot_below t h e stands.below).1 in
    let lane : w.lane < lanes t = subst (λ (u : Slot). u.lane < lanes t) stands.is on in
    let inside : w.lane * size + j < length (stream_widths (stream_of t)) = rw (length-repeated (lanes t) (stream_of t).widths)
    (in_row w.lane size j (lanes t) lane lt) in
    same (k + w.clock) (w.lane * size + j) inside ∙ holds e j w at lt

-- ---- inputs

pub nets_at : (first n q : ℕ) → q < n → slice_get (nets_from first n) q ≡ Some (record { 0 = first + q })
nets_at first n q h =
    let net : ℕ → NetId = λ k. record { 0 = k } in
    slice_get-get_or (nets_from first n) q (net 0) (let l : q < length (nets_from first n) = rw (length-nets_from first n) h in l) ∙
    ap Some (get_or-map-range_with_len net first n q (first + q) (net 0) h refl)

wave_inputs : (run : List Clock) (start first n : ℕ) → AgreesOn n (input_wave run start first) (wave_of run start (nets_from first n))
unfolding wave_of
wave_inputs run start first n c q h = ap (net_word run (start + c)) (nets_at first n q h)

inputs_hold : (run : List Clock) (start : ℕ) (ts : List StTree) (first k : ℕ) (vs : List (List ℕ))
    → ((i : ℕ) (t : StTree) → slice_get ts i ≡ Some t → HasLengths t) → AllHold k (streams_of ts) (input_waves run start first (streams_of ts)) vs
    → AllHold k (streams_of ts) (map (wave_of run start) (bundles_from first (streams_of ts))) vs
inputs_hold run start [] first k [] sized h = tt
inputs_hold run start [] first k (v ∷ vs) sized h = absurd h
inputs_hold run start (t ∷ ts) first k [] sized h = absurd h
inputs_hold run start (t ∷ ts) first k (v ∷ vs) sized h = (
  holds_same t (sized zero t refl) k (input_wave run start first) (wave_of run start (nets_from first (length (stream_widths (stream_of t))))) v
      (wave_inputs run start first (length (stream_widths (stream_of t)))) h.0,
  inputs_hold run start ts (first + length (stream_widths (stream_of t))) k vs (λ i u f. sized (suc i) u f) h.1,
)

-- ---- outputs

-- net q of result r is behind those of the results before it
placed : (ss : List Stream) (bundles : List (List NetId))
    → ((r : ℕ) (s : Stream) (nets : List NetId) → slice_get ss r ≡ Some s → slice_get bundles r ≡ Some nets → length nets ≡ length (stream_widths s))
    → length bundles ≡ length ss
    → (r : ℕ) (s : Stream) (nets : List NetId) (q : ℕ) (d : NetId) → slice_get ss r ≡ Some s → slice_get bundles r ≡ Some nets → q < length nets
    → get_or (all_nets bundles) (columns_in (take r ss) + q) d ≡ get_or nets q d
placed [] bundles long same r s nets q d fc fb h = absurd (let no : r < 0 = slice_get_within [] r s fc in omega arith)
placed (x ∷ xs) [] long same r s nets q d fc fb h = absurd (let no : r < 0 = slice_get_within [] r nets fb in omega arith)
placed (x ∷ xs) (b ∷ bs) long same zero s nets q d fc fb h =
    let is : b ≡ nets = cc in
    let below : q < length b = rw is h in
    ap (λ n. get_or (all_nets (b ∷ bs)) n d) (let z : 0 + q ≡ q = omega arith in z) ∙
    (get_or_append_left b (all_nets bs) d q below ∙ ap (λ (ns : List NetId). get_or ns q d) is)
placed (x ∷ xs) (b ∷ bs) long same (suc r) s nets q d fc fb h =
    let size : length b ≡ length (stream_widths x) = long zero x b refl refl in
    let rest : ℕ = columns_in (take r xs) in
    let place : columns_in (take (suc r) (x ∷ xs)) + q ≡ length
    b + (rest + q) = omega (arith, size, sum_by-cons (λ (y : Stream). length (stream_widths y)) x (take r xs)) in
    ap (λ n. get_or (all_nets (b ∷ bs)) n d) place
    ∙ (get_or-append-add b (all_nets bs) (rest + q) d ∙ placed xs bs (λ k t ns u v. long (suc k) t ns u v) (omega arith) r s nets q d fc fb h)

wave_outputs : (run : List Clock) (start : ℕ) (outlets : List Outlet) (bundles : List (List NetId)) (first : ℕ) (nets : List NetId)
    → map (λ (o : Outlet). o.net) outlets ≡ all_nets bundles
    → ((q : ℕ) (d : NetId) → q < length nets → get_or (all_nets bundles) (first + q) d ≡ get_or nets q d)
    → AgreesOn (length nets) (wave_of run start nets) (output_wave run outlets start first)
unfolding wave_of
wave_outputs run start outlets bundles first nets show place c q h =
    let none : NetId = record { 0 = 0 } in
    let is : outlet_net outlets (first + q) ≡ (get_or nets q none).0 = ap (λ (n : NetId). n.0)
    (ap (λ ns. unwrap_or (slice_get ns (first + q)) none) show ∙ (unwrap_or-slice_get (all_nets bundles) (first + q) none ∙ place q none h)) in
    ap (word_at run (start + c)) is ∙ sym (ap (net_word run (start + c)) (slice_get-get_or nets q none h))

-- bundles for streams, of which one keeps the law of a part, are shown on the outputs: so the outputs keep it
pub outputs_law : (ins : List StTree) (ss : List Stream) (n : Circuit) (bundles : List (List NetId))
    → ((j : ℕ) (t : StTree) → slice_get ins j ≡ Some t → HasLengths t)
    → ((r : ℕ) (s : Stream) (nets : List NetId) → slice_get ss r ≡ Some s → slice_get bundles r ≡ Some nets → length nets ≡ length (stream_widths s))
    → length bundles ≡ length ss → map (λ (o : Outlet). o.net) n.outlets ≡ all_nets bundles
    → (r T d : ℕ) (t : StTree) (nets : List NetId) (means : List (List ℕ) → List ℕ) → HasLengths t → slice_get ss r ≡ Some (stream_of t)
    → slice_get bundles r ≡ Some nets
    → KeepsLaw n.cells 0 0 (plain_part T d (streams_of ins) (stream_of t) means) (bundles_from 1 (streams_of ins)) nets
    → (run : List Clock) (start : ℕ) → IsRun n.cells run → IsReset run 0 start
    → BlockLaw (length run - start) 0 (plain_part T d (streams_of ins) (stream_of t) means) (input_waves run start 1 (streams_of ins))
    (output_wave run n.outlets start (columns_in (take r ss)))
outputs_law ins ss n bundles sized long same show r T d t nets means lengths at has keeps run start is_run is_reset =
    let law = keeps n.cells (extends_refl n.cells) run is_run start is_reset in
    let place : (q : ℕ) (d : NetId) → q < length nets → get_or (all_nets bundles) (columns_in (take r ss) + q) d ≡ get_or nets q d =
    λ q d h. placed ss bundles long same r (stream_of t) nets q d at has h in
    let agree : AgreesOn (length nets) (wave_of run start nets)
    (output_wave run n.outlets start (columns_in (take r ss))) = wave_outputs run start n.outlets bundles (columns_in (take r ss)) nets show place in
    let wide : length nets ≡ length (stream_widths (stream_of t)) = long r (stream_of t) nets at has in
    record {
      makes = λ b vs ends words holds.
          let made = law.makes b vs ends words (inputs_hold run start ins 1 _ vs sized holds) in
          holds_same t lengths _ (wave_of run start nets) (output_wave run n.outlets start (columns_in (take r ss))) _ (rw wide at agree) made;
    }

-- ---- the words of a result

flow_word : (instances : List StFuncTree) (s : StFuncTree) (vs : List (List ℕ)) (r i : ℕ) → slice_get instances (last_of instances) ≡ Some s
    → slice_get s.results r ≡ Some i
    → words_at (flow instances vs) r ≡ words_at (item_words (callees (take (last_of instances) instances)) s vs) i
unfolding flow
flow_word instances s vs r i found result =
    let known = callees (take (last_of instances) instances) in
    let f : ℕ → List ℕ = words_at (item_words known s vs) in
    ap (λ o. words_at (results_in known o vs) r) found
    ∙ get_or_from_slice_get (map f s.results) r (f i) [] (slice_get-map f s.results r ∙
    (let e : option_map f (slice_get s.results r) ≡ Some (f i) = ap (option_map f) result in e))

pub makes_results : (instances : List StFuncTree) (s : StFuncTree) (n : Circuit) (bundles : List (List NetId)) → ((k : ℕ) × IsSoundFunc k s)
    → slice_get instances (last_of instances) ≡ Some s
    → AreChosen n.cells 0 0 (callees (take (last_of instances) instances)) s (bundles_from 1 (streams_of s.ins))
    (instance_costs instances (last_of instances)).latency s.results bundles
    → map (λ (o : Outlet). o.net) n.outlets ≡ all_nets bundles → MakesResults instances s n
makes_results instances s n bundles sound found chosen show run start is_run is_reset r i result =
    let known : List Callee = callees (take (last_of instances) instances) in
    let d : ℕ = (instance_costs instances (last_of instances)).latency in
    let nets : List NetId = get_or bundles r [] in
    let inside : r < length bundles = omega (arith, slice_get_within s.results r i result, chosen.long) in
    let has : slice_get bundles r ≡ Some nets = slice_get-get_or bundles r [] inside in
    let item = chosen.each r i nets result has in
    let t : StTree = item_layout (item_layouts s) i in
    let lengths : HasLengths t = (all_items sound.0 s sound.1 i (sound.1.results r i result)).size.lengths in
    let at : slice_get (result_streams s) r ≡ Some (stream_of t) = slice_get-map (item_stream s) s.results r ∙ ap (option_map (item_stream s)) result in
    let wide : (k : ℕ) (x : Stream) (ns : List NetId) → slice_get (result_streams s) k ≡ Some x → slice_get bundles k ≡ Some ns
    → length ns ≡ length (stream_widths x) =
    λ k x ns u v. (let m = mapped_from (item_stream s) s.results k x u in (chosen.each k m.0 ns m.1 v).there.long ∙
    ap (λ (y : Stream). length (stream_widths y)) m.2) in
    let law = outputs_law s.ins (result_streams s) n bundles (λ k u f. (sound.1.ins k u f).size.lengths) wide
    (chosen.long ∙ sym (length-map s.results (item_stream s))) show
    r s.budget d t nets (λ vs. words_at (item_words known s vs) i) lengths at has item.law run start is_run is_reset in
    record { makes = λ b vs ends words holds. rw (flow_word instances s vs r i found result) (law.makes b vs ends words holds) }
  where
    mapped_from : {X Y : Type 0} (f : X → Y) (xs : List X) (i : ℕ) (y : Y) → slice_get (map f xs) i ≡ Some y → (x : X) × (slice_get xs i ≡ Some x) × (f x ≡ y)
    mapped_from f [] i y h = cc
    mapped_from f (x ∷ xs) zero y h = (x, refl, same_Some (f x) y h)
    mapped_from f (x ∷ xs) (suc i) y h = mapped_from f xs i y h
