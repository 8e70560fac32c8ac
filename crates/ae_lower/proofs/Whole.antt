-- The whole circuit: its first cells are the inputs, and what is lowered behind them keeps them.
use Rattle.std.proofs.Common.{ℕ, zero, suc, ◌≡◌, ◌+◌, ◌-◌, ◌<◌, ◌≤◌, List, [], ◌∷◌, ◌++◌, Bool, false, cond, length, length-append, map, take, get_or, Some, slice_get, arith, refl, sym, ap, ◌∙◌, subst}
use Rattle.std.proofs.lemmas.List.{append-nil, append_assoc, length-map, map-append}
use Rattle.std.proofs.lemmas.List.Sums.{sum_by-cons}
use Rattle.std.proofs.lemmas.Option.{same_Some, slice_get-get_or, slice_get-map, slice_get_within}
use Rattle.std.specs.Option.{option_map}
use Rattle.ae_seqtype.specs.SeqTree.{repeated}
use Rattle.ae_seqtype.proofs.Stands.{repeated-push}
use Rattle.ae_netlist.specs.declared.cell.NetId.{NetId}
use Rattle.ae_netlist.specs.declared.cell.Port.{Port}
use Rattle.ae_netlist.specs.declared.cell.Port.TheVariants.{In}
use Rattle.ae_netlist.specs.declared.cell.Cell.{Cell}
use Rattle.ae_netlist.specs.declared.cell.Cell.TheVariants.{Input, Mem}
use Rattle.ae_netlist.specs.declared.cell.SizedCell.{SizedCell}
use Rattle.ae_netlist.specs.declared.cell.Outlet.{Outlet}
use Rattle.ae_netlist.specs.Circuit.{Circuit, Extends, HaveNets, IsFormed, IsNet}
use Rattle.ae_netlist.specs.Counts.{AreWhole, count_of, is_input, is_memory, is_mul}
use Rattle.ae_netlist.proofs.Gets.{get_left}
use Rattle.ae_clocked.specs.Phases.{Belongs, Kept}
use Rattle.ae_ops.specs.Waves.{AreNets}
use Rattle.ae_ops.specs.Blocks.{AreBundles, Stream, stream_widths}
use Rattle.ae_sttype.specs.StTree.{StTree}
use Rattle.ae_rewrite.specs.declared.st_program.StFunc.{StFunc}
use Rattle.ae_rewrite.specs.StProgramTree.{StFuncTree, st_func_tree, st_func_trees}
use Rattle.ae_rewrite.specs.Sound.{IsSoundFunc}
use Rattle.ae_delay.specs.declared.own.OwnCosts.{OwnCosts}
use Rattle.ae_delay.specs.Costs.{all_costs}
use Rattle.ae_delay.specs.Timings.{AreTimes, Times}
use Rattle.ae_flow.specs.Flow.{callees}
use Rattle.ae_ports.specs.Ports.{streams_of, SizedPort, input_cell, input_ports, lane_ports, output_ports, ports_from, reset_port, stream_ports, word_ports}
use Rattle.ae_lower.specs.Circuits.{MakesResults, last_of, result_streams}
use Rattle.ae_lower.specs.Growth.{AddsMulsAndMemories, GrowsBy}
use Rattle.ae_lower.specs.Lowering.{AreChosen, IsLight, costs_in, instance_costs}
use Rattle.ae_lower.specs.PortNets.{AddsOutputs, bundles_from, nets_from}
use Rattle.ae_lower.specs.Ported.{HasBegun, IsPorted}
use Rattle.ae_lower.proofs.Inputs.{length-nets_from, length-stream_ports}
use Rattle.ae_lower.proofs.Outputs.{all_nets, outputs_cells}
use Rattle.ae_lower.proofs.Results.{makes_results, nets_at}

-- ---- inputs as nets

abbrev widths_in : List SizedPort → List ℕ
widths_in ps = map (λ (p : SizedPort). p.width) ps

word_widths : (at : ℕ → Port) (k : ℕ) (ws : List ℕ) → widths_in (word_ports at k ws) ≡ ws
word_widths at k [] = refl
word_widths at k (w ∷ ws) = ap (λ vs. w ∷ vs) (word_widths at (k + 1) ws)

lane_widths : (at : ℕ → ℕ → Port) (ws : List ℕ) (lanes : ℕ) → widths_in (lane_ports at ws lanes) ≡ repeated lanes ws
lane_widths at ws zero = refl
lane_widths at ws (suc l) =
    map-append (λ (p : SizedPort). p.width) (lane_ports at ws l) (word_ports (at l) 0 ws)
    ∙ (ap (λ vs. vs ++ widths_in (word_ports (at l) 0 ws)) (lane_widths at ws l)
    ∙ (ap (λ vs. repeated l ws ++ vs) (word_widths (at l) 0 ws)
    ∙ (sym (repeated-push l ws) ∙ ap (λ n. repeated n ws) (let e : l + 1 ≡ suc l = omega arith in e))))

get_behind : (xs ys : List SizedCell) (i : ℕ) → slice_get (xs ++ ys) (length xs + i) ≡ slice_get ys i
get_behind [] ys i = ap (slice_get ys) (let e : 0 + i ≡ i = omega arith in e)
get_behind (x ∷ xs) ys i = ap (slice_get ((x ∷ xs) ++ ys)) (let e : length (x ∷ xs) + i ≡ suc (length xs + i) = omega arith in e) ∙ get_behind xs ys i

-- the nets of inputs behind other cells
input_nets : (before after : List SizedCell) (ps : List SizedPort) (widths : List ℕ) → widths_in ps ≡ widths
    → AreNets (before ++ (map input_cell ps ++ after)) widths (nets_from (length before) (length widths))
input_nets before after ps widths are = record {
  long = length-nets_from (length before) (length widths);
  each = λ q w net fw fn.
      let below : q < length widths = slice_get_within widths q w fw in
      let inside : q < length ps = omega (arith, below, ap length are, length-map ps (λ (p : SizedPort). p.width)) in
      let p : SizedPort = get_or ps q reset_port in
      let at : slice_get ps q ≡ Some p = slice_get-get_or ps q reset_port inside in
      let here : slice_get (map input_cell ps) q ≡ Some (input_cell p) = slice_get-map input_cell ps q ∙ ap (option_map input_cell) at in
      let found : slice_get (before ++ (map input_cell ps ++ after)) (length before + q) ≡ Some (input_cell p) = get_behind before
      (map input_cell ps ++ after) q ∙ get_left (map input_cell ps) after q (input_cell p) here in
      let wide : Some p.width ≡ Some w = sym (slice_get-map (λ (r : SizedPort). r.width) ps q ∙ ap (option_map (λ (r : SizedPort). r.width)) at) ∙
      (ap (λ vs. slice_get vs q) are ∙ fw) in
      let place : NetId = record { 0 = length before + q } in
      let same : Some place ≡ Some net = sym (nets_at (length before) (length widths) q below) ∙ fn in
      let is : place ≡ net = cc in
      let there : IsNet (before ++ (map input_cell ps ++ after))
      (length before + q) w = record { sized = input_cell p; found = found; plain = tt; wide = cc } in
      subst (λ (n : NetId). IsNet (before ++ (map input_cell ps ++ after)) n.0 w) is there;
}

bundles_cons : (cells : List SizedCell) (s : Stream) (ss : List Stream) (b : List NetId) (bs : List (List NetId)) → AreNets cells (stream_widths s) b
    → AreBundles cells ss bs → AreBundles cells (s ∷ ss) (b ∷ bs)
bundles_cons cells s ss b bs one rest = record {
  long = ap suc rest.long;
  each = both;
}
  where
    both : (k : ℕ) (t : Stream) (nets : List NetId) → slice_get (s ∷ ss) k ≡ Some t → slice_get (b ∷ bs) k ≡ Some nets → AreNets cells (stream_widths t) nets
    both zero t nets fs fb =
        let is : s ≡ t = cc in
        let are : b ≡ nets = cc in
        subst (λ (u : Stream). AreNets cells (stream_widths u) nets) is (subst (λ (ns : List NetId). AreNets cells (stream_widths s) ns) are one)
    both (suc k) t nets fs fb = rest.each k t nets fs fb

pub input_bundles : (at : ℕ → ℕ → ℕ → Port) (k : ℕ) (ss : List Stream) (before after : List SizedCell)
    → AreBundles (before ++ (map input_cell (ports_from at k ss) ++ after)) ss (bundles_from (length before) ss)
input_bundles at k [] before after = record { long = refl; each = λ j t nets fs fb. absurd (let no : j < 0 = slice_get_within [] j t fs in omega arith) }
input_bundles at k (s ∷ ss) before after =
    let own : List SizedCell = map input_cell (stream_ports (at k) s) in
    let rest : List SizedCell = map input_cell (ports_from at (k + 1) ss) in
    let split : before ++ (map input_cell (ports_from at k (s ∷ ss)) ++ after) ≡ before ++ (own ++ (rest ++ after)) =
    ap (λ cs. before ++ (cs ++ after)) (map-append input_cell (stream_ports (at k) s) (ports_from at (k + 1) ss)) ∙
    ap (λ cs. before ++ cs) (append_assoc own rest after) in
    let joined : before ++ (own ++ (rest ++ after)) ≡ (before ++ own) ++ (rest ++ after) = sym (append_assoc before own (rest ++ after)) in
    let size : length (before ++ own) ≡ length before + length (stream_widths s) =
    length-append before own ∙ ap (λ n. length before + n) (length-map (stream_ports (at k) s) input_cell ∙ length-stream_ports (at k) s) in
    let one : AreNets (before ++ (own ++ (rest ++ after))) (stream_widths s) (nets_from (length before) (length (stream_widths s))) = input_nets before
    (rest ++ after) (stream_ports (at k) s) (stream_widths s) (lane_widths (at k) s.widths s.lanes) in
    let more : AreBundles ((before ++ own) ++ (rest ++ after)) ss (bundles_from (length before + length (stream_widths s)) ss) = rw size at
    (input_bundles at (k + 1) ss (before ++ own) after) in
    rw split (bundles_cons (before ++ (own ++ (rest ++ after))) s ss _ _ one (rw joined more))

-- ---- what inputs are not

count_inputs : (ps : List SizedPort) → count_of is_input (map input_cell ps) ≡ length ps
count_inputs [] = refl
count_inputs (p ∷ ps) = omega (arith, sum_by-cons (λ (c : SizedCell). cond (is_input c.cell) 1 0) (input_cell p) (map input_cell ps), count_inputs ps)

count_others : (kind : Cell → Bool) (ps : List SizedPort) → ((p : Port) → kind (Input p) ≡ false) → count_of kind (map input_cell ps) ≡ 0
count_others kind [] h = refl
count_others kind (p ∷ ps) h =
    omega (
      arith,
      sum_by-cons (λ (c : SizedCell). cond (kind c.cell) 1 0) (input_cell p) (map input_cell ps),
      count_others kind ps h,
      ap (λ b. (let n : ℕ = cond b 1 0 in n)) (h p.port),
    )

no_memory : (ps : List SizedPort) (m width depth : ℕ) (at next enable : NetId)
    → slice_get (map input_cell ps) m ≡ Some (record { width = width; cell = Mem depth at next enable }) → ⊥
no_memory [] m width depth at next enable h = cc
no_memory (p ∷ ps) zero width depth at next enable h =
    let is : Input p.port ≡ Mem depth at next enable = ap (λ (c : SizedCell). c.cell) (same_Some _ _ h) in
    cc
no_memory (p ∷ ps) (suc m) width depth at next enable h = no_memory ps m width depth at next enable h

whole_inputs : (ps : List SizedPort) → AreWhole (map input_cell ps)
whole_inputs ps = record { each = λ m width depth at next enable h. absurd (no_memory ps m width depth at next enable h) }

-- ---- the first cells stay

pub first_cells : (a b : List SizedCell) → Extends a b → take (length a) b ≡ a
first_cells [] b e = refl
first_cells (x ∷ xs) [] e = absurd (let h = e.keeps 0 x refl in cc)
first_cells (x ∷ xs) (y ∷ ys) e =
    let h : Some y ≡ Some x = e.keeps 0 x refl in
    let is : y ≡ x = cc in
    ap (λ (z : SizedCell). z ∷ take (length xs) ys) is ∙ ap (λ zs. x ∷ zs) (first_cells xs ys (record { keeps = λ n sized f. e.keeps (suc n) sized f }))

-- ---- the circuit

pub reset_belongs : (ins : List StTree) (n : Circuit) (clocks : Kept) (rst : NetId) → HasBegun ins n
    → clocks ≡ record { rst = rst.0; counters = []; marks = [] } → rst.0 ≡ 0 → Belongs clocks n.cells
reset_belongs ins n clocks rst begun are is =
    let zeroed : clocks ≡ record { rst = 0; counters = []; marks = [] } = are ∙ ap (λ k. record { rst = k; counters = []; marks = [] }) is in
    let net : IsNet n.cells 0 1 = rw begun.cells (record { sized = input_cell reset_port; found = refl; plain = tt; wide = refl }) in
    rw zeroed (record { rst = net; counters = λ phase net kept. cc; marks = λ mark net kept. cc })

pub inputs_begun : (ins : List StTree) (n : Circuit) → HasBegun ins n → AreBundles n.cells (streams_of ins) (bundles_from 1 (streams_of ins))
inputs_begun ins n begun =
    let ports : List SizedPort = input_ports (streams_of ins) in
    let reset : List SizedCell = input_cell reset_port ∷ [] in
    let is : n.cells ≡ reset ++ (map input_cell ports ++ []) = begun.cells ∙ ap (λ cs. input_cell reset_port ∷ cs) (sym (append-nil (map input_cell ports))) in
    rw is (input_bundles (λ param lane word. In param lane word) 0 (streams_of ins) reset [])

pub has_begun : (ins : List StTree) (limit : ℕ) (a b c : Circuit) (ts : List StTree) → a ≡ record { limit = limit; cells = []; outlets = [] }
    → b ≡ record a { cells = a.cells ++ input_cell reset_port ∷ [] }
    → c ≡ record b { cells = b.cells ++ map input_cell (input_ports (streams_of ts)) } → ts ≡ ins → HasBegun ins c
has_begun ins limit a b c ts new reset inputs are =
    let first : b.cells ≡ input_cell reset_port ∷ [] = ap (λ (n : Circuit). n.cells) reset ∙ ap (λ (n : Circuit). n.cells ++ input_cell reset_port ∷ []) new in
    record {
      cells = ap (λ (n : Circuit). n.cells) inputs ∙ (ap (λ cs. cs ++ map input_cell (input_ports (streams_of ts))) first ∙
          ap (λ us. input_cell reset_port ∷ map input_cell (input_ports (streams_of us))) are);
      outlets = ap (λ (n : Circuit). n.outlets) inputs ∙ (ap (λ (n : Circuit). n.outlets) reset ∙ ap (λ (n : Circuit). n.outlets) new);
    }

pub begun_bundles : (ins : List StTree) (limit : ℕ) (a b : Circuit) (ts : List StTree) (bundles : List (List NetId))
    → a ≡ record { limit = limit; cells = []; outlets = [] } → b ≡ record a { cells = a.cells ++ input_cell reset_port ∷ [] }
    → bundles ≡ bundles_from (length b.cells) (streams_of ts) → ts ≡ ins → bundles ≡ bundles_from 1 (streams_of ins)
begun_bundles ins limit a b ts bundles new reset is are =
    let one : length b.cells ≡ 1 = ap (λ (n : Circuit). length n.cells) reset ∙ ap (λ (n : Circuit). length (n.cells ++ input_cell reset_port ∷ [])) new in
    is ∙ (ap (λ n. bundles_from n (streams_of ts)) one ∙ ap (λ us. bundles_from 1 (streams_of us)) are)

-- ---- the last instance

pub last_is : (fs : List StFunc) (count : ℕ) → count ≡ length fs → count - 1 ≡ last_of (st_func_trees fs)
last_is fs count is = ap (λ n. n - 1) (is ∙ sym (length-map fs st_func_tree))

pub instance_at : (fs : List StFunc) (k : ℕ) (f : StFunc) → slice_get fs k ≡ Some f → slice_get (st_func_trees fs) k ≡ Some (st_func_tree f)
instance_at fs k f found = slice_get-map st_func_tree fs k ∙ ap (option_map st_func_tree) found

pub light_enough : (instances : List StFuncTree) (t : Times) (s : StFuncTree) (k : ℕ) → AreTimes instances t → t.costs.load ≤ 100000 → k ≡ last_of instances
    → slice_get instances k ≡ Some s → IsLight instances k 0 s
light_enough instances t s k times limit last found =
    let there : slice_get instances (last_of instances) ≡ Some s = rw last at found in
    let are : instance_costs instances (last_of instances) ≡ t.costs = ap (costs_in (all_costs (take (last_of instances) instances))) there ∙
    sym (times.costs s there) in
    let same : instance_costs instances k ≡ t.costs = rw last are in
    record { found = found; early = rw same (omega arith) }

pub load_is : (instances : List StFuncTree) (t : Times) (s : StFuncTree) (k : ℕ) → AreTimes instances t → k ≡ last_of instances
    → slice_get instances k ≡ Some s → (instance_costs instances k).load ≡ t.costs.load
load_is instances t s k times last found =
    let there : slice_get instances (last_of instances) ≡ Some s = rw last at found in
    let are : instance_costs instances (last_of instances) ≡ t.costs = ap (costs_in (all_costs (take (last_of instances) instances))) there ∙
    sym (times.costs s there) in
    rw (last, are) refl

-- the results by the numbers that they have here
pub chosen_last : (instances : List StFuncTree) (s : StFuncTree) (cells : List SizedCell) (rst k : ℕ) (ins ours bundles theirs : List (List NetId)) → rst ≡ 0
    → k ≡ last_of instances → ins ≡ ours → bundles ≡ theirs
    → AreChosen cells rst 0 (callees (take k instances)) s ins (instance_costs instances k).latency s.results bundles
    → AreChosen cells 0 0 (callees (take (last_of instances) instances)) s ours (instance_costs instances (last_of instances)).latency s.results theirs
chosen_last instances s cells rst k ins ours bundles theirs zeroed last mine same h =
    let P : ℕ → ℕ → List (List NetId) → List (List NetId)
    → Type 0 = λ r m xs ys. AreChosen cells r 0 (callees (take m instances)) s xs (instance_costs instances m).latency s.results ys in
    subst (λ r. P r (last_of instances) ours theirs) zeroed
    (subst (λ m. P rst m ours theirs) last (subst (λ xs. P rst k xs theirs) mine (subst (λ ys. P rst k ins ys) same h)))

-- what has grown behind the inputs, with its outputs, has the ports and is within the costs
pub ported_made : (ins : List StTree) (outs : List Stream) (costs : OwnCosts) (a b c : Circuit) (bundles : List (List NetId)) → HasBegun ins a
    → GrowsBy a b costs.load → AddsMulsAndMemories a b costs.muls costs.mems
    → AddsOutputs b c (output_ports outs) (all_nets bundles) → IsFormed c.cells → HaveNets c.cells c.outlets → IsPorted ins outs costs c
    × (map (λ (o : Outlet). o.net) c.outlets ≡ all_nets bundles)
ported_made ins outs costs a b c bundles begun grown adds shown formed have =
    let ports : List SizedPort = reset_port ∷ input_ports (streams_of ins) in
    let kept : c.cells ≡ b.cells = outputs_cells shown in
    let long : length a.cells ≡ 1 + length (input_ports (streams_of ins)) = omega (arith, ap length begun.cells, length-map ports input_cell) in
    let outlets : c.outlets ≡ shown.outlets =
    ap (λ (n : Circuit). n.outlets) shown.added ∙ ap (λ os. os ++ shown.outlets) (grown.grows.outlets ∙ begun.outlets) in (
      record {
        inputs = rw kept (ap (λ n. take n b.cells) (sym long) ∙ (first_cells a.cells b.cells grown.grows.extends ∙ begun.cells));
        no_others = rw kept (grown.grows.inputs ∙ (ap (count_of is_input) begun.cells ∙
            (count_inputs ports ∙ (let e : length ports ≡ 1 + length (input_ports (streams_of ins)) = omega arith in e))));
        outputs = rw (outlets, kept) shown.are;
        formed = formed;
        shown = have;
        whole = rw kept (adds.whole (rw begun.cells (whole_inputs ports)));
        small = rw kept (omega (arith, grown.cells, long));
        muls = rw kept (omega (arith, adds.muls, ap (count_of is_mul) begun.cells, count_others is_mul ports (λ p. refl)));
        memories = rw kept (omega (arith, adds.memories, ap (count_of is_memory) begun.cells, count_others is_memory ports (λ p. refl)));
      },
      ap (map (λ (o : Outlet). o.net)) outlets ∙ shown.show,
    )

pub circuit_made : (instances : List StFuncTree) (s : StFuncTree) (a b c : Circuit) (bundles : List (List NetId)) → ((k : ℕ) × IsSoundFunc k s)
    → slice_get instances (last_of instances) ≡ Some s → HasBegun s.ins a
    → GrowsBy a b (instance_costs instances (last_of instances)).load
    → AddsMulsAndMemories a b (instance_costs instances (last_of instances)).muls (instance_costs instances (last_of instances)).mems
    → AreChosen b.cells 0 0 (callees (take (last_of instances) instances)) s (bundles_from 1 (streams_of s.ins))
    (instance_costs instances (last_of instances)).latency s.results bundles
    → AddsOutputs b c (output_ports (result_streams s)) (all_nets bundles) → IsFormed c.cells → HaveNets c.cells c.outlets
    → IsPorted s.ins (result_streams s) (instance_costs instances (last_of instances)) c × MakesResults instances s c
circuit_made instances s a b c bundles sound found begun grown adds chosen shown formed have =
    let made = ported_made s.ins (result_streams s) (instance_costs instances (last_of instances)) a b c bundles begun grown adds shown formed have in
    let kept : c.cells ≡ b.cells = outputs_cells shown in
    (made.0, makes_results instances s c bundles sound found (rw kept chosen) made.1)
