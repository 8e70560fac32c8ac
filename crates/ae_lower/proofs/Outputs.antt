-- Outputs that are added one by one and lane by lane.
use Rattle.std.proofs.Common.{ℕ, zero, suc, ◌≡◌, ◌+◌, ◌-◌, ◌*◌, ◌<◌, ◌≤◌, List, [], ◌∷◌, ◌++◌, length, map, take, drop, get_or, Some, slice_get, arith, refl, sym, ap, ◌∙◌, subst, flat_map, length-append, add-one}
use Rattle.std.proofs.lemmas.List.{append-nil, append_assoc, drop-map, get_or-map, length-map, length-take-le, map-append, map_more, same_lists, take-map, take_at, take_more}
use Rattle.std.proofs.Math.Nat.{mul-le-mul_right}
use Rattle.std.proofs.lemmas.List.Concat.{flat_map-append}
use Rattle.std.proofs.lemmas.Option.{get_or_from_slice_get, slice_get-get_or, slice_get_within}
use Rattle.ae_seqtype.specs.SeqTree.{repeated}
use Rattle.ae_seqtype.proofs.Sizes.{length-repeated}
use Rattle.ae_sttype.specs.StTree.{StTree, element_words, lanes, st_atoms}
use Rattle.ae_sttype.specs.Size.{IsInSize}
use Rattle.ae_sttype.proofs.Bounds.{lanes-le-atoms}
use Rattle.ae_rewrite.specs.StProgramTree.{StFuncTree}
use Rattle.ae_rewrite.specs.Sound.{IsSoundFunc, item_layout, item_layouts}
use Rattle.ae_delay.proofs.Instances.{all_items}
use Rattle.ae_netlist.specs.declared.cell.NetId.{NetId}
use Rattle.ae_netlist.specs.declared.cell.Port.{Port}
use Rattle.ae_netlist.specs.declared.cell.Port.TheVariants.{Out}
use Rattle.ae_netlist.specs.declared.cell.SizedCell.{SizedCell}
use Rattle.ae_netlist.specs.declared.cell.Outlet.{Outlet}
use Rattle.ae_netlist.specs.Circuit.{Circuit, width_of}
use Rattle.ae_netlist.proofs.Growing.{net_width}
use Rattle.ae_ops.specs.Waves.{AreNets, HaveOwnWidths}
use Rattle.ae_ops.specs.Blocks.{Stream, stream_of, stream_widths}
use Rattle.ae_flow.proofs.Widths.{drop_repeated}
use Rattle.ae_ports.specs.Ports.{SizedPort, lane_ports, outlet_port, output_ports, stream_ports, word_ports}
use Rattle.ae_lower.specs.Circuits.{item_stream}
use Rattle.ae_lower.specs.PortNets.{AddsOutputs, net_widths}
use Rattle.ae_lower.proofs.Inputs.{ports_from_push, sized_port, word_ports_push}
use Rattle.ae_lower.proofs.Wiring.{get_stretch, stretch_long}
use Rattle.ae_fold.proofs.Planning.{columns_small as columns_few}
use Rattle.ae_ports.proofs.Columns.{element_columns as widths_long}

-- ---- outputs that are added

pub outputs_cells : {a b : Circuit} {ps : List SizedPort} {ns : List NetId} → AddsOutputs a b ps ns → b.cells ≡ a.cells
outputs_cells h = ap (λ (n : Circuit). n.cells) h.added

pub outputs_count : {a b : Circuit} {ps : List SizedPort} {ns : List NetId} → AddsOutputs a b ps ns → length b.outlets ≡ length a.outlets + length ns
outputs_count {a} h =
    ap (λ (n : Circuit). length n.outlets) h.added
    ∙ (length-append a.outlets h.outlets ∙ ap (λ n. length a.outlets + n) (sym (length-map h.outlets (λ (o : Outlet). o.net)) ∙ ap length h.show))

pub outputs_none : (c : Circuit) → AddsOutputs c c [] []
outputs_none c = record { outlets = []; added = ap (λ os. record c { outlets = os }) (sym (append-nil c.outlets)); are = refl; show = refl }

pub outputs_trans : {a b c : Circuit} {ps qs : List SizedPort} {ns ms : List NetId} → AddsOutputs a b ps ns → AddsOutputs b c qs ms
    → AddsOutputs a c (ps ++ qs) (ns ++ ms)
outputs_trans {a} {b} {c} {ps} {qs} {ns} {ms} p q = record {
  outlets = p.outlets ++ q.outlets;
  added = q.added ∙ (ap (λ (n : Circuit). record n { outlets = n.outlets ++ q.outlets }) p.added ∙
      ap (λ os. record a { outlets = os }) (append_assoc a.outlets p.outlets q.outlets));
  are = map-append (outlet_port a.cells) p.outlets q.outlets
      ∙ (ap (λ rs. rs ++ map (outlet_port a.cells) q.outlets) p.are ∙
      ap (λ rs. ps ++ rs) (ap (λ cells. map (outlet_port cells) q.outlets) (sym (outputs_cells p)) ∙ q.are));
  show = map-append (λ (o : Outlet). o.net) p.outlets q.outlets ∙ (ap (λ rs. rs ++ map (λ (o : Outlet). o.net) q.outlets) p.show ∙ ap (λ rs. ns ++ rs) q.show);
}

pub outputs_one : (a b : Circuit) (at : Port) (net : NetId) → b ≡ record a { outlets = a.outlets ++ (record { port = at; net = net }) ∷ [] }
    → AddsOutputs a b (sized_port at (width_of a.cells net.0) ∷ []) (net ∷ [])
outputs_one a b at net made = record { outlets = (record { port = at; net = net }) ∷ []; added = made; are = refl; show = refl }

-- ---- nets and their widths

pub own_widths : {cells : List SizedCell} {widths : List ℕ} {nets : List NetId} → AreNets cells widths nets → HaveOwnWidths cells nets
own_widths {cells} {widths} {nets} h = λ q net found.
    let wide : slice_get widths q ≡ Some (get_or widths q 0) = slice_get-get_or widths q 0 (omega (arith, slice_get_within nets q net found, h.long)) in
    let there = h.each q (get_or widths q 0) net wide found in
    rw (net_width there) there

pub widths_of_nets : (cells : List SizedCell) (widths : List ℕ) (nets : List NetId) → AreNets cells widths nets → net_widths cells nets ≡ widths
widths_of_nets cells widths nets h =
    let f : NetId → ℕ = λ n. width_of cells n.0 in
    same_lists (map f nets) widths (length-map nets f ∙ h.long) (λ q d below.
    let inside : q < length nets = omega (arith, below, length-map nets f) in
    let none : NetId = record { 0 = 0 } in
    let wide : slice_get widths q ≡ Some (get_or widths q d) = slice_get-get_or widths q d (omega (arith, inside, h.long)) in
    let found : slice_get nets q ≡ Some (get_or nets q none) = slice_get-get_or nets q none inside in
    get_or-map f nets q none d inside ∙ net_width (h.each q (get_or widths q d) (get_or nets q none) wide found))

-- the nets of one lane have the widths of its words
pub lane_widths : (cells : List SizedCell) (ws : List ℕ) (lanes lane words : ℕ) (nets : List NetId) → words ≡ length ws → lane < lanes
    → AreNets cells (repeated lanes ws) nets → net_widths cells (take words (drop (lane * words) nets)) ≡ ws
lane_widths cells ws lanes lane words nets size below h =
    let f : NetId → ℕ = λ n. width_of cells n.0 in
    let rest : ℕ = lanes - lane - 1 in
    let all : lanes ≡ lane + suc rest = omega arith in
    let from : lane * words ≡ lane * length ws + 0 = omega (arith, ap (λ n. lane * n) size) in
    sym (take-map f words (drop (lane * words) nets))
    ∙ (ap (take words) (sym (drop-map f (lane * words) nets))
    ∙ (ap (λ vs. take words (drop (lane * words) vs)) (widths_of_nets cells (repeated lanes ws) nets h)
    ∙ (ap (λ n. take words (drop n (repeated lanes ws))) from
    ∙ (ap (λ n. take words (drop (lane * length ws + 0) (repeated n ws))) all
    ∙ (ap (take words) (drop_repeated lane (suc rest) 0 ws) ∙ take_at ws (repeated rest ws) words (sym size))))))

pub stretch_own : (cells : List SizedCell) (nets : List NetId) (k m : ℕ) → k + m ≤ length nets → HaveOwnWidths cells nets
    → HaveOwnWidths cells (take m (drop k nets))
stretch_own cells nets k m room h = λ q net found.
    let below : q < m = omega (arith, slice_get_within (take m (drop k nets)) q net found, stretch_long nets k m room) in
    h (k + q) net (sym (get_stretch nets k m q below) ∙ found)

-- ---- steps of the loops

pub words_more : (a b c : Circuit) (at : ℕ → Port) (nets : List NetId) (j : ℕ) (net : NetId) → slice_get nets j ≡ Some net
    → c ≡ record b { outlets = b.outlets ++ (record { port = at j; net = net }) ∷ [] }
    → AddsOutputs a b (word_ports at 0 (net_widths a.cells (take j nets))) (take j nets)
    → AddsOutputs a c (word_ports at 0 (net_widths a.cells (take (j + 1) nets))) (take (j + 1) nets)
words_more a b c at nets j net found made was =
    let f : NetId → ℕ = λ n. width_of a.cells n.0 in
    let h : j < length nets = slice_get_within nets j net found in
    let is : get_or nets j net ≡ net = get_or_from_slice_get nets j net net found in
    let long : 0 + length (map f (take j nets)) ≡ j = omega (arith, length-map (take j nets) f, length-take-le j nets (omega arith)) in
    let ports : word_ports at 0 (map f (take (j + 1) nets)) ≡ word_ports at 0 (map f (take j nets)) ++ sized_port (at j) (width_of a.cells net.0) ∷ [] =
    ap (word_ports at 0) (map_more f nets j net h)
    ∙ (word_ports_push at 0 (map f (take j nets)) (f (get_or nets j net))
    ∙ (ap (λ n. word_ports at 0 (map f (take j nets)) ++ sized_port (at n) (f (get_or nets j net)) ∷ []) long
    ∙ ap (λ (n : NetId). word_ports at 0 (map f (take j nets)) ++ sized_port (at j) (f n) ∷ []) is)) in
    let more : take (j + 1) nets ≡ take j nets ++ net ∷ [] = take_more nets j net h ∙ ap (λ (n : NetId). take j nets ++ n ∷ []) is in
    let one : AddsOutputs b c (sized_port (at j) (width_of a.cells net.0) ∷ []) (net ∷ []) =
    subst (λ (cells : List SizedCell). AddsOutputs b c (sized_port (at j) (width_of cells net.0) ∷ []) (net ∷ [])) (outputs_cells was)
    (outputs_one b c (at j) net made) in
    subst (λ (ps : List SizedPort). AddsOutputs a c ps (take (j + 1) nets)) (sym ports)
    (subst (λ (ns : List NetId). AddsOutputs a c (word_ports at 0 (map f (take j nets)) ++ sized_port (at j) (width_of a.cells net.0) ∷ []) ns) (sym more)
    (outputs_trans was one))

-- the nets of the lanes so far, and of one more
stretch_more : (nets : List NetId) (k m : ℕ) → take (k + m) nets ≡ take k nets ++ take m (drop k nets)
stretch_more nets zero m = ap (λ n. take n nets) (let e : 0 + m ≡ m = omega arith in e)
stretch_more [] (suc k) m = take-nothing (suc k + m) ∙ sym (take-nothing m)
  where
    take-nothing : (n : ℕ) → take n (let none : List NetId = [] in none) ≡ []
    take-nothing zero = refl
    take-nothing (suc n) = refl
stretch_more (x ∷ xs) (suc k) m = ap (λ n. take n (x ∷ xs)) (let e : suc k + m ≡ suc (k + m) = omega arith in e) ∙ ap (λ ns. x ∷ ns) (stretch_more xs k m)

pub lanes_more : (a b c : Circuit) (at : ℕ → ℕ → Port) (ws : List ℕ) (lanes lane words : ℕ) (nets slice : List NetId) → words ≡ length ws → lane < lanes
    → AreNets a.cells (repeated lanes ws) nets → slice ≡ take words (drop (lane * words) nets)
    → AddsOutputs a b (lane_ports at ws lane) (take (lane * words) nets) → AddsOutputs b c (word_ports (at lane) 0 (net_widths b.cells slice)) slice
    → AddsOutputs a c (lane_ports at ws (lane + 1)) (take ((lane + 1) * words) nets)
lanes_more a b c at ws lanes lane words nets slice size below h is was one =
    let widths : net_widths b.cells slice ≡ ws = ap (λ cells. net_widths cells slice) (outputs_cells was) ∙
    (ap (net_widths a.cells) is ∙ lane_widths a.cells ws lanes lane words nets size below h) in
    let next : (lane + 1) * words ≡ lane * words + words = omega arith in
    let now : AddsOutputs b c (word_ports (at lane) 0 ws) (take words (drop (lane * words) nets)) =
    subst (λ (us : List ℕ). AddsOutputs b c (word_ports (at lane) 0 us) (take words (drop (lane * words) nets))) widths
    (subst (λ (ns : List NetId). AddsOutputs b c (word_ports (at lane) 0 (net_widths b.cells slice)) ns) is one) in
    rw (next, add-one, stretch_more nets (lane * words) words) (outputs_trans was now)

-- the columns of one more lane are among all
pub lane_inside : (t : StTree) (lane : ℕ) → IsInSize t → lane < lanes t → (lane * element_words t + element_words t ≤ lanes t * element_words t)
    × (lanes t * element_words t ≤ 16384)
lane_inside t lane size below =
    let up : (lane + 1) * element_words t ≤ lanes t * element_words t = mul-le-mul_right (element_words t) (let z : lane + 1 ≤ lanes t = omega arith in z) in
    let all : lanes t * element_words t ≤ st_atoms t * element_words t = mul-le-mul_right (element_words t) (lanes-le-atoms t size.lengths) in
    (omega arith, omega (arith, size.in_words))

pub columns_long : (cells : List SizedCell) (t : StTree) (nets : List NetId) → AreNets cells (stream_widths (stream_of t)) nets
    → length nets ≡ lanes t * element_words t
columns_long cells t nets h = h.long ∙ (length-repeated (lanes t) (stream_of t).widths ∙ ap (λ n. lanes t * n) (widths_long t))

-- ---- results

abbrev AtResult : ℕ → ℕ → ℕ → Port
AtResult result lane word = Out result lane word

abbrev pub all_nets : List (List NetId) → List NetId
all_nets bundles = flat_map (λ (b : List NetId). b) bundles

pub results_more : {X : Type 0} (a b c : Circuit) (f : X → Stream) (chosen : List X) (bundles : List (List NetId)) (r : ℕ) (i : X) (nets : List NetId)
    → slice_get chosen r ≡ Some i → slice_get bundles r ≡ Some nets
    → AddsOutputs a b (output_ports (map f (take r chosen))) (all_nets (take r bundles)) → AddsOutputs b c (stream_ports (Out r) (f i)) nets
    → AddsOutputs a c (output_ports (map f (take (r + 1) chosen))) (all_nets (take (r + 1) bundles))
results_more {X} a b c f chosen bundles r i nets found has was one =
    let h : r < length chosen = slice_get_within chosen r i found in
    let long : 0 + length (map f (take r chosen)) ≡ r = omega (arith, length-map (take r chosen) f, length-take-le r chosen (omega arith)) in
    let ports : output_ports (map f (take (r + 1) chosen)) ≡ output_ports (map f (take r chosen)) ++ stream_ports (Out r) (f i) =
    ap output_ports (map_more f chosen r i h)
    ∙ (ports_from_push AtResult 0 (map f (take r chosen)) (f (get_or chosen r i))
    ∙ (ap (λ n. output_ports (map f (take r chosen)) ++ stream_ports (AtResult n) (f (get_or chosen r i))) long
    ∙ ap (λ (x : X). output_ports (map f (take r chosen)) ++ stream_ports (Out r) (f x)) (get_or_from_slice_get chosen r i i found))) in
    let more : all_nets (take (r + 1) bundles) ≡ all_nets (take r bundles) ++ nets =
    ap all_nets (take_more bundles r nets (slice_get_within bundles r nets has) ∙
    ap (λ (ns : List NetId). take r bundles ++ ns ∷ []) (get_or_from_slice_get bundles r nets nets has))
    ∙ (flat_map-append (λ (b : List NetId). b) (take r bundles) (nets ∷ []) ∙ ap (λ ns. all_nets (take r bundles) ++ ns) (append-nil nets)) in
    rw (ports, more) (outputs_trans was one)

-- the layout of a result, and how many nets it has
pub result_sized : (s : StFuncTree) (t : StTree) (r i : ℕ) → ((k : ℕ) × IsSoundFunc k s) → slice_get s.results r ≡ Some i → t ≡ item_layout (item_layouts s) i
    → IsInSize t
result_sized s t r i sound found is = subst IsInSize (sym is) (all_items sound.0 s sound.1 i (sound.1.results r i found)).size

pub result_nets : (a b : Circuit) (s : StFuncTree) (t : StTree) (ps : List SizedPort) (ns : List NetId) (i : ℕ) (nets : List NetId) → AddsOutputs a b ps ns
    → t ≡ item_layout (item_layouts s) i → AreNets a.cells (stream_widths (item_stream s i)) nets
    → AreNets b.cells (stream_widths (stream_of t)) nets
result_nets a b s t ps ns i nets was is h =
    subst (λ (u : StTree). AreNets b.cells (stream_widths (stream_of u)) nets) (sym is)
    (subst (λ (cells : List SizedCell). AreNets cells (stream_widths (item_stream s i)) nets) (sym (outputs_cells was)) h)

pub results_few : (s : StFuncTree) (r i : ℕ) → ((k : ℕ) × IsSoundFunc k s) → slice_get s.results r ≡ Some i → r < 8
results_few s r i sound found = omega (arith, slice_get_within s.results r i found, sound.1.few_results)

pub result_few : (cells : List SizedCell) (t : StTree) (nets : List NetId) → IsInSize t → AreNets cells (stream_widths (stream_of t)) nets → length nets ≤ 16384
result_few cells t nets size h = omega (arith, columns_long cells t nets h, columns_few t size)

pub result_grows : (a b c : Circuit) (s : StFuncTree) (t : StTree) (ps qs : List SizedPort) (ns : List NetId) (r i : ℕ) (nets : List NetId)
    → ((k : ℕ) × IsSoundFunc k s) → slice_get s.results r ≡ Some i → t ≡ item_layout (item_layouts s) i
    → AreNets a.cells (stream_widths (item_stream s i)) nets → AddsOutputs a b ps ns → AddsOutputs b c qs nets → length b.outlets ≤ r * 16384
    → length c.outlets ≤ (r + 1) * 16384
result_grows a b c s t ps qs ns r i nets sound found is h was one few =
    let all : length nets ≤ 16384 = result_few b.cells t nets (result_sized s t r i sound found is) (result_nets a b s t ps ns i nets was is h) in
    omega (arith, outputs_count one)
