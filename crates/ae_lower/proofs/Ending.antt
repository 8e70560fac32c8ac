-- After the last node, and after the last body.
use Rattle.std.proofs.Common.{ℕ, ◌≡◌, ◌+◌, ◌*◌, ◌<◌, ◌≤◌, List, [], length, map, take, sum_by, get_or, Some, slice_get, arith, refl, ap, sym, ◌∙◌, subst}
use Rattle.std.proofs.Math.Nat.{mul-le-mul_right}
use Rattle.std.proofs.lemmas.List.{take_all}
use Rattle.std.proofs.lemmas.Option.{same_Some, slice_get-get_or}
use Rattle.ae_sttype.specs.StTree.{atom, sseq}
use Rattle.ae_word.specs.AtomTree.{unsigned_word}
use Rattle.ae_netlist.specs.declared.cell.NetId.{NetId}
use Rattle.ae_netlist.specs.Circuit.{Circuit, Extends}
use Rattle.ae_ops.specs.Blocks.{AreBundles}
use Rattle.ae_rewrite.specs.StProgramTree.{join, StNodeTree, StFuncTree}
use Rattle.ae_rewrite.specs.Scheduled.{IsFilling}
use Rattle.ae_rewrite.specs.Sound.{IsSoundFunc, IsSound, item_layout, item_layouts}
use Rattle.ae_delay.specs.declared.own.OwnCosts.{OwnCosts}
use Rattle.ae_delay.specs.Costs.{NodeTiming, all_uses, chain_mems, latest, slack_load}
use Rattle.ae_delay.proofs.Instances.{all_items}
use Rattle.ae_retime.specs.Slacks.{joint_slacks, joint_uses}
use Rattle.ae_flow.specs.Flow.{Callee, callees, first_result}
use Rattle.ae_flow.specs.Fitted.{AreFitted, elements_stream}
use Rattle.ae_ports.specs.Ports.{streams_of}
use Rattle.ae_flow.specs.Laws.{FlowsFit}
use Rattle.ae_lower.specs.Growth.{AddsMulsAndMemories, GrowsBy, IsBuilt, Spends}
use Rattle.ae_lower.specs.Delaying.{AreDelayed, delay_load}
use Rattle.ae_lower.specs.Lowering.{AreChosen, IsNodeAt, arrivals_in, bodies_part, instance_costs, lane_nets, timings_in}
use Rattle.ae_lower.proofs.Growing.{by_trans, spends_trans}
use Rattle.ae_lower.proofs.NodeLaw.{items_wait}
use Rattle.ae_lower.proofs.BodyLaw.{bodies_built, lane_bundles}
use Rattle.ae_lower.proofs.Costing.{costs_are, sums_most, timings_long, wait_at}
use Rattle.ae_lower.proofs.Instances.{AreLowered, AreSpread, HaveSpent, bundles_grow, standing}
use Rattle.ae_lower.proofs.Placed.{standing_delays}
use Rattle.ae_retime.proofs.Lists.{layouts_long as items_many}

-- ---- nodes

pub record NodeThere (instances : List StFuncTree) (k j : ℕ) (s : StFuncTree) : Type 0 where
  pub node : StNodeTree
  pub timing : NodeTiming
  pub is_at : IsNodeAt instances k j s node timing
  pub most : sum_by (λ (t : NodeTiming). t.load) (take j (timings_in instances k s)) + timing.load ≤ (instance_costs instances k).load

pub node_there : (instances : List StFuncTree) (k j : ℕ) (s : StFuncTree) → slice_get instances k ≡ Some s → j < length s.nodes → NodeThere instances k j s
node_there instances k j s func there =
    let ts : List NodeTiming = timings_in instances k s in
    let none : NodeTiming = record { arrival = 0; line = 0; latency = 0; load = 0; muls = 0; mems = 0; uses = [] } in
    let no_node : StNodeTree = record { op = join; args = []; type = sseq 0 (atom (unsigned_word 1)); copies = 1; line = 0 } in
    let t : NodeTiming = get_or ts j none in
    let timing : slice_get ts j ≡ Some t = slice_get-get_or ts j none (omega (arith, timings_long instances k s)) in
    let most = sums_most (λ (x : NodeTiming). x.load) instances k j s t timing in
    record {
      node = get_or s.nodes j no_node;
      timing = t;
      is_at = record { func = func; node = slice_get-get_or s.nodes j no_node there; timing = timing };
      most = subst (λ (c : OwnCosts). sum_by (λ (x : NodeTiming). x.load) (take j ts) + t.load ≤ c.load) (sym (costs_are instances k s func)) (omega arith);
    }

-- ---- results

pub result_below : (instances : List StFuncTree) (k : ℕ) (s : StFuncTree) (chosen : List ℕ) → IsSound instances → slice_get instances k ≡ Some s
    → chosen ≡ s.results → (r i : ℕ) → slice_get chosen r ≡ Some i → i < length s.ins + length s.nodes
result_below instances k s chosen sound func same r i found =
    let l = (sound.each k s func).results r i (sym (ap (λ xs. slice_get xs r) same) ∙ found) in
    omega (arith, l, items_many s)

-- the delays of the results
pub results_fit : (instances : List StFuncTree) (k at rst : ℕ) (s : StFuncTree) (ins items : List (List NetId)) (old mid : Circuit) (waits : List ℕ)
    → IsSound instances → slice_get instances k ≡ Some s → waits ≡ joint_slacks (arrivals_in instances k s) s.results
    → AreLowered instances k at rst s ins old mid (length s.nodes) items
    → sum_by (λ (t : NodeTiming). t.load) (take (length s.nodes) (timings_in instances k s)) + delay_load items waits
    s.results ≤ (instance_costs instances k).load
results_fit instances k at rst s ins items old mid waits sound func ew was =
    let ts : List NodeTiming = timings_in instances k s in
    let arrivals : List ℕ = arrivals_in instances k s in
    let all : take (length s.nodes) ts ≡ ts = take_all (length s.nodes) ts (omega (arith, timings_long instances k s)) in
    let stand = standing mid.cells rst at (callees (take k instances)) s arrivals ins (length s.ins + length s.nodes) items was.have in
    let delays : delay_load items waits s.results ≡ slack_load (item_layouts s) (joint_uses arrivals s.results) = standing_delays mid.cells s
    (length s.ins + length s.nodes) items arrivals waits s.results stand (result_below instances k s s.results sound func refl) ew in
    let nodes : sum_by (λ (t : NodeTiming). t.load) (take (length s.nodes) ts) ≡ sum_by (λ (t : NodeTiming). t.load) ts = ap
    (sum_by (λ (t : NodeTiming). t.load)) all in
    subst (λ (c : OwnCosts). sum_by (λ (t : NodeTiming). t.load) (take (length s.nodes) ts) + delay_load items waits s.results ≤ c.load)
    (sym (costs_are instances k s func)) (omega (arith, delays, nodes))

pub results_grow : (instances : List StFuncTree) (k at rst : ℕ) (s : StFuncTree) (ins items : List (List NetId)) (old mid new : Circuit) (waits : List ℕ)
    → IsSound instances → slice_get instances k ≡ Some s → waits ≡ joint_slacks (arrivals_in instances k s) s.results
    → AreLowered instances k at rst s ins old mid (length s.nodes) items → GrowsBy mid new (delay_load items waits s.results)
    → GrowsBy old new (instance_costs instances k).load
results_grow instances k at rst s ins items old mid new waits sound func ew was grows =
    by_trans (instance_costs instances k).load (results_fit instances k at rst s ins items old mid waits sound func ew was) was.grows grows

pub results_add : (instances : List StFuncTree) (k : ℕ) (s : StFuncTree) (old mid new : Circuit) (most left less : ℕ) → slice_get instances k ≡ Some s
    → most ≤ chain_mems (item_layouts s) (all_uses s (timings_in instances k s))
    → HaveSpent instances k s old mid (length s.nodes) most left → Spends mid new 0 0 left less
    → AddsMulsAndMemories old new (instance_costs instances k).muls (instance_costs instances k).mems
results_add instances k s old mid new most left less func few was adds =
    let ts : List NodeTiming = timings_in instances k s in
    let all : take (length s.nodes) ts ≡ ts = take_all (length s.nodes) ts (omega (arith, timings_long instances k s)) in
    let muls : sum_by (λ (t : NodeTiming). t.muls) (take (length s.nodes) ts) ≡ sum_by (λ (t : NodeTiming). t.muls) ts = ap
    (sum_by (λ (t : NodeTiming). t.muls)) all in
    let mems : sum_by (λ (t : NodeTiming). t.mems) (take (length s.nodes) ts) ≡ sum_by (λ (t : NodeTiming). t.mems) ts = ap
    (sum_by (λ (t : NodeTiming). t.mems)) all in
    let whole = spends_trans was adds in
    subst (λ (c : OwnCosts). AddsMulsAndMemories old new c.muls c.mems) (sym (costs_are instances k s func)) (record {
      muls = omega (arith, muls, whole.muls);
      memories = omega (arith, mems, few, whole.memories);
      whole = whole.whole;
    })

pub results_chosen : (instances : List StFuncTree) (k at rst : ℕ) (s : StFuncTree) (ins items : List (List NetId)) (old mid new : Circuit) (waits : List ℕ)
    (results : List (List NetId)) → IsSound instances → slice_get instances k ≡ Some s → waits ≡ joint_slacks (arrivals_in instances k s) s.results
    → AreLowered instances k at rst s ins old mid (length s.nodes) items → Extends mid.cells new.cells
    → AreDelayed mid.cells new.cells rst items waits s.results results
    → (z : StFuncTree) → slice_get instances k ≡ Some z → AreChosen new.cells rst at (callees (take k instances)) z ins
    (instance_costs instances k).latency z.results results
results_chosen instances k at rst s ins items old mid new waits results sound func ew was up late z found =
    let known : List Callee = callees (take k instances) in
    let arrivals : List ℕ = arrivals_in instances k s in
    let f : IsSoundFunc k s = sound.each k s func in
    let count : ℕ = length s.ins + length s.nodes in
    let fill : (i : ℕ) → i < count → IsFilling s.budget (item_layout (item_layouts s) i) = λ i low. all_items k s f i (omega (arith, items_many s)) in
    let in_time : (r i : ℕ) → slice_get s.results r ≡ Some i
    → get_or arrivals i 0 + get_or waits r 0 ≡ latest arrivals s.results = λ r i g. wait_at arrivals s.results waits r i ew g in
    let made : AreChosen new.cells rst at known s ins (latest arrivals s.results) s.results results = items_wait mid.cells new.cells rst at known s arrivals
    ins count items (latest arrivals s.results) waits s.results results up fill
    (result_below instances k s s.results sound func refl) in_time was.have late in
    let latency : latest arrivals s.results ≡ (instance_costs instances k).latency = sym (ap (λ (c : OwnCosts). c.latency) (costs_are instances k s func)) in
    subst (λ (g : StFuncTree). AreChosen new.cells rst at known g ins (instance_costs instances k).latency g.results results) (same_Some s z (sym func ∙ found))
    (subst (λ (d : ℕ). AreChosen new.cells rst at known s ins d s.results results) latency made)

-- ---- bodies

pub next_le : (lane copies load : ℕ) → lane < copies → lane * load + load ≤ copies * load
next_le lane copies load h =
    let up : (lane + 1) * load ≤ copies * load = mul-le-mul_right load (let z : lane + 1 ≤ copies = omega arith in z) in omega (arith, up)

pub own_lane : (instances : List StFuncTree) (m copies lane : ℕ) (args own given : List (List NetId)) (old new : Circuit) → lane < copies
    → Extends old.cells new.cells → own ≡ map (lane_nets copies lane) args → given ≡ own
    → ((f : StFuncTree) → slice_get instances m ≡ Some f → (slots : ℕ) × AreBundles old.cells (map (elements_stream slots copies) f.ins) args)
    → (f : StFuncTree) → slice_get instances m ≡ Some f → AreBundles new.cells (streams_of f.ins) given
own_lane instances m copies lane args own given old new h up is same asked f found =
    let a = asked f found in
    subst (λ (bs : List (List NetId)). AreBundles new.cells (streams_of f.ins) bs) (sym (same ∙ is))
    (lane_bundles new.cells a.0 copies lane f.ins args h (bundles_grow _ args up a.1))

pub some_results : (instances : List StFuncTree) (m : ℕ) → IsSound instances → (f : StFuncTree) → slice_get instances m ≡ Some f → 1 ≤ length f.results
some_results instances m sound f found = (sound.each m f found).some_results

pub all_bodies : (instances : List StFuncTree) (m at rst copies : ℕ) (args : List (List NetId)) (old new : Circuit) (out : List NetId) → FlowsFit
    → IsSound instances → AreFitted instances → 0 < copies
    → ((f : StFuncTree) → slice_get instances m ≡ Some f → (slots : ℕ) × AreBundles old.cells (map (elements_stream slots copies) f.ins) args)
    → AreSpread instances m at rst copies args old new copies out
    → (f : StFuncTree) (slots rounds : ℕ) → slice_get instances m ≡ Some f → slots ≤ rounds
    → IsBuilt new rst at (bodies_part (callees (take m instances)) f slots rounds copies (instance_costs instances m).latency) args out
all_bodies instances m at rst copies args old new out flows sound fitted some asked was f slots rounds found few =
    let g : IsSoundFunc m f = sound.each m f found in
    let first_one : first_result f < length (item_layouts f) = g.results 0 (first_result f)
    (slice_get-get_or f.results 0 0 (let l = g.some_results in omega arith)) in
    let a = asked f found in
    bodies_built new old.cells rst at (callees (take m instances)) f a.0 copies slots rounds (instance_costs instances m).latency args out some few g.ins
    (all_items m f g (first_result f) first_one)
    (λ vs words. flows instances m f vs sound fitted found words (first_result f) first_one) a.1 (was.lanes f found)
