-- A node in its place: what it asks of its arguments, and what comes of it.
use Rattle.std.proofs.Common.{ℕ, ◌≡◌, ◌+◌, ◌*◌, ◌<◌, ◌≤◌, List, [], length, length-append, map, take, sum_by, get_or, Some, slice_get, arith, refl, ap, sym, ◌∙◌, subst}
use Rattle.std.specs.Option.{option_and_then, option_map}
use Rattle.std.proofs.Math.Nat.{mul-le-mul_right}
use Rattle.std.proofs.lemmas.List.{length-map, length-take-le}
use Rattle.std.proofs.lemmas.Option.{get_or_from_slice_get, same_Some, slice_get-get_or, slice_get-map, slice_get_within}
use Rattle.ae_eval.proofs.Items.{entry-grown, slice_get-take}
use Rattle.std.proofs.lemmas.List.{take-take}
use Rattle.std.specs.Prelude.{unwrap_or}
use Rattle.ae_word.specs.AtomTree.{unsigned_word}
use Rattle.ae_sttype.specs.StTree.{StTree, atom, sseq}
use Rattle.ae_sttype.proofs.Bounds.{atoms_pos}
use Rattle.ae_netlist.specs.declared.cell.NetId.{NetId}
use Rattle.ae_netlist.specs.declared.cell.SizedCell.{SizedCell}
use Rattle.ae_netlist.specs.Circuit.{Circuit, Extends}
use Rattle.ae_netlist.proofs.Growing.{net_width}
use Rattle.ae_ops.specs.Waves.{AreNets, HaveOwnWidths}
use Rattle.ae_ops.specs.Blocks.{AreBundles, Stream, stream_of, stream_widths}
use Rattle.ae_rewrite.specs.declared.st_program.StFunc.{StFunc}
use Rattle.ae_rewrite.specs.declared.st_program.StNode.{StNode}
use Rattle.ae_rewrite.specs.declared.st_program.StOp.{StOp}
use Rattle.ae_rewrite.specs.declared.st_program.StOp.TheVariants.{Body}
use Rattle.ae_rewrite.specs.StProgramTree.{StOpTree, word, join, first, second, fixed, move, fold, scan, body, StNodeTree, StFuncTree, st_func_tree, st_func_trees, st_node_tree, st_op_tree}
use Rattle.ae_rewrite.specs.Scheduled.{AreFilling, IsFilling, node_layouts}
use Rattle.ae_rewrite.specs.Sound.{IsSoundFunc, IsSoundNode, IsSoundOp, IsSound, item_layout, item_layouts}
use Rattle.ae_delay.specs.declared.own.OwnCosts.{OwnCosts}
use Rattle.ae_delay.specs.OwnCosts.{body_costs, op_costs}
use Rattle.ae_delay.specs.Costs.{NodeTiming, all_costs, latest, node_costs, slack_load, uses_at}
use Rattle.ae_delay.proofs.Instances.{all_items, node_sound}
use Rattle.ae_retime.specs.Slacks.{AreSlacks, SlackTables, item_chains, joint_slacks, joint_uses}
use Rattle.ae_flow.specs.Flow.{Callee, callee, callee_at, callees, first_result, no_callee}
use Rattle.ae_flow.specs.Fitted.{FitsBody, FitsNode, FitsOp, elements_stream}
use Rattle.ae_ports.specs.Ports.{streams_of}
use Rattle.ae_flow.specs.Laws.{FlowsFit}
use Rattle.ae_lower.specs.Growth.{AddsMulsAndMemories, GrowsBy, IsBuilt, Spends}
use Rattle.ae_lower.specs.Nodes.{CallsNothing, IsReady, arguments_of, node_part, plain_costs}
use Rattle.ae_lower.specs.Delaying.{AreDelayed, delay_load}
use Rattle.ae_lower.specs.Lowering.{AreChosen, AreItems, AreStanding, IsItem, IsLight, IsNodeAt, IsTimed, arrivals_in, bodies_part, instance_costs, timings_in}
use Rattle.ae_lower.proofs.Growing.{by_trans, spends_more, spends_up}
use Rattle.ae_lower.proofs.NodeLaw.{items_wait, node_item}
use Rattle.ae_lower.proofs.BodyLaw.{body_node, columns_long, result_layout}
use Rattle.ae_lower.proofs.Costing.{NodeFacts, arrivals_long, callee_costs, costs_are, delays_cost, node_facts, sums_most, timings_long, wait_at}
use Rattle.ae_retime.proofs.Lists.{layouts_long as items_many}

abbrev none_layout : StTree
none_layout = sseq 0 (atom (unsigned_word 1))

-- ---- instances and nodes as trees

pub func_tree : (funcs : List StFunc) (k : ℕ) (s : StFunc) → slice_get funcs k ≡ Some s → slice_get (st_func_trees funcs) k ≡ Some (st_func_tree s)
func_tree funcs k s h = slice_get-map st_func_tree funcs k ∙ ap (option_map st_func_tree) h

pub node_tree : (s : StFunc) (j : ℕ) (n : StNode) → j < length (st_func_tree s).nodes → n ≡ get_or s.nodes.items j n
    → slice_get (st_func_tree s).nodes j ≡ Some (st_node_tree n)
node_tree s j n l is =
    let there : slice_get s.nodes.items j ≡ Some n = slice_get-get_or s.nodes.items j n (omega (arith, l, length-map s.nodes.items st_node_tree)) ∙
    ap Some (sym is) in
    slice_get-map st_node_tree s.nodes.items j ∙ ap (option_map st_node_tree) there

pub calls_nothing : (op : StOp) → ((k : ℕ) → op ≡ Body k → ⊥) → CallsNothing (st_op_tree op)
calls_nothing (Body k) h = h k refl
calls_nothing _ h = tt

-- ---- layouts of items

item_fills : (k : ℕ) (s : StFuncTree) → IsSoundFunc k s → AreFilling s.budget (item_layouts s)
item_fills k s h i x found =
    let is : item_layout (item_layouts s) i ≡ x = ap (λ o. unwrap_or o none_layout) found in
    subst (λ (z : StTree). IsFilling s.budget z) is (all_items k s h i (slice_get_within (item_layouts s) i x found))

pub arrivals_told : (instances : List StFuncTree) (told : List (List ℕ)) (k at : ℕ) (s : StFuncTree) → IsTimed instances told
    → ((x : StFuncTree) × IsLight instances k at x) → slice_get instances k ≡ Some s → slice_get told k ≡ Some (arrivals_in instances k s)
arrivals_told instances told k at s timed light found = timed.arrivals k s found

pub waits_told : (instances : List StFuncTree) (t : SlackTables) (k j : ℕ) (s : StFuncTree) (n : StNodeTree) → AreSlacks instances t
    → slice_get instances k ≡ Some s → slice_get s.nodes j ≡ Some n
    → option_and_then (λ nodes. slice_get nodes j) (slice_get t.arguments k) ≡ Some (joint_slacks (arrivals_in instances k s) n.args)
waits_told instances t k j s n slacks func node =
    let waits : StNodeTree → List ℕ = λ m. joint_slacks (arrivals_in instances k s) m.args in
    ap (option_and_then (λ nodes. slice_get nodes j)) (slacks.arguments.each k s (slice_get_within instances k s func) func) ∙
    (slice_get-map waits s.nodes j ∙ ap (option_map waits) node)

pub result_waits_told : (instances : List StFuncTree) (t : SlackTables) (k : ℕ) (s : StFuncTree) → AreSlacks instances t → slice_get instances k ≡ Some s
    → slice_get t.results k ≡ Some (joint_slacks (arrivals_in instances k s) s.results)
result_waits_told instances t k s slacks func = slacks.results.each k s (slice_get_within instances k s func) func

pub chains_told : (instances : List StFuncTree) (t : SlackTables) (k : ℕ) (s : StFuncTree) → AreSlacks instances t → slice_get instances k ≡ Some s
    → slice_get t.chains k ≡ Some (item_chains (arrivals_in instances k s) s)
chains_told instances t k s slacks func = slacks.chains.each k s (slice_get_within instances k s func) func

-- ---- a node in its place

pub record IsPlaced (instances : List StFuncTree) (k j at : ℕ) (s : StFuncTree) (n : StNodeTree) (own : List ℕ) : Type 0 where
  pub func : slice_get instances k ≡ Some s
  pub node : slice_get s.nodes j ≡ Some n
  pub arrivals : own ≡ arrivals_in instances k s
  pub sound : IsSoundFunc k s
  pub fitted : FitsNode (take k instances) s n
  pub good : IsSoundNode k s.budget (item_layouts s) n
  pub below : (r i : ℕ) → slice_get n.args r ≡ Some i → i < length s.ins + j
  pub timing : NodeTiming
  pub is_at : IsNodeAt instances k j s n timing
  pub facts : NodeFacts instances k j s n timing
  pub early : at + latest own n.args + timing.load ≤ 100000

pub placed : (instances : List StFuncTree) (told : List (List ℕ)) (k j at : ℕ) (s : StFuncTree) (n : StNodeTree) (own : List ℕ) → IsTimed instances told
    → ((x : StFuncTree) × IsLight instances k at x) → slice_get instances k ≡ Some s → slice_get s.nodes j ≡ Some n
    → slice_get told k ≡ Some own → IsPlaced instances k j at s n own
placed instances told k j at s n own timed light func node told_own =
    let arr : own ≡ arrivals_in instances k s = same_Some own (arrivals_in instances k s)
    (sym told_own ∙ arrivals_told instances told k at s timed light func) in
    let sound : IsSoundFunc k s = timed.sound.each k s func in
    let there : j < length s.nodes = slice_get_within s.nodes j n node in
    let below : (r i : ℕ) → slice_get n.args r ≡ Some i → i < length s.ins + j = λ r i f.
    (let l = (sound.nodes j n node).args r i f in omega (
      arith,
      l,
      length-append s.ins (node_layouts (take j s.nodes)),
      length-map (take j s.nodes) (λ (x : StNodeTree). x.type),
      length-take-le j s.nodes (omega arith),
    )) in
    let ts : List NodeTiming = timings_in instances k s in
    let none : NodeTiming = record { arrival = 0; line = 0; latency = 0; load = 0; muls = 0; mems = 0; uses = [] } in
    let t : NodeTiming = get_or ts j none in
    let timing : slice_get ts j ≡ Some t = slice_get-get_or ts j none (omega (arith, timings_long instances k s)) in
    let is_at : IsNodeAt instances k j s n t = record { func = func; node = node; timing = timing } in
    let facts : NodeFacts instances k j s n t = node_facts instances k j s n t timed.sound is_at below in
    let most = sums_most (λ (x : NodeTiming). x.load) instances k j s t timing in
    let all : sum_by (λ (x : NodeTiming). x.load) ts ≤ (instance_costs instances k).load = subst
    (λ (c : OwnCosts). sum_by (λ (x : NodeTiming). x.load) ts ≤ c.load) (sym (costs_are instances k s func)) (omega arith) in
    let lates : latest own n.args ≡ latest (arrivals_in instances k s) n.args = ap (λ xs. latest xs n.args) arr in
    let whole : at + (instance_costs instances k).load ≤ 100000 = light.1.early in
    record {
      func = func;
      node = node;
      arrivals = arr;
      sound = sound;
      fitted = timed.fitted.each k j s n func node;
      good = node_sound k s j n sound node;
      below = below;
      timing = t;
      is_at = is_at;
      facts = facts;
      early = omega (arith, whole, all, most, facts.start, lates);
    }

-- what is said of each node in the place is said of this one
pub at_node : (instances : List StFuncTree) (k j : ℕ) (s : StFuncTree) (n : StNodeTree) (t : NodeTiming) (P : NodeTiming → Type 0)
    → IsNodeAt instances k j s n t → P t → (z : StFuncTree) (m : StNodeTree) (u : NodeTiming) → IsNodeAt instances k j z m u → P u
at_node instances k j s n t P h is z m u g =
    let same : s ≡ z = same_Some s z (sym h.func ∙ g.func) in
    let timing : slice_get (timings_in instances k s) j ≡ Some u = subst (λ (f : StFuncTree). slice_get (timings_in instances k f) j ≡ Some u)
    (sym same) g.timing in
    subst P (same_Some t u (sym h.timing ∙ timing)) is

-- ---- what is asked of the arguments

own_widths : (cells : List SizedCell) (widths : List ℕ) (nets : List NetId) → AreNets cells widths nets → HaveOwnWidths cells nets
own_widths cells widths nets h q net found =
    let inside : q < length widths = omega (arith, slice_get_within nets q net found, h.long) in
    let at = h.each q (get_or widths q 0) net (slice_get-get_or widths q 0 inside) found in
    rw (net_width at) at

pub standing_widths : (cells : List SizedCell) (s : StFuncTree) (count : ℕ) (items : List (List NetId)) → AreStanding cells s count items
    → (i : ℕ) (nets : List NetId) → slice_get items i ≡ Some nets → HaveOwnWidths cells nets
standing_widths cells s count items h i nets found = own_widths cells _ nets (h.each i nets found)

-- the registers before some items
pub standing_delays : (cells : List SizedCell) (s : StFuncTree) (count : ℕ) (items : List (List NetId)) (arrivals waits chosen : List ℕ)
    → AreStanding cells s count items → ((r i : ℕ) → slice_get chosen r ≡ Some i → i < count) → waits ≡ joint_slacks arrivals chosen
    → delay_load items waits chosen ≡ slack_load (item_layouts s) (joint_uses arrivals chosen)
standing_delays cells s count items arrivals waits chosen h below are =
    ap (λ ws. delay_load items ws chosen) are ∙ delays_cost items arrivals (latest arrivals chosen) (item_layouts s) chosen (λ r i f.
    (let inside : i < length items = omega (arith, below r i f, h.long) in
    let there : slice_get items i ≡ Some (get_or items i []) = slice_get-get_or items i [] inside in
    (h.each i (get_or items i []) there).long ∙ columns_long (item_layout (item_layouts s) i)))

-- the arguments are bundles for the layouts of their items
pub args_stand : (old new : List SizedCell) (rst : ℕ) (s : StFuncTree) (count : ℕ) (items : List (List NetId)) (waits chosen : List ℕ)
    (args : List (List NetId)) → AreStanding old s count items → ((r i : ℕ) → slice_get chosen r ≡ Some i → i < count)
    → AreDelayed old new rst items waits chosen args → AreBundles new (streams_of (map (item_layout (item_layouts s)) chosen)) args
args_stand old new rst s count items waits chosen args h below late = record {
  long = late.long ∙ sym (length-map (map (item_layout (item_layouts s)) chosen) stream_of ∙ length-map chosen (item_layout (item_layouts s)));
  each = λ r stream nets fs fn.
      let inside : r < length chosen = omega (arith, slice_get_within args r nets fn, late.long) in
      let i : ℕ = get_or chosen r 0 in
      let fc : slice_get chosen r ≡ Some i = slice_get-get_or chosen r 0 inside in
      let low : i < length items = omega (arith, below r i fc, h.long) in
      let fi : slice_get items i ≡ Some (get_or items i []) = slice_get-get_or items i [] low in
      let made = (late.each r i (get_or items i []) nets fc fi fn).kept _ (h.each i (get_or items i []) fi) in
      let fx : slice_get (map (item_layout (item_layouts s)) chosen) r ≡ Some (item_layout (item_layouts s) i) = slice_get-map
      (item_layout (item_layouts s)) chosen r ∙ ap (option_map (item_layout (item_layouts s))) fc in
      let fy : slice_get (streams_of (map (item_layout (item_layouts s)) chosen)) r ≡ Some
      (stream_of (item_layout (item_layouts s) i)) = slice_get-map stream_of (map (item_layout (item_layouts s)) chosen) r ∙ ap (option_map stream_of) fx in
      subst (λ (z : Stream). AreNets new (stream_widths z) nets) (same_Some (stream_of (item_layout (item_layouts s) i)) stream (sym fy ∙ fs)) made;
}

-- ---- nodes that call nothing

plain_same : (known : List OwnCosts) (a s : StTree) (copies : ℕ) (op : StOpTree) → CallsNothing op → op_costs [] a s copies op ≡ op_costs known a s copies op
plain_same known a s copies (word op) h = refl
plain_same known a s copies join h = refl
plain_same known a s copies first h = refl
plain_same known a s copies second h = refl
plain_same known a s copies (fixed ws) h = refl
plain_same known a s copies (move how) h = refl
plain_same known a s copies (fold op n m raw) h = refl
plain_same known a s copies (scan op n m) h = refl
plain_same known a s copies (body k) h = absurd h

pub plain_is : (known : List OwnCosts) (s : StFuncTree) (n : StNodeTree) → CallsNothing n.op → plain_costs s n ≡ node_costs known (item_layouts s) n
plain_is known s n h = plain_same known (item_layout (item_layouts s) (unwrap_or (slice_get n.args 0) 0)) n.type n.copies n.op h

pub node_ready : (instances : List StFuncTree) (k j at : ℕ) (s : StFuncTree) (n : StNodeTree) (own : List ℕ) (cells : List SizedCell)
    (args : List (List NetId)) → IsPlaced instances k j at s n own → AreBundles cells (streams_of (arguments_of s n)) args → IsReady cells s n args
node_ready instances k j at s n own cells args h bundles = record {
  items = item_fills k s h.sound;
  below = h.good.args;
  layout = h.good.layout;
  fits = (take k instances, h.fitted);
  sound = (k, h.good.op);
  bundles = bundles;
}

-- ---- nodes that are bodies

pub record IsCall (instances : List StFuncTree) (k m : ℕ) (s : StFuncTree) (n : StNodeTree) (f : StFuncTree) : Type 0 where
  pub earlier : m < k
  pub called : slice_get instances m ≡ Some f
  pub fits : FitsBody s.budget n.copies (arguments_of s n) n.type f
  pub known : callee_at (callees (take k instances)) m ≡ callee (callees (take m instances)) f
  pub costs : node_costs (all_costs (take k instances)) (item_layouts s) n ≡ body_costs n.copies (instance_costs instances m)

pub is_call : (instances : List StFuncTree) (k j m at : ℕ) (s : StFuncTree) (n : StNodeTree) (own : List ℕ) → n.op ≡ body m → IsPlaced instances k j at s n own
    → (f : StFuncTree) × IsCall instances k m s n f
is_call instances k j m at s n own is h =
    let fit : FitsOp (take k instances) s.budget n.copies (arguments_of s n) n.type (body m) = subst
    (λ (o : StOpTree). FitsOp (take k instances) s.budget n.copies (arguments_of s n) n.type o) is h.fitted in
    let below : m < k = subst (λ (o : StOpTree). IsSoundOp k s.budget (arguments_of s n) n.type o) is h.good.op in
    let f : StFuncTree = fit.0 in
    let same : take m (take k instances) ≡ take m instances = take-take m k instances (omega arith) in
    let entry : slice_get (callees (take k instances)) m ≡ Some (callee (callees (take m instances)) f) = entry-grown callee (take k instances) m f fit.1 ∙
    ap (λ fs. Some (callee (callees fs) f)) same in (
      f,
      record {
        earlier = below;
        called = sym (slice_get-take k m instances below) ∙ fit.1;
        fits = fit.2;
        known = get_or_from_slice_get (callees (take k instances)) m (callee (callees (take m instances)) f) no_callee entry;
        costs = ap (λ o. op_costs (all_costs (take k instances)) (item_layout (item_layouts s) (unwrap_or (slice_get n.args 0) 0)) n.type
            n.copies o) is ∙
            ap (body_costs n.copies) (callee_costs instances k m f below fit.1);
      },
    )

some_copies : (copies load more start at : ℕ) → 1 ≤ copies → at + start + (1 + copies * load + more) ≤ 100000 → at + start + load ≤ 100000
some_copies copies load more start at some l = let up : 1 * load ≤ copies * load = mul-le-mul_right load some in omega (arith, up)

pub call_light : (instances : List StFuncTree) (k j m at : ℕ) (s : StFuncTree) (n : StNodeTree) (own : List ℕ) (f : StFuncTree)
    → IsPlaced instances k j at s n own → IsCall instances k m s n f → IsLight instances m (at + latest own n.args) f
call_light instances k j m at s n own f h c =
    let load : h.timing.load ≡ (body_costs n.copies (instance_costs instances m)).load + slack_load (item_layouts s)
    (uses_at (arrivals_in instances k s) (latest (arrivals_in instances k s) n.args) n.args) =
    h.facts.load ∙ ap (λ (o : OwnCosts). o.load + slack_load (item_layouts s)
    (uses_at (arrivals_in instances k s) (latest (arrivals_in instances k s) n.args) n.args)) c.costs in
    record {
      found = c.called;
      early = some_copies n.copies (instance_costs instances m).load _ (latest own n.args) at h.good.some_copies
          (subst (λ (i : ℕ). at + latest own n.args + i ≤ 100000) load h.early);
    }

-- ---- what comes of a node

-- the registers before the arguments, which wait so long, and what stands behind them
pub node_fits : (instances : List StFuncTree) (k j at : ℕ) (s : StFuncTree) (n : StNodeTree) (own waits : List ℕ) (cells : List SizedCell)
    (items : List (List NetId)) (load : ℕ) → (h : IsPlaced instances k j at s n own) → AreStanding cells s (length s.ins + j) items
    → waits ≡ joint_slacks (arrivals_in instances k s) n.args → load ≤ (node_costs (all_costs (take k instances)) (item_layouts s) n).load
    → delay_load items waits n.args + load ≤ h.timing.load
node_fits instances k j at s n own waits cells items load h stand ew l =
    omega (arith, h.facts.load, standing_delays cells s (length s.ins + j) items (arrivals_in instances k s) waits n.args stand h.below ew, l)

pub node_grows : (instances : List StFuncTree) (k j at : ℕ) (s : StFuncTree) (n : StNodeTree) (own waits : List ℕ) (cells : List SizedCell)
    (items : List (List NetId)) (old mid new : Circuit) (load : ℕ) → (h : IsPlaced instances k j at s n own) → AreStanding cells s (length s.ins + j) items
    → waits ≡ joint_slacks (arrivals_in instances k s) n.args → load ≤ (node_costs (all_costs (take k instances)) (item_layouts s) n).load
    → GrowsBy old mid (delay_load items waits n.args) → GrowsBy mid new load → GrowsBy old new h.timing.load
node_grows instances k j at s n own waits cells items old mid new load h stand ew l a b =
    by_trans h.timing.load (node_fits instances k j at s n own waits cells items load h stand ew l) a b

-- the item of a node
pub node_placed : (instances : List StFuncTree) (told : List (List ℕ)) (k j at rst : ℕ) (s : StFuncTree) (n : StNodeTree) (own waits : List ℕ)
    (items args : List (List NetId)) (old mid new : Circuit) (L start : ℕ) (y : List NetId) → FlowsFit → IsTimed instances told
    → IsPlaced instances k j at s n own
    → start ≡ latest own n.args → waits ≡ joint_slacks (arrivals_in instances k s) n.args
    → L ≡ (node_costs (all_costs (take k instances)) (item_layouts s) n).latency → Extends old.cells mid.cells → Extends mid.cells new.cells
    → AreDelayed old.cells mid.cells rst items waits n.args args
    → IsBuilt new rst (at + start) (node_part (callees (take k instances)) L s n) args y
    → (z : StFuncTree) (ins : List (List NetId)) → slice_get instances k ≡ Some z
    → AreItems old.cells rst at (callees (take k instances)) z (arrivals_in instances k z) ins (length z.ins + j) items
    → IsItem new.cells rst at (callees (take k instances)) z ins (get_or (arrivals_in instances k z) (length z.ins + j) 0) (length z.ins + j) y
node_placed instances told k j at rst s n own waits items args old mid new L start y flows timed h es ew el up on late built z ins found have =
    let same : s ≡ z = same_Some s z (sym h.func ∙ found) in
    let known : List Callee = callees (take k instances) in
    let Q : StFuncTree → Type 0 = λ f. AreItems old.cells rst at known f (arrivals_in instances k f) ins (length f.ins + j) items
    → IsItem new.cells rst at known f ins (get_or (arrivals_in instances k f) (length f.ins + j) 0) (length f.ins + j) y in
    let one : Q s = λ items_have.
    let arrived : start ≡ latest (arrivals_in instances k s) n.args = es ∙ ap (λ xs. latest xs n.args) h.arrivals in
    let in_time : (r i : ℕ) → slice_get n.args r ≡ Some i
    → get_or (arrivals_in instances k s) i 0 + get_or waits r 0 ≡ start = λ r i f. wait_at (arrivals_in instances k s) n.args waits r i ew f ∙
    sym arrived in
    let fill : (i : ℕ) → i < length s.ins + j → IsFilling s.budget (item_layout (item_layouts s) i) = λ i low. all_items k s h.sound i
    (let l : j < length s.nodes = slice_get_within s.nodes j n h.node in omega (arith, items_many s)) in
    let chosen : AreChosen mid.cells rst at known s ins start n.args args = items_wait old.cells mid.cells rst at known s (arrivals_in instances k s) ins
    (length s.ins + j) items start waits n.args args up fill h.below in_time items_have late in
    let made = node_item mid new rst at start L known s j n ins args y
    (λ vs words i low. flows instances k s vs timed.sound timed.fitted h.func words i low) on h.node h.below chosen built in
    let arrive : start + L ≡ get_or (arrivals_in instances k s)
    (length s.ins + j) 0 = (ap (λ i. i + L) arrived ∙ ap (λ i. latest (arrivals_in instances k s) n.args + i) el) ∙ sym h.facts.arrival in
    subst (λ (d : ℕ). IsItem new.cells rst at known s ins d (length s.ins + j) y) arrive made in
    subst Q same one have

-- the bodies of a node
pub bodies_placed : (instances : List StFuncTree) (k m at rst : ℕ) (s : StFuncTree) (n : StNodeTree) (f : StFuncTree) (args : List (List NetId))
    (new : Circuit) (y : List NetId) → IsSound instances → n.op ≡ body m → (c : IsCall instances k m s n f)
    → IsBuilt new rst at (bodies_part (callees (take m instances)) f c.fits.slots c.fits.rounds n.copies (instance_costs instances m).latency) args y
    → IsBuilt new rst at (node_part (callees (take k instances)) (instance_costs instances m).latency s n) args y
bodies_placed instances k m at rst s n f args new y sound is c built =
    let g : IsSoundFunc m f = sound.each m f c.called in
    let first_one : first_result f < length (item_layouts f) = g.results 0 (first_result f)
    (slice_get-get_or f.results 0 0 (let l = g.some_results in omega arith)) in
    body_node new rst at m (instance_costs instances m).latency (callees (take k instances)) (callees (take m instances)) s n f args y is c.known
    (atoms_pos (result_layout f) (all_items m f g (first_result f) first_one).size.lengths) c.fits built

-- ---- as the code has it

pub placed_in : (funcs : List StFunc) (told : List (List ℕ)) (k j at : ℕ) (s : StFunc) (n : StNode) (own : List ℕ) → IsTimed (st_func_trees funcs) told
    → ((x : StFuncTree) × IsLight (st_func_trees funcs) k at x) → slice_get funcs k ≡ Some s
    → ((z : StFuncTree) → slice_get (st_func_trees funcs) k ≡ Some z → j < length z.nodes) → n ≡ get_or s.nodes.items j n → slice_get told k ≡ Some own
    → IsPlaced (st_func_trees funcs) k j at (st_func_tree s) (st_node_tree n) own
placed_in funcs told k j at s n own timed light func there is own_told =
    let found : slice_get (st_func_trees funcs) k ≡ Some (st_func_tree s) = func_tree funcs k s func in
    placed (st_func_trees funcs) told k j at (st_func_tree s) (st_node_tree n) own timed light found
    (node_tree s j n (there (st_func_tree s) found) is) own_told

pub chosen_below : (instances : List StFuncTree) (k j at : ℕ) (s : StFuncTree) (n : StNodeTree) (own chosen : List ℕ) → IsPlaced instances k j at s n own
    → chosen ≡ n.args → (r i : ℕ) → slice_get chosen r ≡ Some i → i < length s.ins + j
chosen_below instances k j at s n own chosen h same r i found = h.below r i (sym (ap (λ xs. slice_get xs r) same) ∙ found)

-- how long each argument waits, and each result
pub waits_in : (instances : List StFuncTree) (t : SlackTables) (k j at : ℕ) (s : StFuncTree) (n : StNodeTree) (own waits : List ℕ) → AreSlacks instances t
    → IsPlaced instances k j at s n own
    → option_and_then (λ nodes. slice_get nodes j) (slice_get t.arguments k) ≡ Some waits → waits ≡ joint_slacks (arrivals_in instances k s) n.args
waits_in instances t k j at s n own waits slacks h told =
    same_Some waits (joint_slacks (arrivals_in instances k s) n.args) (sym told ∙ waits_told instances t k j s n slacks h.func h.node)

pub result_waits_in : (funcs : List StFunc) (t : SlackTables) (k : ℕ) (s : StFunc) (waits : List ℕ) → AreSlacks (st_func_trees funcs) t
    → slice_get funcs k ≡ Some s
    → slice_get t.results k ≡ Some waits → waits ≡ joint_slacks (arrivals_in (st_func_trees funcs) k (st_func_tree s)) (st_func_tree s).results
result_waits_in funcs t k s waits slacks func told =
    same_Some waits (joint_slacks (arrivals_in (st_func_trees funcs) k (st_func_tree s)) (st_func_tree s).results)
    (sym told ∙ result_waits_told (st_func_trees funcs) t k (st_func_tree s) slacks (func_tree funcs k s func))

pub chains_in : (instances : List StFuncTree) (t : SlackTables) (k : ℕ) (s : StFuncTree) (chains : List ℕ) → AreSlacks instances t
    → slice_get instances k ≡ Some s
    → slice_get t.chains k ≡ Some chains → chains ≡ item_chains (arrivals_in instances k s) s
chains_in instances t k s chains slacks func told =
    same_Some chains (item_chains (arrivals_in instances k s) s) (sym told ∙ chains_told instances t k s slacks func)

pub own_long : (instances : List StFuncTree) (k j at : ℕ) (s : StFuncTree) (n : StNodeTree) (own : List ℕ) → IsPlaced instances k j at s n own
    → length s.ins + j ≤ length own
own_long instances k j at s n own h =
    let there : j < length s.nodes = slice_get_within s.nodes j n h.node in
    omega (arith, ap length h.arrivals, arrivals_long instances k s)

pub call_args : (instances : List StFuncTree) (k m : ℕ) (s : StFuncTree) (n : StNodeTree) (f : StFuncTree) (cells : List SizedCell) (args : List (List NetId))
    → IsCall instances k m s n f → AreBundles cells (streams_of (arguments_of s n)) args
    → (z : StFuncTree) → slice_get instances m ≡ Some z → (slots : ℕ) × AreBundles cells (map (elements_stream slots n.copies) z.ins) args
call_args instances k m s n f cells args c bundles z found =
    let same : f ≡ z = same_Some f z (sym c.called ∙ found) in
    subst (λ (g : StFuncTree). (slots : ℕ) × AreBundles cells (map (elements_stream slots n.copies) g.ins) args) same
    (c.fits.slots, subst (λ (ss : List Stream). AreBundles cells ss args) c.fits.ins bundles)

pub call_spends : (old mid new : Circuit) (copies : ℕ) (f own : OwnCosts) (t : NodeTiming) (before left : ℕ) → own ≡ body_costs copies f → t.muls ≡ own.muls
    → t.mems ≡ own.mems
    → Spends old mid 0 0 before left → AddsMulsAndMemories mid new (copies * f.muls) (copies * f.mems) → Spends old new t.muls t.mems before left
call_spends old mid new copies f own t before left is muls mems a b =
    let em : own.muls ≡ copies * f.muls = ap (λ (o : OwnCosts). o.muls) is in
    let en : own.mems ≡ copies * f.mems = ap (λ (o : OwnCosts). o.mems) is in
    spends_up (omega (arith, em, muls)) (omega (arith, en, mems)) (spends_more a b)

pub plain_spends : (old mid new : Circuit) (plain own : OwnCosts) (t : NodeTiming) (before left : ℕ) → plain ≡ own → t.muls ≡ own.muls → t.mems ≡ own.mems
    → Spends old mid 0 0 before left → AddsMulsAndMemories mid new plain.muls plain.mems → Spends old new t.muls t.mems before left
plain_spends old mid new plain own t before left is muls mems a b =
    let em : plain.muls ≡ own.muls = ap (λ (o : OwnCosts). o.muls) is in
    let en : plain.mems ≡ own.mems = ap (λ (o : OwnCosts). o.mems) is in
    spends_up (omega (arith, em, muls)) (omega (arith, en, mems)) (spends_more a b)
