-- No used instance has a load above the program function's.
use Rattle.std.proofs.Common.{ℕ, ◌≡◌, ◌+◌, ◌-◌, ◌*◌, ◌<◌, ◌≤◌, List, [], ◌∷◌, ◌++◌, length, map, take, drop, sum_by, Some, slice_get, get_or, arith, sym, ap, ◌∙◌, subst}
use Rattle.std.proofs.Math.Nat.{mul-le-mul_right}
use Rattle.std.proofs.Math.Seq.{take-add}
use Rattle.std.proofs.lemmas.List.{length-take-le}
use Rattle.std.proofs.lemmas.List.Sums.{get_or-le-sum_by}
use Rattle.std.proofs.lemmas.Option.{get_or_from_slice_get, slice_get_within}
use Rattle.ae_seq.specs.Typing.{grown}
use Rattle.ae_rewrite.specs.StProgramTree.{StNodeTree, StFuncTree, StOpTree}
use Rattle.ae_rewrite.specs.Sound.{IsSound, IsSoundNode, IsSoundOp, IsUsed, as_called, as_last, item_layout, item_layouts}
use Rattle.ae_rewrite.proofs.Grown.{entry, get_last, grown-front}
use Rattle.ae_delay.specs.declared.own.OwnCosts.{OwnCosts}
use Rattle.ae_delay.specs.OwnCosts.{body_costs}
use Rattle.ae_delay.specs.Costs.{NodeTiming, all_costs, func_costs, next_timing, node_costs, node_timings}
use Rattle.ae_delay.proofs.Instances.{grown_more, grown_split, node_sound}
use Rattle.ae_delay.proofs.Items.{body_is}
use Rattle.ae_seq.proofs.Items.{length-grown as length_grown}

-- the load of an instance, by the costs of those before it
abbrev pub load_at : List StFuncTree → (k : ℕ) → StFuncTree → ℕ
load_at instances k s = (func_costs (all_costs (take k instances)) s).load

pub costs_more : (instances : List StFuncTree) (k : ℕ) (s : StFuncTree) → slice_get instances k ≡ Some s
    → all_costs (take (k + 1) instances) ≡ all_costs (take k instances) ++ func_costs (all_costs (take k instances)) s ∷ []
costs_more instances k s f = grown_more func_costs [] instances k s f

-- the costs of an earlier instance
costs_there : (instances : List StFuncTree) (k m : ℕ) (s : StFuncTree) → slice_get instances k ≡ Some s → k < m
    → slice_get (all_costs (take m instances)) k ≡ Some (func_costs (all_costs (take k instances)) s)
costs_there instances k m s found low =
    let known : List OwnCosts = all_costs (take k instances) in
    let more : List OwnCosts = known ++ func_costs known s ∷ [] in
    let rest : List StFuncTree = take (m - (k + 1)) (drop (k + 1) instances) in
    let at : k + 1 + (m - (k + 1)) ≡ m = omega (arith, low) in
    let split : take m instances ≡ take (k + 1) instances ++ rest = ap (λ i. take i instances) (sym at) ∙ take-add (k + 1) (m - (k + 1)) instances in
    let all : all_costs (take m instances) ≡ grown func_costs more rest = ap all_costs split ∙
    (grown_split func_costs [] (take (k + 1) instances) rest ∙ ap (λ xs. grown func_costs xs rest) (costs_more instances k s found)) in
    let inside : k < length instances = slice_get_within instances k s found in
    let long : length known ≡ k = omega (arith, length_grown func_costs [] (take k instances), length-take-le k instances (omega (arith, inside))) in
    let here : slice_get more k ≡ Some (func_costs known s) = subst (λ i. slice_get more i ≡ Some (func_costs known s)) long
    (get_last known (func_costs known s)) in
    ap (λ xs. slice_get xs k) all ∙ grown-front func_costs more rest k (func_costs known s) here

-- a node has no more than its instance
node_load : (known : List OwnCosts) (s : StFuncTree) (j : ℕ) (n : StNodeTree) → slice_get s.nodes j ≡ Some n
    → (node_costs known (item_layouts s) n).load ≤ (func_costs known s).load
node_load known s j n found =
    let ts : List NodeTiming = node_timings known s in
    let own = entry (next_timing known s) [] s.nodes j n found in
    let t : NodeTiming = next_timing known s own.before n in
    let start : 0 + j ≡ j = omega arith in
    let here : slice_get ts j ≡ Some t = subst (λ i. slice_get ts i ≡ Some t) start own.is in
    let one : (get_or ts j t).load ≤ sum_by (λ (x : NodeTiming). x.load) ts = get_or-le-sum_by (λ (x : NodeTiming). x.load) ts j t
    (slice_get_within ts j t here) in
    let same : (get_or ts j t).load ≡ t.load = ap (λ (x : NodeTiming). x.load) (get_or_from_slice_get ts j t t here) in
    omega (arith, one, same)

called_load : (copies load own limit : ℕ) → 1 ≤ copies → 1 + copies * load ≡ own → own ≤ limit → load ≤ limit
called_load copies load own limit some is l = let many : 1 * load ≤ copies * load = mul-le-mul_right load some in omega (arith, many)

pub used_light : (instances : List StFuncTree) (limit : ℕ) → IsSound instances
    → ((s : StFuncTree) → slice_get instances (length instances - 1) ≡ Some s → load_at instances (length instances - 1) s ≤ limit)
    → (k : ℕ) → IsUsed instances k → (s : StFuncTree) → slice_get instances k ≡ Some s → load_at instances k s ≤ limit
used_light instances limit sound top k (as_last i is) s found = rw is (top s (rw is at found))
used_light instances limit sound top k (as_called i caller j u n used here node is) s found =
    let known : List OwnCosts = all_costs (take caller instances) in
    let above : load_at instances caller u ≤ limit = used_light instances limit sound top caller used u here in
    let good : IsSoundNode caller u.budget (item_layouts u) n = node_sound caller u j n (sound.each caller u here) node in
    let below : i < caller = subst (λ (o : StOpTree). IsSoundOp caller u.budget (map (item_layout (item_layouts u)) n.args) n.type o) is good.op in
    let c : OwnCosts = func_costs (all_costs (take i instances)) s in
    let costs : body_costs n.copies c ≡ node_costs known (item_layouts u) n = body_is known i n.copies _ n.type n.op c is
    (costs_there instances i caller s found below) in
    let own : (node_costs known (item_layouts u) n).load ≤ limit = (let l = node_load known u j n node in omega (arith, l, above)) in
    called_load n.copies c.load (node_costs known (item_layouts u) n).load limit good.some_copies (ap (λ (x : OwnCosts). x.load) costs) own
