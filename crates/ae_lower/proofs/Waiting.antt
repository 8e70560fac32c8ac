-- The memories that the items of an instance wait in are those of its costs.
use Rattle.std.proofs.Common.{ℕ, suc, ◌≡◌, ◌+◌, ◌*◌, ◌<◌, ◌≤◌, List, [], ◌∷◌, ◌++◌, length, length-append, map, sum_by, take, Some, slice_get, get_or, arith, refl, ap, sym, ◌∙◌}
use Rattle.std.specs.List.{range_with_len, flat_map}
use Rattle.std.proofs.Math.Nat.{mul-le-mul_right}
use Rattle.std.proofs.lemmas.List.{length-map, length-take-le}
use Rattle.std.proofs.lemmas.List.FromFn.{get_or-map-range_with_len, length-map-range_with_len}
use Rattle.std.proofs.lemmas.Option.{slice_get_within}
use Rattle.ae_moves.specs.Rings.{rings}
use Rattle.ae_moves.proofs.Held.{sum_more}
use Rattle.ae_sttype.specs.StTree.{StTree}
use Rattle.ae_sttype.specs.Size.{IsInSize}
use Rattle.ae_sttype.specs.Moves.{columns_of}
use Rattle.ae_rewrite.specs.StProgramTree.{StNodeTree, StFuncTree}
use Rattle.ae_rewrite.specs.Scheduled.{node_layouts}
use Rattle.ae_rewrite.specs.Sound.{IsSound, item_layout, item_layouts}
use Rattle.ae_delay.specs.Costs.{NodeTiming, Use, all_uses, chain_mems, chain_of}
use Rattle.ae_delay.proofs.Instances.{all_items, sum_same}
use Rattle.ae_retime.specs.Slacks.{item_chains, item_uses, joint_uses}
use Rattle.ae_lower.specs.Lowering.{arrivals_in, timings_in}
use Rattle.ae_lower.proofs.Costing.{node_facts, timings_long}

flat_same : {A B U : Type 0} (f : A → List U) (g : B → List U) (xs : List A) (ys : List B) → length xs ≡ length ys
    → ((j : ℕ) (x : A) (y : B) → slice_get xs j ≡ Some x → slice_get ys j ≡ Some y → f x ≡ g y) → flat_map f xs ≡ flat_map g ys
flat_same f g [] [] long same = refl
flat_same f g [] (y ∷ ys) long same = absurd (omega (arith, long))
flat_same f g (x ∷ xs) [] long same = absurd (omega (arith, long))
flat_same f g (x ∷ xs) (y ∷ ys) long same =
    let rest : flat_map f xs ≡ flat_map g ys = flat_same f g xs ys (omega (arith, long)) (λ j a b fa fb. same (suc j) a b fa fb) in
    ap (λ us. us ++ flat_map f xs) (same 0 x y refl refl) ∙ ap (λ us. g y ++ us) rest

-- the uses of the items, by their arrivals, are those of the nodes' timings
uses_are : (instances : List StFuncTree) (k : ℕ) (s : StFuncTree) → IsSound instances → slice_get instances k ≡ Some s
    → item_uses (arrivals_in instances k s) s ≡ all_uses s (timings_in instances k s)
uses_are instances k s sound func =
    let arrivals : List ℕ = arrivals_in instances k s in
    let nodes : flat_map (λ (n : StNodeTree). joint_uses arrivals n.args) s.nodes ≡ flat_map (λ (t : NodeTiming). t.uses) (timings_in instances k s) =
    flat_same (λ (n : StNodeTree). joint_uses arrivals n.args) (λ (t : NodeTiming). t.uses) s.nodes (timings_in instances k s)
    (sym (timings_long instances k s)) (λ j n t fn ft.
    sym (node_facts instances k j s n t sound (record { func = func; node = fn; timing = ft }) (args_below j n fn)).uses) in
    ap (λ us. us ++ joint_uses arrivals s.results) nodes
  where
    args_below : (j : ℕ) (n : StNodeTree) → slice_get s.nodes j ≡ Some n → (r i : ℕ) → slice_get n.args r ≡ Some i → i < length s.ins + j
    args_below j n fn r i f =
        let there : j < length s.nodes = slice_get_within s.nodes j n fn in
        let l = ((sound.each k s func).nodes j n fn).args r i f in
        omega (
          arith,
          l,
          length-append s.ins (node_layouts (take j s.nodes)),
          length-map (take j s.nodes) (λ (x : StNodeTree). x.type),
          length-take-le j s.nodes (omega arith),
        )

-- the memories of lines as long as the longest wait of each item
abbrev pub mems_by : (layouts : List StTree) (chains : List ℕ) → ℕ → ℕ
mems_by layouts chains i = columns_of (item_layout layouts i) * rings (get_or chains i 0)

chains_sum : (layouts : List StTree) (us : List Use) (chains : List ℕ) → chains ≡ map (λ i. chain_of us i) (range_with_len 0 (length layouts))
    → sum_by (mems_by layouts chains) (range_with_len 0 (length layouts)) ≡ chain_mems layouts us
chains_sum layouts us chains are = sum_same (mems_by layouts chains) (λ i. columns_of (item_layout layouts i) * rings (chain_of us i)) (length layouts) (λ i l.
    (let at : get_or chains i 0 ≡ chain_of us i = rw are (get_or-map-range_with_len (λ j. chain_of us j) 0 (length layouts) i i 0 l (omega arith)) in
    ap (λ n. columns_of (item_layout layouts i) * rings n) at))

pub chains_long : (instances : List StFuncTree) (k : ℕ) (s : StFuncTree) (chains : List ℕ) → chains ≡ item_chains (arrivals_in instances k s) s
    → length chains ≡ length (item_layouts s)
chains_long instances k s chains are =
    rw are (length-map-range_with_len (λ i. chain_of (item_uses (arrivals_in instances k s) s) i) 0 (length (item_layouts s)))

-- what is left at first is allowed by the costs
pub left_first : (instances : List StFuncTree) (k : ℕ) (s : StFuncTree) (chains : List ℕ) (most : ℕ) → IsSound instances → slice_get instances k ≡ Some s
    → chains ≡ item_chains (arrivals_in instances k s) s
    → most ≤ sum_by (mems_by (item_layouts s) chains) (range_with_len 0 (length chains))
    → most ≤ chain_mems (item_layouts s) (all_uses s (timings_in instances k s))
left_first instances k s chains most sound func are l =
    let us : List Use = item_uses (arrivals_in instances k s) s in
    let long : length chains ≡ length (item_layouts s) = chains_long instances k s chains are in
    let sums : sum_by (mems_by (item_layouts s) chains) (range_with_len 0 (length (item_layouts s))) ≡ chain_mems (item_layouts s) us = chains_sum
    (item_layouts s) us chains are in
    let same : chain_mems (item_layouts s) us ≡ chain_mems (item_layouts s) (all_uses s (timings_in instances k s)) = ap (chain_mems (item_layouts s))
    (uses_are instances k s sound func) in
    let given : most ≤ sum_by (mems_by (item_layouts s) chains) (range_with_len 0 (length (item_layouts s))) = rw (← long) l in
    omega (arith, given, sums, same)

-- each item fits its type
pub layouts_small : (instances : List StFuncTree) (k : ℕ) (s : StFuncTree) → IsSound instances → slice_get instances k ≡ Some s → (i : ℕ)
    → i < length (item_layouts s) → IsInSize (item_layout (item_layouts s) i)
layouts_small instances k s sound func i l = (all_items k s (sound.each k s func) i l).size

-- ---- the sum so far

-- one item more, where a product or a sum that does not fit is told as less
pub next_most : (layouts : List StTree) (chains : List ℕ) (i sum next columns each : ℕ) → columns ≤ columns_of (item_layout layouts i)
    → each ≡ rings (get_or chains i 0)
    → sum ≤ sum_by (mems_by layouts chains) (range_with_len 0 i) → next ≤ sum + columns * each
    → next ≤ sum_by (mems_by layouts chains) (range_with_len 0 (i + 1))
next_most layouts chains i sum next columns each few is was l =
    let up : columns * each ≤ columns_of (item_layout layouts i) * each = mul-le-mul_right each few in
    let one : columns_of (item_layout layouts i) * each ≡ mems_by layouts chains i = rw is refl in
    omega (arith, up, one, was, l, sum_more (mems_by layouts chains) i)
