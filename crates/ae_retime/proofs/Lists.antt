-- Lists of slacks, chains and arrivals.
use Rattle.std.proofs.Common.{ℕ, zero, suc, ◌≡◌, ◌+◌, ◌<◌, ◌≤◌, max, inl, inr, List, [], ◌∷◌, ◌++◌, length, map, take, replicate, Some, slice_get, get_or, arith, refl, sym, ap, ◌∙◌, length-append}
use Rattle.std.specs.List.{range_with_len, flat_map}
use Rattle.std.proofs.lemmas.Bool.{cases_eq}
use Rattle.std.proofs.lemmas.List.{ext_get_or, get_or-replicate, length-map, length-replicate, map-append, take_all}
use Rattle.std.proofs.lemmas.List.FromFn.{get_or-map-range_with_len, length-map-range_with_len}
use Rattle.std.proofs.lemmas.Option.{get_or_from_slice_get, same_Some, slice_get_within}
use Rattle.std.proofs.lemmas.Grind.{flat_map-append}
use Rattle.ae_rewrite.specs.declared.st_program.StNode.{StNode}
use Rattle.ae_rewrite.specs.declared.st_program.StFunc.{StFunc}
use Rattle.ae_rewrite.specs.StProgramTree.{StNodeTree, StFuncTree, st_func_tree, st_func_trees, st_node_tree, st_node_trees}
use Rattle.ae_sttype.specs.StTree.{StTree}
use Rattle.ae_rewrite.specs.Scheduled.{node_layouts}
use Rattle.ae_rewrite.specs.Sound.{IsSound, IsSoundFunc, item_layouts}
use Rattle.ae_rewrite.proofs.Grown.{get_in_front, get_last}
use Rattle.ae_moves.proofs.Lists.{get_mapped, take_push}
use Rattle.ae_delay.specs.declared.own.OwnCosts.{OwnCosts}
use Rattle.ae_delay.specs.Costs.{NodeTiming, Use, all_costs, chain_of, func_meets, latest, meets_of, next_timing, node_timings}
use Rattle.ae_delay.specs.Timings.{AreTimes, Times, item_arrivals}
use Rattle.ae_delay.specs.Weighing.{deepened, deepened_by}
use Rattle.ae_delay.proofs.Chains.{AreUses, deepened_at, length_deepened}
use Rattle.ae_delay.proofs.Instances.{node_sound, uses_below}
use Rattle.ae_retime.specs.Slacks.{AreArguments, AreByInstance, AreChains, AreResults, AreSlacks, SlackTables, UsesBelow, arrivals_in, item_chains, item_uses, joint_slacks, joint_uses}
use Rattle.ae_seq.proofs.Items.{length-grown as length_grown}

pub tree_at : (p : List StFunc) (k : ℕ) (s : StFunc) → slice_get p k ≡ Some s → slice_get (st_func_trees p) k ≡ Some (st_func_tree s)
tree_at p k s f = get_mapped st_func_tree p k s f

-- ---- nodes

pub uses_sound : (k : ℕ) (s : StFuncTree) (arrivals : List ℕ) → length arrivals ≡ length (item_layouts s) → IsSoundFunc k s → UsesBelow (length arrivals) s
uses_sound k s arrivals long h = record {
  nodes = λ i n f j a g. rw long ((node_sound k s i n h f).args j a g);
  results = λ j a g. rw long (h.results j a g);
}

-- ---- arrivals

pub layouts_long : (s : StFuncTree) → length (item_layouts s) ≡ length s.ins + length s.nodes
layouts_long s = omega (arith, length-append s.ins (node_layouts s.nodes), length-map s.nodes (λ (x : StNodeTree). x.type))

pub arrivals_long : (known : List OwnCosts) (s : StFuncTree) → length (item_arrivals known s) ≡ length (item_layouts s)
arrivals_long known s =
    let ts : List NodeTiming = node_timings known s in
    omega (
      arith,
      layouts_long s,
      length-append (map (λ (x : StTree). 0) s.ins) (map (λ (t : NodeTiming). t.arrival) ts),
      length-map {B = ℕ} s.ins (λ (x : StTree). 0),
      length-map ts (λ (t : NodeTiming). t.arrival),
      length_grown (next_timing known s) [] s.nodes,
    )

-- what is told of an instance
pub record IsTold (instances : List StFuncTree) (k : ℕ) (s : StFuncTree) (own : List ℕ) : Type 0 where
  pub is : own ≡ arrivals_in instances k s
  pub long : length own ≡ length (item_layouts s)
  pub uses : UsesBelow (length own) s

pub told_at : (p : List StFunc) (t : Times) (k : ℕ) (s : StFunc) (own : List ℕ) → IsSound (st_func_trees p) → AreTimes (st_func_trees p) t
    → slice_get p k ≡ Some s → slice_get t.arrivals k ≡ Some own → IsTold (st_func_trees p) k (st_func_tree s) own
told_at p t k s own sound times here told =
    let instances : List StFuncTree = st_func_trees p in
    let there : slice_get instances k ≡ Some (st_func_tree s) = tree_at p k s here in
    let is : own ≡ arrivals_in instances k (st_func_tree s) = same_Some own (arrivals_in instances k (st_func_tree s))
    (sym told ∙ times.arrivals k (st_func_tree s) there) in
    let long : length own ≡ length (item_layouts (st_func_tree s)) = ap length is ∙ arrivals_long (all_costs (take k instances)) (st_func_tree s) in
    record { is = is; long = long; uses = uses_sound k (st_func_tree s) own long (sound.each k (st_func_tree s) there) }

pub told_many : (p : List StFunc) (t : Times) (count k : ℕ) → AreTimes (st_func_trees p) t → count ≡ length p → k < count → k < length t.arrivals
told_many p t count k times e low = omega (arith, times.many, length-map p st_func_tree)

pub met_many : (p : List StFunc) (t : Times) (k : ℕ) (s : StFunc) → AreTimes (st_func_trees p) t → slice_get p k ≡ Some s → k < length t.meets
met_many p t k s times here =
    let there : slice_get (st_func_trees p) k ≡ Some (st_func_tree s) = tree_at p k s here in
    slice_get_within t.meets k _ (times.meets k (st_func_tree s) there)

-- when the arguments of each node and the results have come, by the arrivals that are told
pub met_at : (p : List StFunc) (t : Times) (k : ℕ) (s : StFunc) (own met : List ℕ) → AreTimes (st_func_trees p) t → slice_get p k ≡ Some s
    → own ≡ arrivals_in (st_func_trees p) k (st_func_tree s) → slice_get t.meets k ≡ Some met
    → met ≡ func_meets own (st_func_tree s)
met_at p t k s own met times here is told =
    let there : slice_get (st_func_trees p) k ≡ Some (st_func_tree s) = tree_at p k s here in
    same_Some met _ (sym told ∙ times.meets k (st_func_tree s) there) ∙ ap (λ xs. func_meets xs (st_func_tree s)) (sym is)

nodes_long : (arrivals : List ℕ) (s : StFunc) → length (meets_of arrivals (st_func_tree s).nodes) ≡ length s.nodes.items
nodes_long arrivals s =
    length-map (st_func_tree s).nodes (λ (n : StNodeTree). latest arrivals n.args) ∙ length-map s.nodes.items st_node_tree

pub meets_long : (arrivals : List ℕ) (s : StFunc) (meets : List ℕ) → meets ≡ func_meets arrivals (st_func_tree s)
    → length meets ≡ length s.nodes.items + 1
meets_long arrivals s meets e =
    omega (
      arith,
      ap length e,
      length-append (meets_of arrivals (st_func_tree s).nodes) (latest arrivals s.results.items ∷ []),
      nodes_long arrivals s,
    )

pub meets_at : (arrivals : List ℕ) (s : StFuncTree) (meets : List ℕ) (j : ℕ) (n : StNodeTree) (args : List ℕ) → meets ≡ func_meets arrivals s
    → slice_get s.nodes j ≡ Some n → args ≡ n.args
    → get_or meets j 0 ≡ latest arrivals args
meets_at arrivals s meets j n args e f ea =
    ap (λ ms. get_or ms j 0) e ∙ (get_or_from_slice_get (func_meets arrivals s) j (latest arrivals n.args) 0
    (get_in_front (meets_of arrivals s.nodes) (latest arrivals s.results ∷ []) j (latest arrivals n.args)
    (get_mapped (λ (m : StNodeTree). latest arrivals m.args) s.nodes j n f)) ∙ ap (latest arrivals) (sym ea))

-- behind those of the nodes
pub results_met : (arrivals : List ℕ) (s : StFunc) (meets : List ℕ) (j : ℕ) → meets ≡ func_meets arrivals (st_func_tree s) → j ≡ length s.nodes.items
    → get_or meets j 0 ≡ latest arrivals s.results.items
results_met arrivals s meets j e at =
    let last : slice_get (func_meets arrivals (st_func_tree s)) j ≡ Some (latest arrivals s.results.items) = rw (at, ← nodes_long arrivals s)
    (get_last (meets_of arrivals (st_func_tree s).nodes) (latest arrivals s.results.items)) in
    ap (λ ms. get_or ms j 0) e ∙ get_or_from_slice_get (func_meets arrivals (st_func_tree s)) j (latest arrivals s.results.items) 0 last

-- ---- lists by instance

pub by_more : {X : Type 0} (f : ℕ → StFuncTree → X) (instances : List StFuncTree) (k : ℕ) (s : StFuncTree) (x : X) (old new : List X)
    → slice_get instances k ≡ Some s → AreByInstance f instances k old → new ≡ old ++ x ∷ [] → x ≡ f k s → AreByInstance f instances (k + 1) new
by_more f instances k s x old new found h e is = record {
  long = omega (arith, ap length e, length-append old (x ∷ []), h.long);
  each = λ j u l g. elim (cases_eq j k) [
    | inl at ↦
        let g' : slice_get instances k ≡ Some u = rw at at g in
        let same : s ≡ u = same_Some s u (sym found ∙ g') in
        let here : slice_get new k ≡ Some x = rw (e, ← h.long) (get_last old x) in
        rw (at, ← same) (here ∙ ap Some is)
    | inr ne ↦ rw e (get_in_front old (x ∷ []) j (f j u) (h.each j u (omega arith) g))
  ];
}

pub by_none : {X : Type 0} (f : ℕ → StFuncTree → X) (instances : List StFuncTree) → AreByInstance f instances 0 []
by_none f instances = record { long = refl; each = λ k s l g. absurd (omega arith) }

-- ---- slacks

pub slacks_more : (arrivals : List ℕ) (nodes : List StNodeTree) (i : ℕ) (n : StNodeTree) → slice_get nodes i ≡ Some n
    → map (λ (m : StNodeTree). joint_slacks arrivals m.args) (take (i + 1) nodes) ≡ map (λ (m : StNodeTree). joint_slacks arrivals m.args) (take i nodes)
    ++ joint_slacks arrivals n.args ∷ []
slacks_more arrivals nodes i n f =
    ap (map (λ (m : StNodeTree). joint_slacks arrivals m.args)) (take_push nodes i n f) ∙
    map-append (λ (m : StNodeTree). joint_slacks arrivals m.args) (take i nodes) (n ∷ [])

pub slacks_next : (arrivals : List ℕ) (nodes : List StNodeTree) (i : ℕ) (n : StNodeTree) (args own : List ℕ) (old new : List (List ℕ))
    → slice_get nodes i ≡ Some n → args ≡ n.args → own ≡ joint_slacks arrivals args → new ≡ old ++ own ∷ []
    → old ≡ map (λ (m : StNodeTree). joint_slacks arrivals m.args) (take i nodes)
    → new ≡ map (λ (m : StNodeTree). joint_slacks arrivals m.args) (take (i + 1) nodes)
slacks_next arrivals nodes i n args own old new f ea eo en e =
    let own' : own ≡ joint_slacks arrivals n.args = eo ∙ ap (joint_slacks arrivals) ea in
    en ∙ (ap (λ x. old ++ x ∷ []) own' ∙ (ap (λ xs. xs ++ joint_slacks arrivals n.args ∷ []) e ∙ sym (slacks_more arrivals nodes i n f)))

-- ---- chains

abbrev pub node_uses_to : (arrivals : List ℕ) (nodes : List StNodeTree) → List Use
node_uses_to arrivals nodes = flat_map (λ (n : StNodeTree). joint_uses arrivals n.args) nodes

append_nil : {X : Type 0} (xs : List X) → xs ++ [] ≡ xs
append_nil [] = refl
append_nil (x ∷ xs) = ap (λ ys. x ∷ ys) (append_nil xs)

pub uses_more : (arrivals : List ℕ) (nodes : List StNodeTree) (i : ℕ) (n : StNodeTree) → slice_get nodes i ≡ Some n
    → node_uses_to arrivals (take (i + 1) nodes) ≡ node_uses_to arrivals (take i nodes) ++ joint_uses arrivals n.args
uses_more arrivals nodes i n f =
    ap (node_uses_to arrivals) (take_push nodes i n f) ∙ (flat_map-append (λ (m : StNodeTree). joint_uses arrivals m.args) (take i nodes) (n ∷ []) ∙
    ap (λ us. node_uses_to arrivals (take i nodes) ++ us) (append_nil (joint_uses arrivals n.args)))

pub deepened_more : (cs : List ℕ) (us vs : List Use) → deepened (deepened cs us) vs ≡ deepened cs (us ++ vs)
deepened_more cs [] vs = refl
deepened_more cs (u ∷ us) vs = deepened_more (deepened_by cs u) us vs

both_uses : (us vs : List Use) (count : ℕ) → AreUses us count → AreUses vs count → AreUses (us ++ vs) count
both_uses us vs count h g = record { each = λ k u f. each us k u h f }
  where
    each : (xs : List Use) (k : ℕ) (u : Use) → AreUses xs count → slice_get (xs ++ vs) k ≡ Some u → u.item < count
    each [] k u a f = g.each k u f
    each (x ∷ xs) zero u a f = a.each zero u f
    each (x ∷ xs) (suc k) u a f = each xs k u (record { each = λ i v e. a.each (suc i) v e }) f

node_uses_below : (arrivals : List ℕ) (nodes : List StNodeTree) (count : ℕ)
    → ((i : ℕ) (n : StNodeTree) → slice_get nodes i ≡ Some n → (j a : ℕ) → slice_get n.args j ≡ Some a → a < count)
    → AreUses (node_uses_to arrivals nodes) count
node_uses_below arrivals [] count h = record { each = λ k u f. cc }
node_uses_below arrivals (n ∷ nodes) count h =
    both_uses (joint_uses arrivals n.args) (node_uses_to arrivals nodes) count (uses_below arrivals (latest arrivals n.args) n.args count (h 0 n refl))
    (node_uses_below arrivals nodes count (λ i m f. h (suc i) m f))

all_uses_below : (arrivals : List ℕ) (s : StFuncTree) (count : ℕ) → UsesBelow count s → AreUses (item_uses arrivals s) count
all_uses_below arrivals s count h =
    both_uses (node_uses_to arrivals s.nodes) (joint_uses arrivals s.results) count (node_uses_below arrivals s.nodes count h.nodes)
    (uses_below arrivals (latest arrivals s.results) s.results count h.results)

-- from no delay at all
pub chains_whole : (us : List Use) (count : ℕ) → AreUses us count → deepened (replicate count 0) us ≡ map (λ i. chain_of us i) (range_with_len 0 count)
chains_whole us count h =
    let z : ℕ = 0 in
    let none : length (replicate count z) ≡ count = length-replicate {A = ℕ} count z in
    let long : length (deepened (replicate count z) us) ≡ count = length_deepened (replicate count z) us ∙ none in
    let fits : AreUses us (length (replicate count z)) = rw none h in
    ext_get_or z (deepened (replicate count z) us) (map (λ i. chain_of us i) (range_with_len 0 count))
    (long ∙ sym (length-map-range_with_len (λ i. chain_of us i) 0 count)) (λ i l.
    let low : i < count = omega (arith, l, long) in
    let here : get_or (deepened (replicate count z) us) i z ≡ max (get_or (replicate count z) i z) (chain_of us i) = deepened_at
    (replicate count z) us i fits in
    let start : get_or (replicate count z) i z ≡ z = get_or-replicate count i z z low in
    let there : get_or (map (λ j. chain_of us j) (range_with_len 0 count)) i z ≡ chain_of us i = get_or-map-range_with_len
    (λ j. chain_of us j) 0 count i i z low (omega arith) in
    omega (arith, here, start, there))

pub chains_are : (arrivals : List ℕ) (s : StFuncTree) → length arrivals ≡ length (item_layouts s) → UsesBelow (length arrivals) s
    → deepened (deepened (replicate (length arrivals) 0) (node_uses_to arrivals s.nodes)) (joint_uses arrivals s.results) ≡ item_chains arrivals s
chains_are arrivals s long h =
    deepened_more (replicate (length arrivals) 0) (node_uses_to arrivals s.nodes) (joint_uses arrivals s.results) ∙
    (chains_whole (item_uses arrivals s) (length arrivals) (all_uses_below arrivals s (length arrivals) h) ∙
    ap (λ n. map (λ i. chain_of (item_uses arrivals s) i) (range_with_len 0 n)) long)

pub chains_next : (arrivals : List ℕ) (nodes : List StNodeTree) (i : ℕ) (n : StNodeTree) (args start old new : List ℕ) → slice_get nodes i ≡ Some n
    → args ≡ n.args → new ≡ deepened old (joint_uses arrivals args)
    → old ≡ deepened start (node_uses_to arrivals (take i nodes)) → new ≡ deepened start (node_uses_to arrivals (take (i + 1) nodes))
chains_next arrivals nodes i n args start old new f ea en e =
    en ∙ (ap (λ xs. deepened old (joint_uses arrivals xs)) ea ∙
    (ap (λ cs. deepened cs (joint_uses arrivals n.args)) e ∙
    (deepened_more start (node_uses_to arrivals (take i nodes)) (joint_uses arrivals n.args) ∙ ap (deepened start) (sym (uses_more arrivals nodes i n f)))))

pub chains_end : (arrivals : List ℕ) (s : StFunc) (items : List StNode) (i : ℕ) (results old new : List ℕ) → items ≡ s.nodes.items → length items ≤ i
    → length arrivals ≡ length (item_layouts (st_func_tree s)) → UsesBelow (length arrivals) (st_func_tree s) → results ≡ s.results.items
    → old ≡ deepened (replicate (length arrivals) 0) (node_uses_to arrivals (take i (st_func_tree s).nodes)) → new ≡ deepened old (joint_uses arrivals results)
    → new ≡ item_chains arrivals (st_func_tree s)
chains_end arrivals s items i results old new ei l long below er eo en =
    let z : ℕ = 0 in
    let all : take i (st_func_tree s).nodes ≡ (st_func_tree s).nodes = take_all i (st_node_trees s.nodes.items)
    (omega (arith, length-map s.nodes.items st_node_tree, ap length ei)) in
    let old' : old ≡ deepened (replicate (length arrivals) z) (node_uses_to arrivals (st_func_tree s).nodes) = eo ∙
    ap (λ ns. deepened (replicate (length arrivals) z) (node_uses_to arrivals ns)) all in
    en ∙ (ap (λ xs. deepened old (joint_uses arrivals xs)) er ∙
    (ap (λ cs. deepened cs (joint_uses arrivals s.results.items)) old' ∙ chains_are arrivals (st_func_tree s) long below))

-- ---- a program

pub matched : (p : List StFunc) (count k : ℕ) (t : SlackTables) → count ≡ length p → count ≤ k → k ≤ count → AreArguments (st_func_trees p) k t.arguments
    → AreChains (st_func_trees p) k t.chains → AreResults (st_func_trees p) k t.results → AreSlacks (st_func_trees p) t
matched p count k t e least most arguments chains results =
    let long : k ≡ length (st_func_trees p) = omega (arith, length-map p st_func_tree) in
    record {
      arguments = rw long at arguments;
      chains = rw long at chains;
      results = rw long at results;
    }
