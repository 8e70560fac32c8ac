-- A whole instance, from its first node to its end.
use Rattle.std.proofs.Common.{ℕ, zero, suc, ◌≡◌, ◌+◌, ◌-◌, ◌*◌, ◌<◌, ◌≤◌, inl, inr, max, min, true, false, nat_lt, List, [], ◌∷◌, ◌++◌, append_assoc, length, map, take, drop, sum_by, Some, slice_get, get_or, arith, refl, sym, ap, ◌∙◌, subst, length-append}
use Rattle.std.specs.List.{range_with_len, flat_map}
use Rattle.std.proofs.lemmas.Bool.{cases_lt}
use Rattle.std.proofs.lemmas.List.{append-nil, get_or-append-add, get_or_append_left, length-map, length-take-le, map-append, take-append-drop, take_all}
use Rattle.std.proofs.lemmas.List.Sums.{sum_by_push, sum_by-cons}
use Rattle.std.proofs.lemmas.Grind.{flat_map-append}
use Rattle.std.proofs.lemmas.Option.{same_Some, slice_get-get_or, get_or_from_slice_get, slice_get_read, slice_get_within, unwrap_or-slice_get}
use Rattle.std.specs.Prelude.{unwrap_or}
use Rattle.ae_seq.specs.Typing.{grown}
use Rattle.ae_word.specs.AtomTree.{unsigned_word}
use Rattle.ae_sttype.specs.StTree.{StTree, atom, sseq}
use Rattle.ae_sttype.specs.Moves.{columns_of}
use Rattle.ae_moves.specs.Rings.{rings}
use Rattle.ae_moves.proofs.Held.{sum_more}
use Rattle.ae_moves.proofs.Lists.{get_mapped, take_push}
use Rattle.ae_rewrite.specs.declared.st_program.StNode.{StNode}
use Rattle.ae_rewrite.specs.declared.st_program.StFunc.{StFunc}
use Rattle.ae_rewrite.specs.StProgramTree.{join, StNodeTree, StFuncTree, st_func_tree, st_node_tree, st_node_trees, st_trees}
use Rattle.ae_rewrite.specs.Scheduled.{node_layouts}
use Rattle.ae_rewrite.specs.Sound.{IsSoundFunc, IsSoundNode, IsSoundOp, item_layout, item_layouts}
use Rattle.ae_rewrite.proofs.Grown.{get_of_front, get_last}
use Rattle.ae_delay.specs.declared.own.OwnCosts.{OwnCosts}
use Rattle.ae_delay.specs.declared.weighing.Progress.{Progress}
use Rattle.ae_delay.specs.declared.weighing.FuncTiming.{FuncTiming}
use Rattle.ae_delay.specs.Costs.{Use, LineLoad, NodeTiming, all_uses, arrivals_of, chain_mems, chain_of, first_over, func_costs_by, func_latency, latest, line_loads, next_timing, load_at_line, node_timing, node_timings, result_uses, slack_load, uses_at}
use Rattle.ae_delay.specs.Weighing.{AllBelow, AreItems, IsNext, IsOverAt, IsProgress, IsTimed, chained, cost_of, deepened}
use Rattle.ae_delay.proofs.Chains.{AreUses, chain_append, chained_deepened, deepened_at, length_deepened, mems_at, mems_le}
use Rattle.ae_delay.proofs.Nodes.{latest_le}
use Rattle.ae_seq.proofs.Items.{length-grown as length_grown}

-- ---- one node more

pub uses_below : (arrivals : List ℕ) (start : ℕ) (items : List ℕ) (n : ℕ) → AllBelow items n → AreUses (uses_at arrivals start items) n
uses_below arrivals start items n h = record { each = λ k u f. below items k u h f }
  where
    below : (xs : List ℕ) (k : ℕ) (u : Use) → AllBelow xs n → slice_get (uses_at arrivals start xs) k ≡ Some u → u.item < n
    below [] k u h f = cc
    below (x ∷ xs) zero u h f = (let v : Use = record { item = x; slack = start - unwrap_or (slice_get arrivals x) 0 } in let e : v ≡ u = same_Some v u f in
        rw (ap (λ (w : Use). w.item) (sym e)) (h 0 x refl))
    below (x ∷ xs) (suc k) u h f = below xs k u (λ i a g. h (suc i) a g) f

push_early : (xs : List ℕ) (y m : ℕ) (i a : ℕ) → ((j b : ℕ) → slice_get xs j ≡ Some b → b ≤ m) → y ≤ m → slice_get (xs ++ y ∷ []) i ≡ Some a → a ≤ m
push_early xs y m i a h l f = elim (cases_lt i (length xs)) [
  | inl low ↦ h i a (get_of_front xs (y ∷ []) i a f low)
  | inr high ↦
      let w : i < length (xs ++ y ∷ []) = slice_get_within (xs ++ y ∷ []) i a f in
      let at : i ≡ length xs = omega (arith, length-append xs (y ∷ [])) in
      let g : slice_get (xs ++ y ∷ []) (length xs) ≡ Some a = rw at at f in
      let same : y ≡ a = same_Some y a (sym (get_last xs y) ∙ g) in
      omega arith
]

pub advance : (s : StFuncTree) (ts : List NodeTiming) (t : NodeTiming) (limit : ℕ) (p q : Progress) → IsProgress s ts limit p
    → AreUses t.uses (length (item_layouts s)) → IsNext (item_layouts s) t limit p q → IsProgress s (ts ++ t ∷ []) limit q
advance s ts t limit p q h uses n =
    let low : AreUses t.uses (length p.chains.items) = rw h.long uses in
    let more : chained (item_layouts s) q.chains.items ≤ chained (item_layouts s) p.chains.items + slack_load (item_layouts s) t.uses = rw n.chains
    (chained_deepened (item_layouts s) p.chains.items t.uses low) in
    let flat : flat_map (λ (x : NodeTiming). x.uses) (ts ++ t ∷ []) ≡ flat_map (λ (x : NodeTiming). x.uses) ts
    ++ t.uses = flat_map-append (λ (x : NodeTiming). x.uses) ts (t ∷ []) ∙ ap (λ us. flat_map (λ (x : NodeTiming). x.uses) ts ++ us) (append-nil t.uses) in
    record {
      arrivals = n.arrivals ∙ (ap (λ xs. xs ++ t.arrival ∷ []) h.arrivals ∙
          (append_assoc (map (λ (x : StTree). 0) s.ins) (map (λ (x : NodeTiming). x.arrival) ts) (t.arrival ∷ []) ∙
          ap (λ xs. map (λ (x : StTree). 0) s.ins ++ xs) (sym (map-append (λ (x : NodeTiming). x.arrival) ts (t ∷ [])))));
      long = ap length n.chains ∙ (length_deepened p.chains.items t.uses ∙ h.long);
      chains = λ i l.
          let d : get_or q.chains.items i 0 ≡ max (get_or p.chains.items i 0) (chain_of t.uses i) = rw n.chains (deepened_at p.chains.items t.uses i low) in
          let c : chain_of (flat_map (λ (x : NodeTiming). x.uses) (ts ++ t ∷ [])) i ≡ max (chain_of (flat_map (λ (x : NodeTiming). x.uses) ts) i)
          (chain_of t.uses i) = rw flat (chain_append (flat_map (λ (x : NodeTiming). x.uses) ts) t.uses i) in
          omega (arith, d, c, h.chains i l);
      costs = n.costs ∙ (ap (λ xs. xs ++ cost_of t ∷ []) h.costs ∙ sym (map-append cost_of ts (t ∷ [])));
      load = omega (arith, n.load, h.load, sum_by_push (λ (x : NodeTiming). x.load) ts t);
      muls = omega (arith, n.muls, h.muls, sum_by_push (λ (x : NodeTiming). x.muls) ts t);
      mems = omega (arith, n.mems, h.mems, sum_by_push (λ (x : NodeTiming). x.mems) ts t);
      within = n.within;
      early = λ i a f. push_early p.arrivals.items t.arrival q.load i a (λ j b g. (let e = h.early j b g in omega (arith, e, n.load))) n.early
          (rw n.arrivals at f);
      few_muls = omega (arith, n.muls, n.load, h.few_muls, n.few_muls);
      few_mems = omega (arith, more, n.mems, n.load, h.few_mems, n.few_mems);
    }

-- ---- lists in which each entry comes from those before it

grown_push : {A B : Type 0} (step : List B → A → B) (known : List B) (xs : List A) (x : A) → grown step known (xs ++ x ∷ []) ≡ grown step known xs
    ++ step (grown step known xs) x ∷ []
grown_push step known [] x = refl
grown_push step known (y ∷ ys) x = grown_push step (known ++ step known y ∷ []) ys x

pub grown_more : {A B : Type 0} (step : List B → A → B) (known : List B) (xs : List A) (i : ℕ) (x : A) → slice_get xs i ≡ Some x
    → grown step known (take (i + 1) xs) ≡ grown step known (take i xs) ++ step (grown step known (take i xs)) x ∷ []
grown_more step known xs i x found = ap (grown step known) (take_push xs i x found) ∙ grown_push step known (take i xs) x

-- ---- the lines before the limit is passed

over_not : (limit n : ℕ) → n ≤ limit → nat_lt limit n ≡ false
over_not limit n h = search (arith)

over_yes : (limit n : ℕ) → limit < n → nat_lt limit n ≡ true
over_yes limit n h = search (arith)

pub over_later : (limit sum : ℕ) (ts : List NodeTiming) (rest : List LineLoad) → sum + sum_by (λ (t : NodeTiming). t.load) ts ≤ limit
    → first_over limit sum (map load_at_line ts ++ rest) ≡ first_over limit (sum + sum_by (λ (t : NodeTiming). t.load) ts) rest
over_later limit sum [] rest h = let z : sum + 0 ≡ sum = omega arith in rw z refl
over_later limit sum (t ∷ ts) rest h =
    let c : sum_by (λ (x : NodeTiming). x.load) (t ∷ ts) ≡ t.load + sum_by (λ (x : NodeTiming). x.load) ts = sum_by-cons (λ (x : NodeTiming). x.load) t ts in
    let fine : nat_lt limit (sum + t.load) ≡ false = over_not limit (sum + t.load) (omega (arith, c)) in
    let s : sum + sum_by (λ (x : NodeTiming). x.load) (t ∷ ts) ≡ sum + t.load + sum_by (λ (x : NodeTiming). x.load) ts = omega (arith, c) in
    rw (fine, s) (over_later limit (sum + t.load) ts rest (omega (arith, c)))

-- ---- the end

pub sum_same : (f g : ℕ → ℕ) (n : ℕ) → ((i : ℕ) → i < n → f i ≡ g i) → sum_by f (range_with_len 0 n) ≡ sum_by g (range_with_len 0 n)
sum_same f g zero h = refl
sum_same f g (suc n) h =
    let s : n + 1 ≡ suc n = omega arith in
    let a : sum_by f (range_with_len 0 (suc n)) ≡ sum_by f (range_with_len 0 n) + f n = rw s at (sum_more f n) in
    let b : sum_by g (range_with_len 0 (suc n)) ≡ sum_by g (range_with_len 0 n) + g n = rw s at (sum_more g n) in
    omega (arith, a, b, h n (omega arith), sum_same f g n (λ i l. h i (omega arith)))

abbrev pub ended : StFuncTree → (p : Progress) (latency slack : ℕ) → Type 0
ended s p latency slack = (latency ≡ latest p.arrivals.items s.results) × (slack ≡ slack_load (item_layouts s) (uses_at p.arrivals.items latency s.results))

end_slack : (s : StFuncTree) (ts : List NodeTiming) (limit : ℕ) (p : Progress) (latency slack : ℕ) → IsProgress s ts limit p → ended s p latency slack
    → (latency ≡ func_latency s ts) × (slack ≡ slack_load (item_layouts s) (result_uses s ts))
end_slack s ts limit p latency slack h e =
    let l : latency ≡ func_latency s ts = rw h.arrivals at e.0 in
    (l, rw (h.arrivals, l) at e.1)

pub end_over : (s : StFuncTree) (ts : List NodeTiming) (limit : ℕ) (p : Progress) (latency slack told : ℕ) → IsProgress s ts limit p → ended s p latency slack
    → limit < p.load + slack → told ≡ min (p.load + slack) 1000000000
    → IsOverAt (first_over limit 0 (line_loads s ts)) s.end_line told
end_over s ts limit p latency slack told h e over is =
    let x = end_slack s ts limit p latency slack h e in
    let later = over_later limit 0 ts (record { line = s.end_line; load = slack_load (item_layouts s) (result_uses s ts) } ∷ [])
    (omega (arith, h.load, h.within)) in
    let past : nat_lt limit (0 + sum_by (λ (t : NodeTiming). t.load) ts + slack_load (item_layouts s) (result_uses s ts)) ≡ true = over_yes limit _
    (omega (arith, over, h.load, x.1)) in
    record {
      total = 0 + sum_by (λ (t : NodeTiming). t.load) ts + slack_load (item_layouts s) (result_uses s ts);
      at = later ∙ (rw past refl);
      told = omega (arith, is, h.load, x.1);
    }

abbrev pub timed : (latency load muls mems : ℕ) → OwnCosts
timed a b c d = record { latency = a; load = b; muls = c; mems = d }

pub end_timed : (s : StFuncTree) (ts : List NodeTiming) (limit : ℕ) (p : Progress) (latency slack memories : ℕ) (t : FuncTiming) → IsProgress s ts limit p
    → ended s p latency slack → AllBelow s.results (length p.arrivals.items) → AllBelow s.results (length (item_layouts s)) → limit < 1000000000
    → memories ≡ sum_by (mems_at (item_layouts s) (deepened p.chains.items (uses_at p.arrivals.items latency s.results)))
    (range_with_len 0 (length (item_layouts s))) → p.load + slack ≤ limit
    → t.costs ≡ timed latency (p.load + slack) p.muls (p.mems + memories) → t.arrivals ≡ p.arrivals → t.nodes ≡ p.costs
    → IsTimed s ts limit t
end_timed s ts limit p latency slack memories t h e arrived below few em within et ea en =
    let x = end_slack s ts limit p latency slack h e in
    let layouts : List StTree = item_layouts s in
    let us : List Use = uses_at p.arrivals.items latency s.results in
    let same : us ≡ result_uses s ts = rw (h.arrivals, x.0) refl in
    let low : AreUses us (length p.chains.items) = rw h.long (uses_below p.arrivals.items latency s.results (length layouts) below) in
    let deep : sum_by (mems_at layouts (deepened p.chains.items us)) (range_with_len 0 (length layouts)) ≡ chain_mems layouts (all_uses s ts) =
    sum_same (mems_at layouts (deepened p.chains.items us)) (λ i. columns_of (item_layout layouts i) * rings (chain_of (all_uses s ts) i)) (length layouts)
    (λ i l.
    (let d : get_or (deepened p.chains.items us) i 0 ≡ max (get_or p.chains.items i 0) (chain_of us i) = deepened_at p.chains.items us i low in
    let a : chain_of (all_uses s ts) i ≡ max (chain_of (flat_map (λ (y : NodeTiming). y.uses) ts) i) (chain_of us i) = rw same
    (chain_append (flat_map (λ (y : NodeTiming). y.uses) ts) (result_uses s ts) i) in
    let b : get_or (deepened p.chains.items us) i 0 ≡ chain_of (all_uses s ts) i = omega (arith, d, a, h.chains i l) in
    ap (λ n. columns_of (item_layout layouts i) * rings n) b)) in
    let soon : latency ≤ p.load = rw e.0 (latest_le p.arrivals.items s.results p.load arrived h.early) in
    let kept : memories ≤ chained layouts (deepened p.chains.items us) = rw em (mems_le layouts (deepened p.chains.items us)) in
    let more : chained layouts (deepened p.chains.items us) ≤ chained layouts p.chains.items + slack_load layouts us = chained_deepened layouts p.chains.items
    us low in
    let load : p.load + slack ≡ (func_costs_by s ts).load = omega (arith, h.load, x.1) in
    let mems : p.mems + memories ≡ (func_costs_by s ts).mems = omega (arith, h.mems, em, deep) in
    let later = over_later limit 0 ts (record { line = s.end_line; load = slack_load layouts (result_uses s ts) } ∷ []) (omega (arith, h.load, h.within)) in
    let fine : nat_lt limit (0 + sum_by (λ (y : NodeTiming). y.load) ts + slack_load layouts (result_uses s ts)) ≡ false = over_not limit _
    (omega (arith, within, h.load, x.1)) in
    record {
      fine = later ∙ (rw fine refl);
      costs = et ∙ (ap (λ n. timed n (p.load + slack) p.muls (p.mems + memories)) x.0 ∙ (ap (λ n. timed (func_latency s ts) n p.muls (p.mems + memories)) load
          ∙ (ap (λ n. timed (func_latency s ts) (func_costs_by s ts).load n (p.mems + memories)) h.muls ∙
          ap (λ n. timed (func_latency s ts) (func_costs_by s ts).load (func_costs_by s ts).muls n) mems)));
      bounded = rw et (record {
        latency = omega (arith, soon);
        muls = omega (arith, h.few_muls);
        mems = omega (arith, kept, more, h.few_mems, e.1);
        load = omega (arith, within, few);
      });
      within = rw et within;
      arrivals = ap (λ v. v.items) ea ∙ h.arrivals;
      nodes = ap (λ v. v.items) en ∙ h.costs;
    }

pub end_few : (s : StFuncTree) (ts : List NodeTiming) (limit : ℕ) (p : Progress) (latency slack : ℕ) (chains : List ℕ) → IsProgress s ts limit p
    → AllBelow s.results (length (item_layouts s)) → slack ≡ slack_load (item_layouts s) (uses_at p.arrivals.items latency s.results)
    → chains ≡ deepened p.chains.items (uses_at p.arrivals.items latency s.results) → p.load + slack ≤ limit → limit < 1000000000
    → chained (item_layouts s) chains < 1000000000
end_few s ts limit p latency slack chains h below es ec within few =
    let us : List Use = uses_at p.arrivals.items latency s.results in
    let low : AreUses us (length p.chains.items) = rw h.long (uses_below p.arrivals.items latency s.results (length (item_layouts s)) below) in
    let more : chained (item_layouts s) (deepened p.chains.items us) ≤ chained (item_layouts s) p.chains.items + slack_load
    (item_layouts s) us = chained_deepened (item_layouts s) p.chains.items us low in
    rw ec (omega (arith, more, h.few_mems, es))

pub end_fits : (s : StFuncTree) (ts : List NodeTiming) (limit : ℕ) (p : Progress) (memories : ℕ) (layouts : List StTree) (chains : List ℕ)
    → IsProgress s ts limit p → chained layouts chains < 1000000000 → memories ≡ sum_by (mems_at layouts chains) (range_with_len 0 (length layouts))
    → limit < 1000000000 → p.mems + memories < 4000000000
end_fits s ts limit p memories layouts chains h few em low = omega (arith, mems_le layouts chains, em, h.few_mems, h.within)

-- ---- nodes of an instance that fits together

abbrev none : StTree
none = sseq 0 (atom (unsigned_word 1))

no_node : StNodeTree
no_node = record { op = join; args = []; type = none; copies = 1; line = 0 }

pub all_items : (k : ℕ) (s : StFuncTree) → IsSoundFunc k s → AreItems s.budget (item_layouts s)
all_items k s h i l = elim (cases_lt i (length s.ins)) [
  | inl low ↦
      let f : slice_get s.ins i ≡ Some (get_or s.ins i none) = slice_get-get_or s.ins i none low in
      rw (unwrap_or-slice_get (s.ins ++ node_layouts s.nodes) i none, get_or_append_left s.ins (node_layouts s.nodes) none i low)
      (h.ins i (get_or s.ins i none) f)
  | inr high ↦
      let j : ℕ = i - length s.ins in
      let long : length (node_layouts s.nodes) ≡ length s.nodes = length-map s.nodes (λ (n : StNodeTree). n.type) in
      let small : j < length s.nodes = omega (arith, l, long, length-append s.ins (node_layouts s.nodes)) in
      let n : StNodeTree = get_or s.nodes j (no_node) in
      let f : slice_get s.nodes j ≡ Some n = slice_get-get_or s.nodes j no_node small in
      let g : slice_get (node_layouts s.nodes) j ≡ Some n.type = get_mapped (λ (x : StNodeTree). x.type) s.nodes j n f in
      let at : length s.ins + j ≡ i = omega (arith, high) in
      let is : item_layout (item_layouts s) i ≡ n.type = unwrap_or-slice_get (s.ins ++ node_layouts s.nodes) i none ∙
      ap (λ x. get_or (s.ins ++ node_layouts s.nodes) x none) (sym at) ∙
      (get_or-append-add s.ins (node_layouts s.nodes) j none ∙ get_or_from_slice_get (node_layouts s.nodes) j n.type none g) in
      rw is (h.nodes j n f).layout
]

layouts_same : (p rest : List StTree) (args : List ℕ) → AllBelow args (length p) → map (item_layout p) args ≡ map (item_layout (p ++ rest)) args
layouts_same p rest [] h = refl
layouts_same p rest (a ∷ args) h =
    let here : item_layout p a ≡ item_layout (p ++ rest) a =
    unwrap_or-slice_get p a none ∙ sym (get_or_append_left p rest none a (h 0 a refl)) ∙ sym (unwrap_or-slice_get (p ++ rest) a none) in
    ap (λ x. x ∷ map (item_layout p) args) here ∙ ap (λ xs. item_layout (p ++ rest) a ∷ xs) (layouts_same p rest args (λ i b f. h (suc i) b f))

sound_wider : (k budget : ℕ) (p rest : List StTree) (n : StNodeTree) → IsSoundNode k budget p n → IsSoundNode k budget (p ++ rest) n
sound_wider k budget p rest n h = record {
  args = λ i a f. (let l = h.args i a f in omega (arith, l, length-append p rest));
  few = h.few;
  layout = h.layout;
  some_copies = h.some_copies;
  few_copies = h.few_copies;
  op = subst (λ (as_all : List StTree). IsSoundOp k budget as_all n.type n.op) (layouts_same p rest n.args h.args) h.op;
}

pub node_sound : (k : ℕ) (s : StFuncTree) (i : ℕ) (n : StNodeTree) → IsSoundFunc k s → slice_get s.nodes i ≡ Some n → IsSoundNode k s.budget (item_layouts s) n
node_sound k s i n h f =
    let split : node_layouts s.nodes ≡ node_layouts (take i s.nodes) ++ node_layouts (drop i s.nodes) = ap node_layouts (sym (take-append-drop i s.nodes)) ∙
    map-append (λ (x : StNodeTree). x.type) (take i s.nodes) (drop i s.nodes) in
    let all : (s.ins ++ node_layouts (take i s.nodes)) ++ node_layouts (drop i s.nodes) ≡ item_layouts s = append_assoc s.ins (node_layouts (take i s.nodes))
    (node_layouts (drop i s.nodes)) ∙ ap (λ xs. s.ins ++ xs) (sym split) in
    subst (λ (ls : List StTree). IsSoundNode k s.budget ls n) all
    (sound_wider k s.budget (s.ins ++ node_layouts (take i s.nodes)) (node_layouts (drop i s.nodes)) n (h.nodes i n f))

-- ---- the nodes so far

abbrev pub timings_to : (costs : List OwnCosts) (s : StFuncTree) (i : ℕ) → List NodeTiming
timings_to costs s i = grown (next_timing costs s) [] (take i s.nodes)

pub arrivals_long : (costs : List OwnCosts) (s : StFuncTree) (i limit : ℕ) (p : Progress) → i ≤ length s.nodes → IsProgress s (timings_to costs s i) limit p
    → length p.arrivals.items ≡ length s.ins + i
arrivals_long costs s i limit p l h =
    let a : length p.arrivals.items ≡ length (arrivals_of s.ins (timings_to costs s i)) = ap length h.arrivals in
    omega (
      arith,
      a,
      length-append (map (λ (x : StTree). 0) s.ins) (map (λ (t : NodeTiming). t.arrival) (timings_to costs s i)),
      length-map {B = ℕ} s.ins (λ (x : StTree). 0),
      length-map (timings_to costs s i) (λ (t : NodeTiming). t.arrival),
      length_grown (next_timing costs s) [] (take i s.nodes),
      length-take-le i s.nodes l,
    )

pub args_arrived : (costs : List OwnCosts) (k : ℕ) (s : StFuncTree) (i limit : ℕ) (n : StNodeTree) (p : Progress) → IsSoundFunc k s
    → slice_get s.nodes i ≡ Some n → IsProgress s (timings_to costs s i) limit p → AllBelow n.args (length p.arrivals.items)
args_arrived costs k s i limit n p h f g j a found =
    let low : i < length s.nodes = slice_get_within s.nodes i n f in
    let l : a < length (s.ins ++ node_layouts (take i s.nodes)) = (h.nodes i n f).args j a found in
    omega (
      arith,
      l,
      arrivals_long costs s i limit p (omega arith) g,
      length-append s.ins (node_layouts (take i s.nodes)),
      length-map (take i s.nodes) (λ (x : StNodeTree). x.type),
      length-take-le i s.nodes (omega arith),
    )

pub progress_more : (costs : List OwnCosts) (k : ℕ) (s : StFuncTree) (i limit : ℕ) (n : StNodeTree) (p q : Progress) → IsSoundFunc k s
    → slice_get s.nodes i ≡ Some n → IsProgress s (timings_to costs s i) limit p
    → IsNext (item_layouts s) (node_timing costs (item_layouts s) p.arrivals.items n) limit p q → IsProgress s (timings_to costs s (i + 1)) limit q
progress_more costs k s i limit n p q h f g next =
    let ts : List NodeTiming = timings_to costs s i in
    let t : NodeTiming = node_timing costs (item_layouts s) p.arrivals.items n in
    let same : next_timing costs s ts n ≡ t = ap (λ xs. node_timing costs (item_layouts s) xs n) (sym g.arrivals) in
    let more : ts ++ t ∷ [] ≡ timings_to costs s (i + 1) = sym (grown_more (next_timing costs s) [] s.nodes i n f ∙ ap (λ x. ts ++ x ∷ []) same) in
    let sound = node_sound k s i n h f in
    subst (λ (xs : List NodeTiming). IsProgress s xs limit q) more
    (advance s ts t limit p q g (uses_below p.arrivals.items (latest p.arrivals.items n.args) n.args (length (item_layouts s)) sound.args) next)

grown_from : {A B : Type 0} (step : List B → A → B) (known : List B) (xs : List A) → (rest : List B) × (grown step known xs ≡ known ++ rest)
grown_from step known [] = ([], sym (append-nil known))
grown_from step known (x ∷ xs) =
    let r = grown_from step (known ++ step known x ∷ []) xs in
    (step known x ∷ r.0, r.1 ∙ append_assoc known (step known x ∷ []) r.0)

pub grown_split : {A B : Type 0} (step : List B → A → B) (known : List B) (xs ys : List A) → grown step known (xs ++ ys) ≡ grown step (grown step known xs) ys
grown_split step known [] ys = refl
grown_split step known (x ∷ xs) ys = grown_split step (known ++ step known x ∷ []) xs ys

pub over_at : (costs : List OwnCosts) (s : StFuncTree) (i limit told : ℕ) (n : StNodeTree) (p : Progress) → slice_get s.nodes i ≡ Some n
    → IsProgress s (timings_to costs s i) limit p
    → limit < p.load + (node_timing costs (item_layouts s) p.arrivals.items n).load
    → told ≡ min (p.load + (node_timing costs (item_layouts s) p.arrivals.items n).load) 1000000000
    → IsOverAt (first_over limit 0 (line_loads s (node_timings costs s))) n.line told
over_at costs s i limit told n p f g over is =
    let ts : List NodeTiming = timings_to costs s i in
    let t : NodeTiming = node_timing costs (item_layouts s) p.arrivals.items n in
    let same : next_timing costs s ts n ≡ t = ap (λ xs. node_timing costs (item_layouts s) xs n) (sym g.arrivals) in
    let more : timings_to costs s (i + 1) ≡ ts ++ t ∷ [] = grown_more (next_timing costs s) [] s.nodes i n f ∙ ap (λ x. ts ++ x ∷ []) same in
    let r = grown_from (next_timing costs s) (ts ++ t ∷ []) (drop (i + 1) s.nodes) in
    let all : node_timings costs s ≡ (ts ++ t ∷ []) ++ r.0 =
    ap (grown (next_timing costs s) []) (sym (take-append-drop (i + 1) s.nodes)) ∙
    (grown_split (next_timing costs s) [] (take (i + 1) s.nodes) (drop (i + 1) s.nodes) ∙
    (ap (λ xs. grown (next_timing costs s) xs (drop (i + 1) s.nodes)) more ∙ r.1)) in
    let last : List LineLoad = record { line = s.end_line; load = slack_load (item_layouts s) (result_uses s (node_timings costs s)) } ∷ [] in
    let lines : line_loads s (node_timings costs s) ≡ map load_at_line ts ++ (load_at_line t ∷ (map load_at_line r.0 ++ last)) =
    ap (λ xs. map load_at_line xs ++ last) (all ∙ append_assoc ts (t ∷ []) r.0) ∙
    (ap (λ xs. xs ++ last) (map-append load_at_line ts (t ∷ r.0)) ∙ append_assoc (map load_at_line ts) (load_at_line t ∷ map load_at_line r.0) last) in
    let later = over_later limit 0 ts (load_at_line t ∷ (map load_at_line r.0 ++ last)) (omega (arith, g.load, g.within)) in
    let past : nat_lt limit (0 + sum_by (λ (x : NodeTiming). x.load) ts + t.load) ≡ true = over_yes limit _ (omega (arith, over, g.load)) in
    record {
      total = 0 + sum_by (λ (x : NodeTiming). x.load) ts + t.load;
      at = ap (first_over limit 0) lines ∙ (later ∙ (rw past refl));
      told = omega (arith, is, g.load);
    }

pub node_here : (s : StFunc) (items : List StNode) (i : ℕ) (n : StNode) → items ≡ s.nodes.items → i < length items → n ≡ get_or items i n
    → slice_get (st_node_trees s.nodes.items) i ≡ Some (st_node_tree n)
node_here s items i n e l read = get_mapped st_node_tree s.nodes.items i n (rw e at (slice_get_read items (length items) i n refl l read))

-- after the last node
pub timings_all : (costs : List OwnCosts) (s : StFunc) (items : List StNode) (i : ℕ) → items ≡ s.nodes.items → length items ≤ i
    → timings_to costs (st_func_tree s) i ≡ node_timings costs (st_func_tree s)
timings_all costs s items i e l =
    ap (grown (next_timing costs (st_func_tree s)) []) (take_all i (st_node_trees s.nodes.items)
    (omega (arith, length-map s.nodes.items st_node_tree, ap length e)))

pub arrivals_whole : (costs : List OwnCosts) (s : StFunc) (items : List StNode) (i limit : ℕ) (p : Progress) → items ≡ s.nodes.items → length items ≤ i
    → i ≤ length items → IsProgress (st_func_tree s) (timings_to costs (st_func_tree s) i) limit p
    → length p.arrivals.items ≡ length (item_layouts (st_func_tree s))
arrivals_whole costs s items i limit p e l m h =
    let nodes : length (st_node_trees s.nodes.items) ≡ length s.nodes.items = length-map s.nodes.items st_node_tree in
    let layouts : length (node_layouts (st_node_trees s.nodes.items)) ≡ length (st_node_trees s.nodes.items) = length-map (st_node_trees s.nodes.items)
    (λ (x : StNodeTree). x.type) in
    omega (
      arith,
      arrivals_long costs (st_func_tree s) i limit p (omega (arith, nodes, ap length e)) h,
      length-append (st_trees s.ins.items) (node_layouts (st_node_trees s.nodes.items)),
      nodes,
      layouts,
      ap length e,
    )
