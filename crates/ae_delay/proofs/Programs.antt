-- One instance after the other.
use Rattle.std.proofs.Common.{ℕ, ◌≡◌, ◌+◌, ◌-◌, ◌<◌, ◌≤◌, inl, inr, false, nat_lt, List, [], ◌∷◌, ◌++◌, length, map, take, sum_by, Option, Some, slice_get, arith, refl, sym, ap, ◌∙◌, subst, length-append, ◌⊎◌}
use Rattle.std.proofs.lemmas.Bool.{cases_eq, cases_lt}
use Rattle.std.proofs.lemmas.List.{length-map, length-take-le}
use Rattle.std.proofs.lemmas.List.Sums.{sum_by-append, sum_by-cons}
use Rattle.std.proofs.lemmas.Option.{same_Some, slice_get_within}
use Rattle.ae_moves.proofs.Lists.{get_mapped}
use Rattle.ae_rewrite.specs.declared.st_program.StFunc.{StFunc}
use Rattle.ae_rewrite.specs.StProgramTree.{StFuncTree, st_func_tree, st_func_trees}
use Rattle.ae_rewrite.specs.Sound.{IsSound, IsSoundFunc, item_layouts}
use Rattle.ae_rewrite.proofs.Grown.{get_in_front, get_of_front, get_last}
use Rattle.ae_delay.specs.declared.own.OwnCosts.{OwnCosts}
use Rattle.ae_delay.specs.declared.weighing.FuncTiming.{FuncTiming}
use Rattle.ae_delay.specs.Costs.{LineLoad, NodeTiming, all_costs, first_over, func_costs, func_costs_by, line_loads, func_meets, load_at_line, node_timings, result_uses, slack_load, too_large}
use Rattle.ae_delay.specs.Bounds.{IsBounded}
use Rattle.ae_delay.specs.Weighing.{AreKnown, IsKnown, IsOverAt, IsTimed}
use Rattle.ae_delay.specs.Timings.{AreTimes, Times, item_arrivals, item_meets}
use Rattle.ae_delay.specs.Arriving.{AreFirst, AreToldFirst, HasMore, HasOneMore, HaveMoreMet}
use Rattle.ae_delay.proofs.Light.{costs_more, load_at, used_light}
use Rattle.ae_seq.proofs.Items.{length-grown as length_grown}

-- ---- known costs, with one more

push_cases : {X : Type 0} (xs : List X) (y : X) (i : ℕ) (x : X) → slice_get (xs ++ y ∷ []) i ≡ Some x → ((i < length xs) × (slice_get xs i ≡ Some x))
    ⊎ ((i ≡ length xs) × (y ≡ x))
push_cases xs y i x f = elim (cases_lt i (length xs)) [
  | inl low ↦ inl (low, get_of_front xs (y ∷ []) i x f low)
  | inr high ↦
      let w : i < length (xs ++ y ∷ []) = slice_get_within (xs ++ y ∷ []) i x f in
      let at : i ≡ length xs = omega (arith, length-append xs (y ∷ [])) in
      let g : slice_get (xs ++ y ∷ []) (length xs) ≡ Some x = rw at at f in
      inr (at, same_Some y x (sym (get_last xs y) ∙ g))
]

pub known_more : (known : List (Option OwnCosts)) (costs : List OwnCosts) (o : Option OwnCosts) (c : OwnCosts) → AreKnown known costs → IsKnown o c
    → AreKnown (known ++ o ∷ []) (costs ++ c ∷ [])
known_more known costs o c h own = record {
  long = omega (arith, length-append known (o ∷ []), length-append costs (c ∷ []), h.long);
  each = λ i p d f g. elim (push_cases known o i p f) [
    | inl a ↦ elim (push_cases costs c i d g) [
      | inl b ↦ h.each i p d a.1 b.1
      | inr b ↦ absurd (omega (arith, a.0, b.0, h.long))
    ]
    | inr a ↦ elim (push_cases costs c i d g) [
      | inl b ↦ absurd (omega (arith, a.0, b.0, h.long))
      | inr b ↦ subst (λ (x : Option OwnCosts). IsKnown x d) a.1 (subst (IsKnown o) b.1 own)
    ]
  ];
}

passed : (limit sum : ℕ) (ls : List LineLoad) (l : LineLoad) → first_over limit sum ls ≡ Some l → limit < sum + sum_by (λ (x : LineLoad). x.load) ls
passed limit sum [] l h = cc
passed limit sum (x ∷ xs) l h =
    let c : sum_by (λ (y : LineLoad). y.load) (x ∷ xs) ≡ x.load + sum_by (λ (y : LineLoad). y.load) xs = sum_by-cons (λ (y : LineLoad). y.load) x xs in
    elim (cases_lt limit (sum + x.load)) [
      | inl low ↦ omega (arith, c)
      | inr high ↦
          let t : nat_lt limit (sum + x.load) ≡ false = search (arith) in
          let r : limit < sum + x.load + sum_by (λ (y : LineLoad). y.load) xs = passed limit (sum + x.load) xs l (rw t at h) in
          omega (arith, c, r)
    ]

node_sum : (ts : List NodeTiming) → sum_by (λ (x : LineLoad). x.load) (map load_at_line ts) ≡ sum_by (λ (t : NodeTiming). t.load) ts
node_sum [] = refl
node_sum (t ∷ ts) =
    omega (arith, sum_by-cons (λ (x : LineLoad). x.load) (load_at_line t) (map load_at_line ts), sum_by-cons (λ (x : NodeTiming). x.load) t ts, node_sum ts)

line_sum : (s : StFuncTree) (ts : List NodeTiming) → sum_by (λ (x : LineLoad). x.load) (line_loads s ts) ≡ (func_costs_by s ts).load
line_sum s ts =
    let last : LineLoad = record { line = s.end_line; load = slack_load (item_layouts s) (result_uses s ts) } in
    let a : sum_by (λ (x : LineLoad). x.load) (line_loads s ts) ≡ sum_by (λ (x : LineLoad). x.load) (map load_at_line ts) + sum_by (λ (x : LineLoad). x.load)
    (last ∷ []) = sum_by-append (λ (x : LineLoad). x.load) (map load_at_line ts) (last ∷ []) in
    let b : sum_by (λ (x : LineLoad). x.load) (last ∷ []) ≡ last.load + 0 = sum_by-cons (λ (x : LineLoad). x.load) last [] in
    omega (arith, a, b, node_sum ts)

pub heavy : (s : StFuncTree) (ts : List NodeTiming) (line sum : ℕ) → IsOverAt (first_over 999999999 0 (line_loads s ts)) line sum
    → 1000000000 ≤ (func_costs_by s ts).load
heavy s ts line sum h = omega (arith, passed 999999999 0 (line_loads s ts) _ h.at, line_sum s ts)

-- ---- the arrivals of one more instance

pub more_within : (known : List OwnCosts) (s : StFuncTree) (t : FuncTiming) (limit : ℕ) (old new : List (List ℕ)) → IsTimed s (node_timings known s) limit t
    → new ≡ old ++ t.arrivals.items ∷ [] → HasMore known s old new
more_within known s t limit old new h e = record { own = t.arrivals.items; added = e; is = λ l. h.arrivals }

pub met_within : (known : List OwnCosts) (s : StFuncTree) (t : FuncTiming) (limit : ℕ) (old new : List (List ℕ)) → IsTimed s (node_timings known s) limit t
    → t.meets.items ≡ func_meets t.arrivals.items s → new ≡ old ++ t.meets.items ∷ [] → HaveMoreMet known s old new
met_within known s t limit old new h met e = record { own = t.meets.items; added = e; is = λ l. met ∙ ap (λ xs. func_meets xs s) h.arrivals }

pub more_over : (told : List OwnCosts → StFuncTree → List ℕ) (known : List OwnCosts) (s : StFuncTree) (own : List ℕ) (old new : List (List ℕ))
    → 1000000000 ≤ (func_costs known s).load → new ≡ old ++ own ∷ []
    → HasOneMore told known s old new
more_over told known s own old new h e = record { own = own; added = e; is = λ l. absurd (omega (arith, h, l)) }

pub told_more : (told : List OwnCosts → StFuncTree → List ℕ) (instances : List StFuncTree) (k : ℕ) (s : StFuncTree) (old new : List (List ℕ))
    → slice_get instances k ≡ Some s → AreToldFirst told k instances old
    → HasOneMore told (all_costs (take k instances)) s old new → AreToldFirst told (k + 1) instances new
told_more told instances k s old new f h more = record {
  long = omega (arith, ap length more.added, length-append old (more.own ∷ []), h.long);
  each = λ j u l g light. elim (cases_eq j k) [
    | inl e ↦
        let g' : slice_get instances k ≡ Some u = rw e at g in
        let same : s ≡ u = same_Some s u (sym f ∙ g') in
        let light' : (func_costs (all_costs (take k instances)) s).load < 1000000000 = rw (same, ← e) light in
        let own : more.own ≡ told (all_costs (take k instances)) s = more.is light' in
        let at : slice_get new k ≡ Some more.own = rw (more.added, ← h.long) (get_last old more.own) in
        rw (e, ← same) (at ∙ ap Some own)
    | inr ne ↦ rw more.added (get_in_front old (more.own ∷ []) j (told (all_costs (take j instances)) u) (h.each j u (omega arith) g light))
  ];
}

pub light_cost : (s : StFuncTree) (ts : List NodeTiming) (limit : ℕ) (t : FuncTiming) → limit ≡ 999999999 → IsTimed s ts limit t
    → (t.costs ≡ func_costs_by s ts) × IsBounded t.costs × (t.costs.load < 1000000000)
light_cost s ts limit t e h = (h.costs, h.bounded, omega (arith, h.within, e))

-- ---- a whole program

pub sound_at : (p : List StFunc) (k : ℕ) (s : StFunc) (known : List (Option OwnCosts)) → IsSound (st_func_trees p) → slice_get p k ≡ Some s
    → AreKnown known (all_costs (take k (st_func_trees p))) → IsSoundFunc (length known) (st_func_tree s)
sound_at p k s known sound f h =
    let g : slice_get (st_func_trees p) k ≡ Some (st_func_tree s) = get_mapped st_func_tree p k s f in
    let low : k < length (st_func_trees p) = slice_get_within (st_func_trees p) k (st_func_tree s) g in
    let long : length known ≡ k = omega (
      arith,
      h.long,
      length_grown func_costs [] (take k (st_func_trees p)),
      length-take-le k (st_func_trees p) (omega arith),
    ) in
    rw long (sound.each k (st_func_tree s) g)

pub known_next : (p : List StFunc) (k : ℕ) (s : StFunc) (known : List (Option OwnCosts)) → slice_get p k ≡ Some s
    → AreKnown known (all_costs (take k (st_func_trees p)) ++ func_costs (all_costs (take k (st_func_trees p))) (st_func_tree s) ∷ [])
    → AreKnown known (all_costs (take (k + 1) (st_func_trees p)))
known_next p k s known f h = rw (costs_more (st_func_trees p) k (st_func_tree s) (get_mapped st_func_tree p k s f)) h

pub told_next : (told : List OwnCosts → StFuncTree → List ℕ) (p : List StFunc) (k : ℕ) (s : StFunc) (old new : List (List ℕ)) → slice_get p k ≡ Some s
    → AreToldFirst told k (st_func_trees p) old
    → HasOneMore told (all_costs (take k (st_func_trees p))) (st_func_tree s) old new → AreToldFirst told (k + 1) (st_func_trees p) new
told_next told p k s old new f h more = told_more told (st_func_trees p) k (st_func_tree s) old new (get_mapped st_func_tree p k s f) h more

pub end_times : (p : List StFunc) (last : ℕ) (s : StFunc) (t : FuncTiming) (limit : ℕ) (old met : List (List ℕ)) (v : Times) → IsSound (st_func_trees p)
    → limit < 1000000000 → last ≡ length p - 1 → slice_get p last ≡ Some s
    → IsTimed (st_func_tree s) (node_timings (all_costs (take last (st_func_trees p))) (st_func_tree s)) limit t
    → t.meets.items ≡ func_meets t.arrivals.items (st_func_tree s) → AreFirst last (st_func_trees p) old → AreToldFirst item_meets last
    (st_func_trees p) met
    → v.costs ≡ t.costs → v.arrivals ≡ old ++ t.arrivals.items ∷ [] → v.meets ≡ met ++ t.meets.items ∷ [] → v.nodes ≡ t.nodes.items → AreTimes
    (st_func_trees p) v
end_times p last s t limit old met v sound few e f w together first first_met ec ea em en =
    let instances : List StFuncTree = st_func_trees p in
    let g : slice_get instances last ≡ Some (st_func_tree s) = get_mapped st_func_tree p last s f in
    let long : length instances ≡ length p = length-map p st_func_tree in
    let low : last < length instances = slice_get_within instances last (st_func_tree s) g in
    let at : length instances - 1 ≡ last = omega (arith, e, long) in
    let all : AreFirst (last + 1) instances v.arrivals = told_more item_arrivals instances last (st_func_tree s) old v.arrivals g first
    (more_within (all_costs (take last instances)) (st_func_tree s) t limit old v.arrivals w ea) in
    let all_met : AreToldFirst item_meets (last + 1) instances v.meets =
    told_more item_meets instances last (st_func_tree s) met v.meets g first_met
    (met_within (all_costs (take last instances)) (st_func_tree s) t limit met v.meets w together em) in
    let top : (u : StFuncTree) → slice_get instances (length instances - 1) ≡ Some u → load_at instances (length instances - 1) u ≤ limit = λ u h.
    (let same : st_func_tree s ≡ u = same_Some (st_func_tree s) u (sym g ∙ rw at at h) in
    let load : t.costs.load ≡ load_at instances last (st_func_tree s) = ap (λ (c : OwnCosts). c.load) w.costs in
    rw (at, ← same) (omega (arith, load, w.within))) in
    record {
      many = omega (arith, all.long, low, at);
      costs = λ u h.
          let same : st_func_tree s ≡ u = same_Some (st_func_tree s) u (sym g ∙ rw at at h) in
          rw (at, ← same) (ec ∙ w.costs);
      arrivals = λ k u h.
          let l : k < length instances = slice_get_within instances k u h in
          let light : load_at instances k u ≤ limit = used_light instances limit sound top k (sound.used k u h) u h in
          all.each k u (omega arith) h (omega (arith, light, few));
      meets = λ k u h.
          let l : k < length instances = slice_get_within instances k u h in
          let light : load_at instances k u ≤ limit = used_light instances limit sound top k (sound.used k u h) u h in
          all_met.each k u (omega arith) h (omega (arith, light, few));
      nodes = λ u h.
          let same : st_func_tree s ≡ u = same_Some (st_func_tree s) u (sym g ∙ rw at at h) in
          rw (at, ← same) (en ∙ w.nodes);
    }

pub end_fine : (p : List StFunc) (last : ℕ) (s : StFunc) (limit : ℕ) → last ≡ length p - 1 → slice_get p last ≡ Some s
    → too_large limit (st_func_trees p) ≡ first_over limit 0
    (line_loads (st_func_tree s) (node_timings (all_costs (take last (st_func_trees p))) (st_func_tree s)))
end_fine p last s limit e f =
    let g : slice_get (st_func_trees p) last ≡ Some (st_func_tree s) = get_mapped st_func_tree p last s f in
    let at : length (st_func_trees p) - 1 ≡ last = omega (arith, e, length-map p st_func_tree) in
    rw (at, g) refl

pub end_large : (p : List StFunc) (last : ℕ) (s : StFunc) (limit line sum : ℕ) → last ≡ length p - 1 → slice_get p last ≡ Some s
    → IsOverAt (first_over limit 0 (line_loads (st_func_tree s) (node_timings (all_costs (take last (st_func_trees p))) (st_func_tree s)))) line sum
    → IsOverAt (too_large limit (st_func_trees p)) line sum
end_large p last s limit line sum e f h = record { total = h.total; at = end_fine p last s limit e f ∙ h.at; told = h.told }
