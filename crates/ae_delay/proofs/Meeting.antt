-- When all arguments of a node have come: later items change nothing of it. Behind the last node stand the results.
use Rattle.std.proofs.Common.{ℕ, suc, ◌≡◌, ◌+◌, ◌<◌, ◌≤◌, max, fold, List, [], ◌∷◌, ◌++◌, length, length-append, take, Some, slice_get, arith, refl, sym, ap, ◌∙◌}
use Rattle.std.proofs.lemmas.List.{get_or_append_left, length-map, length-take-le, map-append, take_all}
use Rattle.std.specs.Prelude.{unwrap_or}
use Rattle.std.proofs.lemmas.Option.{unwrap_or-slice_get}
use Rattle.ae_moves.proofs.Lists.{take_push}
use Rattle.ae_netlist.proofs.Gets.{get_from_take, get_take_within}
use Rattle.ae_rewrite.specs.declared.st_program.StFunc.{StFunc}
use Rattle.ae_rewrite.specs.declared.st_program.StNode.{StNode}
use Rattle.ae_rewrite.specs.StProgramTree.{StNodeTree, StFuncTree, st_func_tree, st_node_tree}
use Rattle.ae_rewrite.specs.Scheduled.{node_layouts}
use Rattle.ae_rewrite.specs.Sound.{IsSoundFunc}
use Rattle.ae_delay.specs.declared.own.OwnCosts.{OwnCosts}
use Rattle.ae_delay.specs.declared.weighing.Progress.{Progress}
use Rattle.ae_delay.specs.declared.weighing.FuncTiming.{FuncTiming}
use Rattle.ae_delay.specs.declared.weighing.Weighed.{Weighed}
use Rattle.ae_delay.specs.declared.weighing.Weighed.TheVariants.{Within, Over}
use Rattle.ae_delay.specs.Costs.{func_meets, latest, meets_of}
use Rattle.ae_delay.specs.Weighing.{AllBelow, HaveMet, IsProgress}
use Rattle.ae_delay.proofs.Instances.{arrivals_long, timings_to}

pub most_same : (f g : ℕ → ℕ) (a : ℕ) (xs : List ℕ) → ((r i : ℕ) → slice_get xs r ≡ Some i → f i ≡ g i)
    → fold (λ most x. max most (f x)) a xs ≡ fold (λ most x. max most (g x)) a xs
most_same f g a [] same = refl
most_same f g a (x ∷ xs) same =
    ap (λ v. fold (λ most y. max most (f y)) (max a v) xs) (same 0 x refl) ∙ most_same f g (max a (g x)) xs (λ r i h. same (suc r) i h)

pub latest_front : (xs ys items : List ℕ) → AllBelow items (length xs) → latest (xs ++ ys) items ≡ latest xs items
latest_front xs ys items h =
    most_same (λ a. unwrap_or (slice_get (xs ++ ys) a) 0) (λ a. unwrap_or (slice_get xs a) 0) 0 items
    (λ r i f. rw (unwrap_or-slice_get (xs ++ ys) i 0, unwrap_or-slice_get xs i 0) (get_or_append_left xs ys 0 i (h r i f)))

meets_kept : (old ys : List ℕ) (nodes : List StNodeTree) → ((j : ℕ) (m : StNodeTree) → slice_get nodes j ≡ Some m → AllBelow m.args (length old))
    → meets_of (old ++ ys) nodes ≡ meets_of old nodes
meets_kept old ys [] h = refl
meets_kept old ys (n ∷ nodes) h =
    ap (λ t. t ∷ meets_of (old ++ ys) nodes) (latest_front old ys n.args (h 0 n refl))
    ∙ ap (λ ts. latest old n.args ∷ ts) (meets_kept old ys nodes (λ j m f. h (suc j) m f))

-- with one node more
pub meets_more : (nodes : List StNodeTree) (i x : ℕ) (n : StNodeTree) (old new before after : List ℕ) → slice_get nodes i ≡ Some n
    → ((j : ℕ) (m : StNodeTree) → j < i + 1 → slice_get nodes j ≡ Some m → AllBelow m.args (length old))
    → new ≡ old ++ x ∷ [] → before ≡ meets_of old (take i nodes) → after ≡ before ++ latest old n.args ∷ [] → after ≡ meets_of new (take (i + 1) nodes)
meets_more nodes i x n old new before after found low en eb ea =
    let more : meets_of old (take (i + 1) nodes) ≡ meets_of old (take i nodes) ++ latest old n.args ∷ [] =
    ap (meets_of old) (take_push nodes i n found) ∙ map-append (λ (m : StNodeTree). latest old m.args) (take i nodes) (n ∷ []) in
    let kept : meets_of (old ++ x ∷ []) (take (i + 1) nodes) ≡ meets_of old (take (i + 1) nodes) =
    meets_kept old (x ∷ []) (take (i + 1) nodes) (λ j m f. low j m (get_take_within nodes (i + 1) j m f) (get_from_take nodes (i + 1) j m f)) in
    ea ∙ (ap (λ ts. ts ++ latest old n.args ∷ []) eb ∙ (sym more ∙ (sym kept ∙ ap (λ xs. meets_of xs (take (i + 1) nodes)) (sym en))))

-- the arguments of the nodes so far have all come
pub all_arrived : (costs : List OwnCosts) (k : ℕ) (s : StFuncTree) (i limit : ℕ) (p : Progress) → IsSoundFunc k s → i < length s.nodes
    → IsProgress s (timings_to costs s i) limit p
    → (j : ℕ) (m : StNodeTree) → j < i + 1 → slice_get s.nodes j ≡ Some m → AllBelow m.args (length p.arrivals.items)
all_arrived costs k s i limit p h le g j m low f r a found =
    let l : a < length (s.ins ++ node_layouts (take j s.nodes)) = (h.nodes j m f).args r a found in
    omega (
      arith,
      l,
      low,
      le,
      arrivals_long costs s i limit p (omega (arith, le)) g,
      length-append s.ins (node_layouts (take j s.nodes)),
      length-map
          (take j s.nodes) (λ (x : StNodeTree). x.type),
      length-take-le j s.nodes (omega (arith, low, le)),
    )

-- after the last node, with the results
pub met_all : (s : StFunc) (items : List StNode) (i : ℕ) (p : Progress) (w : Weighed) → items ≡ s.nodes.items → length items ≤ i
    → p.meets.items ≡ meets_of p.arrivals.items (take i (st_func_tree s).nodes)
    → ((t : FuncTiming) → w ≡ Within t
    → (t.arrivals ≡ p.arrivals) × (t.meets.items ≡ p.meets.items ++ latest p.arrivals.items s.results.items ∷ [])) → HaveMet (st_func_tree s) w
met_all s items i p (Within t) e l met h =
    let whole : take i (st_func_tree s).nodes ≡ (st_func_tree s).nodes = take_all i (st_func_tree s).nodes
    (omega (arith, l, length-map s.nodes.items st_node_tree, ap length e)) in
    let end = h t refl in
    end.1 ∙ (ap (λ ms. ms ++ latest p.arrivals.items s.results.items ∷ []) (met ∙ ap (meets_of p.arrivals.items) whole)
    ∙ ap (λ v. func_meets v.items (st_func_tree s)) (sym end.0))
met_all s items i p (Over line sum) e l met h = tt
