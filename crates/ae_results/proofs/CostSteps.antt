-- Columns and costs, one more at a time.
use Rattle.std.proofs.Common.{◌≡◌, ℕ, ◌+◌, ◌<◌, inl, inr, List, [], ◌∷◌, ◌++◌, length, take, map, sum_by, get_or, Some, slice_get, refl, arith, ap, ◌∙◌}
use Rattle.std.proofs.lemmas.Bool.{cases_lt}
use Rattle.std.proofs.lemmas.List.{take_more}
use Rattle.std.proofs.lemmas.List.Sums.{sum_by-cons, sum_by-append}
use Rattle.ae_sttype.specs.declared.st_type.StType.{StType}
use Rattle.ae_sttype.specs.StTree.{st_tree, time}
use Rattle.ae_sttype.specs.Moves.{columns_of, delay_of, first_column, runs_of}
use Rattle.ae_moves.specs.declared.trip.Trip.{Trip}
use Rattle.ae_moves.specs.Trees.{trip_tree}
use Rattle.ae_moves.specs.Origins.{Move, move_latency, move_trips}
use Rattle.ae_moves.specs.Rings.{mems_of}
use Rattle.ae_moves.proofs.Lists.{get_mapped, take_push}
use Rattle.ae_netlist.proofs.Gets.{get_left}
use Rattle.ae_rewrite.specs.StProgramTree.{st_trees}
use Rattle.ae_delay.specs.Moving.{costs_of_move}
use Rattle.ae_results.specs.declared.costs.ResultCosts.{ResultCosts}

last-at : (xs : List ℕ) (x : ℕ) → slice_get (xs ++ x ∷ []) (length xs) ≡ Some x
last-at [] x = refl
last-at (y ∷ xs) x = last-at xs x

pub firsts-next : (ls : List StType) (k count : ℕ) (firsts : List ℕ) → length firsts ≡ k → count ≡ sum_by columns_of (take k (st_trees ls))
    → ((i : ℕ) → i < k → slice_get firsts i ≡ Some (first_column (st_trees ls) i)) → (i : ℕ) → i < k + 1
    → slice_get (firsts ++ count ∷ []) i ≡ Some (first_column (st_trees ls) i)
firsts-next ls k count firsts many all each i low = elim (cases_lt i k) [
  | inl lt ↦ get_left firsts (count ∷ []) i (first_column (st_trees ls) i) (each i lt)
  | inr ge ↦
      let e : i ≡ length firsts = omega (arith, ge, low, many) in
      let same : k ≡ i = omega (arith, ge, low) in
      ap (slice_get (firsts ++ count ∷ [])) e ∙ last-at firsts count ∙ ap Some (all ∙ ap (λ n. sum_by columns_of (take n (st_trees ls))) same)
]

pub columns-next : (ls : List StType) (k : ℕ) (t : StType) → slice_get ls k ≡ Some t
    → sum_by columns_of (take (k + 1) (st_trees ls)) ≡ sum_by columns_of (take k (st_trees ls)) + columns_of (st_tree t)
columns-next ls k t found =
    let here = get_mapped st_tree ls k t found in
    let one : sum_by columns_of (st_tree t ∷ []) ≡ columns_of (st_tree t) + 0 = sum_by-cons columns_of (st_tree t) [] in
    ap (sum_by columns_of) (take_push (st_trees ls) k (st_tree t) here) ∙ sum_by-append columns_of (take k (st_trees ls)) (st_tree t ∷ []) ∙ omega (arith, one)

pub costs-are : (m : Move) (trips : List Trip) (d ins outs period delay runs mems : ℕ) → d ≡ move_latency m → ins ≡ sum_by columns_of m.ins
    → outs ≡ columns_of m.out → period ≡ time m.out → map trip_tree trips ≡ move_trips m
    → delay ≡ delay_of d ins (map trip_tree trips) → runs ≡ runs_of d outs (map trip_tree trips) → mems ≡ mems_of period d ins (map trip_tree trips)
    → (delay ≡ (costs_of_move m).delay) × (runs ≡ (costs_of_move m).runs) × (mems ≡ (costs_of_move m).mems)
costs-are m trips d ins outs period delay runs mems ed ei eo ep et e1 e2 e3 = (
  e1 ∙ (λ i. delay_of (ed i) (ei i) (et i)),
  e2 ∙ (λ i. runs_of (ed i) (eo i) (et i)),
  e3 ∙ (λ i. mems_of (ep i) (ed i) (ei i) (et i)),
)

-- ---- sums

abbrev pub no-costs : ResultCosts
no-costs = record { latency = 0; load = 0; mems = 0; columns = 0 }

pub sum-more : (f : ResultCosts → ℕ) (cs : List ResultCosts) (k : ℕ) (d : ResultCosts) → k < length cs
    → sum_by f (take (k + 1) cs) ≡ sum_by f (take k cs) + f (get_or cs k d)
sum-more f cs k d low =
    let one : sum_by f (get_or cs k d ∷ []) ≡ f (get_or cs k d) + 0 = sum_by-cons f (get_or cs k d) [] in
    ap (sum_by f) (take_more cs k d low) ∙ sum_by-append f (take k cs) (get_or cs k d ∷ []) ∙ omega (arith, one)
