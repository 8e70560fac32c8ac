-- A column has one step for each stretch of equal choices.
use Rattle.std.proofs.Common.{sum, sum_by, filter, take, set, get_or, ℕ, zero, suc, ◌≡◌, ◌+◌, ◌<◌, ◌≤◌, List, ◌∷◌, ◌++◌, [], length, map, Option, Some, None, Bool, true, false, ◌&&◌, nat_eq, cond, slice_get, arith, refl, sym, ap, ◌∙◌, inl, inr}
use Rattle.std.proofs.lemmas.List.{take_all, length-map, length_push, map-append, append-nil}
use Rattle.std.proofs.lemmas.List.Elements.{filter_more}
use Rattle.std.proofs.lemmas.List.FromFn.{fill_by_all}
use Rattle.std.proofs.lemmas.List.Sums.{sum-map}
use Rattle.std.specs.List.{range_with_len}
use Rattle.std.proofs.lemmas.Option.{slice_get_within, slice_get-get_or, get_or_from_slice_get}
use Rattle.std.proofs.lemmas.Bool.{cases_eq, eq-eqb, eqb-true, ne_eqb}
use Rattle.ae_sttype.specs.Moves.{ChoiceTree, TripTree, delayed, always, changes_after, choice_from, choices_of, runs_of, same_choice, stretches}
use Rattle.ae_moves.specs.declared.trip.Source.{Source}
use Rattle.ae_moves.specs.declared.trip.Source.TheVariants.{Place, Fixed}
use Rattle.ae_moves.specs.declared.trip.Choice.{Choice}
use Rattle.ae_moves.specs.declared.trip.Choice.TheVariants.{Delayed, Constant}
use Rattle.ae_moves.specs.declared.trip.Trip.{Trip}
use Rattle.ae_columns.specs.declared.steps.Step.{Step}
use Rattle.ae_columns.specs.Plans.{choice_from as code_choice, choice_of}
use Rattle.ae_moves.specs.Trees.{choice_tree, source_tree, trip_tree}
use Rattle.ae_moves.proofs.Lists.{get_mapped}
use Rattle.ae_gather.proofs.Planning.{get_set_cases}
use Rattle.ae_moves.proofs.Stretches.{last_after, last_after_push, changes_push}

-- the choices of steps, and of a trip
abbrev pub takes_of : List Step → List ChoiceTree
takes_of steps = map (λ (s : Step). choice_tree s.take) steps

abbrev pub choice_at : (d : ℕ) → TripTree → ChoiceTree
choice_at d t = choice_from d t.clock t.source

choice_by : (d c : ℕ) (s : Source) → choice_tree (code_choice d c s) ≡ choice_from d c (source_tree s)
choice_by d c (Place k q) = refl
choice_by d c (Fixed v) = refl

pub choice_is : (d : ℕ) (t : Trip) → choice_tree (choice_of d t) ≡ choice_at d (trip_tree t)
choice_is d t = choice_by d t.clock t.source

pub tree_same : (x y : Choice) → choice_tree x ≡ choice_tree y → x ≡ y
tree_same (Delayed p a) (Delayed q b) e = let f : p ≡ q = cc in let g : a ≡ b = cc in rw (f, g) refl
tree_same (Delayed p a) (Constant v) e = cc
tree_same (Constant v) (Delayed q b) e = cc
tree_same (Constant v) (Constant w) e = let f : v ≡ w = cc in rw f refl

pub same_self : (x : ChoiceTree) → same_choice x x ≡ true
same_self (delayed p a) = rw (eq-eqb p p refl, eq-eqb a a refl) refl
same_self (always v) = eq-eqb v v refl

-- the last of the choices
pub last_of : List ChoiceTree → Option ChoiceTree
last_of [] = None
last_of (x ∷ xs) = Some (last_after x xs)

pub last_push : (xs : List ChoiceTree) (z : ChoiceTree) → last_of (xs ++ z ∷ []) ≡ Some z
unfolding last_after last_of
last_push [] z = refl
last_push (x ∷ xs) z = ap Some (last_after_push x xs z)

-- a choice that goes on makes no new run
runs_on : (xs : List ChoiceTree) (z : ChoiceTree) → last_of xs ≡ Some z → stretches same_choice (xs ++ z ∷ []) ≡ stretches same_choice xs
unfolding last_of
runs_on [] z e = cc
runs_on (x ∷ xs) z e =
    let same : last_after x xs ≡ z = cc in
    let t : same_choice (last_after x xs) z ≡ true = rw same (same_self z) in
    let c : changes_after same_choice x (xs ++ z ∷ []) ≡ changes_after same_choice x xs + cond (same_choice (last_after x xs) z) 0 1 = changes_push x xs z in
    let d : changes_after same_choice x (xs ++ z ∷ []) ≡ changes_after same_choice x xs + 0 = rw t at c in
    omega (arith, d)

pub same_only : (x y : ChoiceTree) → same_choice x y ≡ true → x ≡ y
same_only (delayed p a) (delayed q b) e = elim (cases_eq p q) [
  | inl e1 ↦ elim (cases_eq a b) [
    | inl e2 ↦ rw (e1, e2) refl
    | inr ne ↦ (let t : (nat_eq p q && nat_eq a b) ≡ true = e in let u : (true && false) ≡ true = rw (eq-eqb p q e1, ne_eqb a b ne) at t in cc)
  ]
  | inr ne ↦ (let t : (nat_eq p q && nat_eq a b) ≡ true = e in let u : (false && nat_eq a b) ≡ true = rw (ne_eqb p q ne) at t in cc)
]
same_only (delayed p a) (always v) e = cc
same_only (always v) (delayed q b) e = cc
same_only (always v) (always w) e = ap always (eqb-true v w e)

-- a choice that is another makes one
runs_new : (xs : List ChoiceTree) (z : ChoiceTree) → (last_of xs ≡ Some z → ⊥) → stretches same_choice (xs ++ z ∷ []) ≡ stretches same_choice xs + 1
unfolding last_of
runs_new [] z no_last = refl
runs_new (x ∷ xs) z no_last = by_case (same_choice (last_after x xs) z) refl
  where
    by_case : (b : Bool) → same_choice (last_after x xs) z ≡ b → changes_after same_choice x (xs ++ z ∷ []) + 1 ≡ changes_after same_choice x xs + 1 + 1
    by_case true t = absurd (no_last (ap Some (same_only (last_after x xs) z t)))
    by_case false t = let c : changes_after same_choice x (xs ++ z ∷ []) ≡ changes_after same_choice x xs + cond
        (same_choice (last_after x xs) z) 0 1 = changes_push x xs z in
        let d : changes_after same_choice x (xs ++ z ∷ []) ≡ changes_after same_choice x xs + 1 = rw t at c in omega (arith, d)

-- steps with one for each stretch of these choices
pub record Counts (steps : List Step) (choices : List ChoiceTree) : Type 0 where
  pub all : length steps ≡ stretches same_choice choices
  pub last : last_of (takes_of steps) ≡ last_of choices

last_step : (steps : List Step) (k : ℕ) (step : Step) → length steps ≡ k + 1 → slice_get steps k ≡ Some step
    → last_of (takes_of steps) ≡ Some (choice_tree step.take)
unfolding last_of last_after
last_step [] k step long found = cc
last_step (s ∷ []) zero step long found = let same : s ≡ step = cc in ap (λ (x : Step). Some (choice_tree x.take)) same
last_step (s ∷ []) (suc k) step long found = absurd (omega (arith, long))
last_step (s ∷ t ∷ steps) zero step long found = absurd (omega (arith, long))
last_step (s ∷ t ∷ steps) (suc k) step long found = last_step (t ∷ steps) k step (omega (arith, long)) found

pub counts_on : (steps : List Step) (choices : List ChoiceTree) (k : ℕ) (step : Step) → Counts steps choices → length steps ≡ k + 1
    → slice_get steps k ≡ Some step → Counts steps (choices ++ (choice_tree step.take) ∷ [])
counts_on steps choices k step h long found =
    let last : last_of choices ≡ Some (choice_tree step.take) = sym h.last ∙ last_step steps k step long found in
    record {
      all = h.all ∙ sym (runs_on choices (choice_tree step.take) last);
      last = last_step steps k step long found ∙
          sym (last_push choices (choice_tree step.take));
    }

pub counts_new : (steps : List Step) (choices : List ChoiceTree) (step : Step) → Counts steps choices
    → (last_of (takes_of steps) ≡ Some (choice_tree step.take) → ⊥) → Counts (steps ++ step ∷ []) (choices ++ (choice_tree step.take) ∷ [])
counts_new steps choices step h other = record {
  all = length_push steps step ∙ ap (λ n. n + 1) h.all ∙ sym (runs_new choices (choice_tree step.take) (λ e. other (h.last ∙ e)));
  last = ap last_of (map-append (λ (s : Step). choice_tree s.take) steps (step ∷ [])) ∙ last_push (takes_of steps) (choice_tree step.take) ∙
      sym (last_push choices (choice_tree step.take));
}

last_is : (steps : List Step) (x : ChoiceTree) → last_of (takes_of steps) ≡ Some x → (k : ℕ) × (s : Step) × (length steps ≡ k + 1)
    × (slice_get steps k ≡ Some s) × (choice_tree s.take ≡ x)
unfolding last_of last_after
last_is [] x e = cc
last_is (s ∷ []) x e = let same : (choice_tree s.take) ≡ x = cc in (0, s, refl, refl, same)
last_is (s ∷ t ∷ steps) x e = let r = last_is (t ∷ steps) x e in (suc r.0, r.1, omega (arith, r.2), r.3, r.4)

-- ---- the choices of a column, one trip on

choices_same : (d q : ℕ) (trips : List TripTree) (i : ℕ) (t : TripTree) → slice_get trips i ≡ Some t → t.column ≡ q
    → choices_of d q (take (i + 1) trips) ≡ choices_of d q (take i trips) ++ choice_at d t ∷ []
choices_same d q trips i t found on =
    let is : get_or trips i t ≡ t = get_or_from_slice_get trips i t t found in
    let pass : nat_eq (get_or trips i t).column q ≡ true = ap (λ (x : TripTree). nat_eq x.column q) is ∙ eq-eqb t.column q on in
    ap (map (choice_at d))
    (filter_more (λ (x : TripTree). nat_eq x.column q) trips i t (slice_get_within trips i t found)
    ∙ ap (λ b. filter (λ (x : TripTree). nat_eq x.column q) (take i trips) ++ cond b (get_or trips i t ∷ []) []) pass)
    ∙ map-append (choice_at d) (filter (λ (x : TripTree). nat_eq x.column q) (take i trips)) (get_or trips i t ∷ [])
    ∙ ap (λ (x : TripTree). choices_of d q (take i trips) ++ choice_at d x ∷ []) is

choices_other : (d q : ℕ) (trips : List TripTree) (i : ℕ) (t : TripTree) → slice_get trips i ≡ Some t → (t.column ≡ q → ⊥)
    → choices_of d q (take (i + 1) trips) ≡ choices_of d q (take i trips)
choices_other d q trips i t found off =
    let is : get_or trips i t ≡ t = get_or_from_slice_get trips i t t found in
    let pass : nat_eq (get_or trips i t).column q ≡ false = ap (λ (x : TripTree). nat_eq x.column q) is ∙ ne_eqb t.column q off in
    ap (map (choice_at d))
    (filter_more (λ (x : TripTree). nat_eq x.column q) trips i t (slice_get_within trips i t found)
    ∙ ap (λ b. filter (λ (x : TripTree). nat_eq x.column q) (take i trips) ++ cond b (get_or trips i t ∷ []) []) pass
    ∙ append-nil (filter (λ (x : TripTree). nat_eq x.column q) (take i trips)))

-- each column has one step for each stretch of the first i trips
pub record Counted (d : ℕ) (trips : List TripTree) (i : ℕ) (columns : List (List Step)) : Type 0 where
  pub each : (q : ℕ) (steps : List Step) → slice_get columns q ≡ Some steps → Counts steps (choices_of d q (take i trips))

pub counted_none : (d : ℕ) (trips : List TripTree) (columns : List (List Step)) → ((q : ℕ) (steps : List Step) → slice_get columns q ≡ Some steps → steps ≡ [])
    → Counted d trips 0 columns
counted_none d trips columns empty = record { each = λ q steps f. rw (empty q steps f) (record { all = refl; last = refl }) }

pub counted_same : (d : ℕ) (trips : List TripTree) (i : ℕ) (columns : List (List Step)) (t : TripTree) (steps : List Step) (k : ℕ) (step : Step)
    → Counted d trips i columns → slice_get trips i ≡ Some t → slice_get columns t.column ≡ Some steps
    → length steps ≡ k + 1 → slice_get steps k ≡ Some step → (choice_tree step.take) ≡ choice_at d t → Counted d trips (i + 1) columns
counted_same d trips i columns t steps k step h at there long last takes = record {
  each = λ q these f. elim (cases_eq t.column q) [
    | inl e ↦
        let g : slice_get columns q ≡ Some steps = rw (← e) there in
        let same : steps ≡ these = cc in
        let c : Counts these (choices_of d q (take i trips) ++ (choice_tree step.take) ∷ []) = rw (← same)
        (counts_on steps (choices_of d q (take i trips)) k step (h.each q steps g) long last) in
        rw (choices_same d q trips i t at e, ← takes) c
    | inr ne ↦ rw (choices_other d q trips i t at ne) (h.each q these f)
  ];
}

pub counted_more : (d : ℕ) (trips : List TripTree) (i : ℕ) (columns : List (List Step)) (t : TripTree) (steps : List Step) (step : Step)
    → Counted d trips i columns → slice_get trips i ≡ Some t → slice_get columns t.column ≡ Some steps
    → (choice_tree step.take) ≡ choice_at d t → (((k : ℕ) × (s : Step) × (length steps ≡ k + 1) × (slice_get steps k ≡ Some s)
    × (choice_tree s.take ≡ choice_at d t)) → ⊥) → Counted d trips (i + 1) (set columns t.column (steps ++ step ∷ []))
counted_more d trips i columns t steps step h at there takes other = record {
  each = λ q these f. elim (get_set_cases columns t.column q (steps ++ step ∷ []) steps these there f) [
    | inl e ↦
        let c : Counts (steps ++ step ∷ []) (choices_of d t.column (take i trips) ++ (choice_tree step.take) ∷ []) = counts_new steps
        (choices_of d t.column (take i trips)) step (h.each t.column steps there) (λ l. other (rw takes at (last_is steps (choice_tree step.take) l))) in
        rw (← e.1, e.0, choices_same d t.column trips i t at refl, ← takes) c
    | inr e ↦ rw (choices_other d q trips i t at (λ x. e.0 (sym x))) (h.each q these e.1)
  ];
}

pub counts_whole : (d : ℕ) (trips : List TripTree) (i : ℕ) (columns : List (List Step)) → length trips ≤ i → Counted d trips i columns
    → (q : ℕ) (steps : List Step) → slice_get columns q ≡ Some steps → length steps ≡ stretches same_choice (choices_of d q trips)
counts_whole d trips i columns l h q steps f =
    (h.each q steps f).all ∙ ap (λ (ts : List TripTree). stretches same_choice (choices_of d q ts)) (take_all i trips l)

-- the steps of all columns are the runs
pub runs_sum : (d n : ℕ) (trips : List TripTree) (columns : List (List Step)) → length columns ≡ n
    → ((q : ℕ) (steps : List Step) → slice_get columns q ≡ Some steps → length steps ≡ stretches same_choice (choices_of d q trips))
    → sum_by length columns ≡ runs_of d n trips
runs_sum d n trips columns long h =
    let f : ℕ → ℕ = λ q. stretches same_choice (choices_of d q trips) in
    let each : (q : ℕ) → q < n → get_or (map length columns) q 0 ≡ f q = λ q l.
    (let there : slice_get columns q ≡ Some (get_or columns q []) = slice_get-get_or columns q [] (omega (arith, long)) in
    get_or_from_slice_get (map length columns) q (length (get_or columns q [])) 0 (get_mapped length columns q (get_or columns q []) there) ∙
    h q (get_or columns q []) there) in
    sym (sum-map length columns) ∙ ap sum (fill_by_all f (map length columns) n 0 (length-map columns length ∙ long) each) ∙ sum-map f (range_with_len 0 n)
