-- Columns whose steps all come late are in time when they are chosen a clock early.
use Rattle.std.proofs.Common.{ℕ, suc, ◌≡◌, ◌≢◌, ◌+◌, ◌<◌, ◌≤◌, inl, inr, fold, nat_lt, Bool, true, false, List, ◌∷◌, ◌++◌, [], length, Some, slice_get, get_or, arith, refl, ◌∙◌}
use Rattle.std.proofs.lemmas.Option.{slice_get_within, slice_get-get_or, get_or_from_slice_get}
use Rattle.std.proofs.lemmas.List.{length_push}
use Rattle.ae_netlist.proofs.Gets.{get_push_cases}
use Rattle.ae_moves.specs.declared.trip.Source.{Source}
use Rattle.ae_moves.specs.declared.trip.Source.TheVariants.{Place, Fixed}
use Rattle.ae_moves.specs.declared.trip.Choice.{Choice}
use Rattle.ae_moves.specs.declared.trip.Trip.{Trip}
use Rattle.ae_columns.specs.declared.steps.Step.{Step}
use Rattle.ae_columns.specs.Plans.{choice_from, choice_in, choice_of, later, AreWithin, IsPlan, IsReached}
use Rattle.ae_columns.specs.Early.{AllComeLate, AreInTime, ComesLate, hastened_source, is_early, next_source}

later_late : (p : ℕ) (before : Choice) (step : Step) → ComesLate before → ComesLate step.take → ComesLate (later p before step)
later_late p before step h k = by (nat_lt p step.from) refl
  where
    by : (b : Bool) → nat_lt p step.from ≡ b → ComesLate (later p before step)
    by true is = rw is h
    by false is = rw is k

fold_late : (p : ℕ) (before : Choice) (steps : List Step) → ComesLate before → ((k : ℕ) (step : Step) → slice_get steps k ≡ Some step → ComesLate step.take)
    → ComesLate (fold (later p) before steps)
fold_late p before [] h all = h
fold_late p before (s ∷ steps) h all = fold_late p (later p before s) steps (later_late p before s h (all 0 s refl)) (λ k step f. all (suc k) step f)

chosen_late : (p : ℕ) (steps : List Step) → 1 ≤ length steps → AllComeLate steps → ComesLate (choice_in p steps)
unfolding choice_in
chosen_late p [] some h = absurd (omega (arith, some))
chosen_late p (s ∷ steps) some h = fold_late p s.take steps (h.each 0 s refl) (λ k step f. h.each (suc k) step f)

late_reached : (d c : ℕ) (source : Source) → ComesLate (choice_from d c source) → IsReached d c (next_source source)
late_reached d c (Place k q) h = omega arith
late_reached d c (Fixed w) h = tt

pub in_time : (period d ins outs : ℕ) (trips : List Trip) (lines : List (List ℕ)) (columns : List (List Step)) (early : List Bool)
    → AreWithin period d ins outs trips → IsPlan d trips lines columns → length columns ≡ outs
    → ((q : ℕ) (steps : List Step) → slice_get columns q ≡ Some steps → is_early early q ≡ true → AllComeLate steps) → AreInTime d early trips
in_time period d ins outs trips lines columns early within plan long late = record {
  each = λ n trip found.
      (let inside : trip.column < length columns = (let l : trip.column < outs = within.column n trip found in omega arith) in
      let there : slice_get columns trip.column ≡ Some (get_or columns trip.column []) = slice_get-get_or columns trip.column [] inside in
      let chooses = plan.chosen n trip (get_or columns trip.column []) found there in
      by trip (is_early early trip.column) (within.reached n trip found)
      (λ on. rw chooses at (chosen_late trip.clock (get_or columns trip.column []) (plan.some n trip (get_or columns trip.column []) found there)
      (late trip.column (get_or columns trip.column []) there on))) refl);
}
  where
    by : (trip : Trip) (b : Bool) → IsReached d trip.clock trip.source → (is_early early trip.column ≡ true → ComesLate (choice_of d trip))
        → is_early early trip.column ≡ b → IsReached d trip.clock (hastened_source (is_early early trip.column) trip.source)
    by trip true reached h on = rw on (late_reached d trip.clock trip.source (h on))
    by trip false reached h off = rw off reached

pub none_in_time : (period d ins outs : ℕ) (trips : List Trip) (early : List Bool) → AreWithin period d ins outs trips → ((q : ℕ) → is_early early q ≡ false)
    → AreInTime d early trips
none_in_time period d ins outs trips early within none = record { each = λ n trip found. rw (none trip.column) (within.reached n trip found) }

-- ---- flags

pub all_false : (early : List Bool) → ((q : ℕ) → slice_get early q ≢ Some true) → (q : ℕ) → q < length early → is_early early q ≡ false
all_false early none q l = by (get_or early q false) (slice_get-get_or early q false l)
  where
    by : (b : Bool) → slice_get early q ≡ Some b → b ≡ false
    by true f = absurd (none q f)
    by false f = refl

pub all_true : (early : List Bool) → ((q : ℕ) → slice_get early q ≢ Some false) → (q : ℕ) → q < length early → is_early early q ≡ true
all_true early none q l = by (get_or early q false) (slice_get-get_or early q false l)
  where
    by : (b : Bool) → slice_get early q ≡ Some b → b ≡ true
    by true f = refl
    by false f = absurd (none q f)

-- two flags that differ are two
pub two_flags : (early : List Bool) (p q : ℕ) → slice_get early p ≡ Some true → slice_get early q ≡ Some false → 2 ≤ length early
two_flags early p q f g =
    let lp : p < length early = slice_get_within early p true f in
    let lq : q < length early = slice_get_within early q false g in
    let other : p ≢ q = λ e. (let h : slice_get early q ≡ Some true = rw e at f in cc) in
    omega arith

-- one column more
pub early_push : (early : List Bool) (v : Bool) (columns : List (List Step)) (i : ℕ) (all : List Step) → length early ≡ i → slice_get columns i ≡ Some all
    → (v ≡ true → AllComeLate all)
    → ((q : ℕ) (steps : List Step) → q < i → slice_get columns q ≡ Some steps → is_early early q ≡ true → AllComeLate steps)
    → (q : ℕ) (steps : List Step) → q < i + 1 → slice_get columns q ≡ Some steps → is_early (early ++ v ∷ []) q ≡ true → AllComeLate steps
early_push early v columns i all long found own before q steps l there on =
    let n : length (early ++ v ∷ []) ≡ length early + 1 = length_push early v in
    let at : slice_get (early ++ v ∷ []) q ≡ Some true = rw on at (slice_get-get_or (early ++ v ∷ []) q false (omega arith)) in
    elim (get_push_cases early v q true at) [
      | inl e ↦ (let less : q < length early = e.1 in before q steps (omega arith) there (get_or_from_slice_get early q true false e.0))
      | inr e ↦
          let here : q ≡ i = e.0 ∙ long in
          let f : slice_get columns i ≡ Some steps = rw here at there in
          let same : all ≡ steps = cc in
          rw (← same) (own e.1)
    ]
