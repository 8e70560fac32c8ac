-- One trip more is planned.
use Rattle.std.proofs.Common.{ℕ, zero, suc, ◌≡◌, ◌≢◌, ◌+◌, ◌<◌, ◌≤◌, ◌⊎◌, inl, inr, List, ◌∷◌, ◌++◌, [], length, take, set, Some, slice_get, arith, refl, sym, ap, ◌∙◌}
use Rattle.std.proofs.lemmas.List.{take_all, length-set, length_push}
use Rattle.std.proofs.lemmas.Bool.{cases_eq}
use Rattle.std.proofs.lemmas.Option.{slice_get_within}
use Rattle.ae_netlist.proofs.Gets.{get_left, get_pushed, get_push_cases, get_set_other, get_set_same}
use Rattle.ae_moves.specs.declared.trip.Choice.{Choice}
use Rattle.ae_moves.specs.declared.trip.Choice.TheVariants.{Delayed, Constant}
use Rattle.ae_moves.specs.declared.trip.Trip.{Trip}
use Rattle.ae_columns.specs.declared.steps.Step.{Step}
use Rattle.ae_columns.specs.Plans.{choice_of, choice_in, AreInOrder, HasPlace, IsPlan, demanded}
use Rattle.ae_columns.proofs.Later.{later_after, later_before}
use Rattle.ae_columns.proofs.Choosing.{choice_one, choice_push, choice_more, first_take}

-- what the steps of its column choose in the clock of a trip
pub record Made (d : ℕ) (columns : List (List Step)) (trip : Trip) : Type 0 where
  pub steps : List Step
  pub there : slice_get columns trip.column ≡ Some steps
  pub some : 1 ≤ length steps
  pub chooses : choice_in trip.clock steps ≡ choice_of d trip

-- one of the first i trips on column q is where the step comes from
pub record ComesFrom (d i : ℕ) (trips : List Trip) (q : ℕ) (step : Step) : Type 0 where
  pub n : ℕ
  pub trip : Trip
  pub early : n < i
  pub found : slice_get trips n ≡ Some trip
  pub column : trip.column ≡ q
  pub from : step.from ≡ trip.clock
  pub take : step.take ≡ choice_of d trip

-- the first i trips are planned
pub record Planned (d ins outs : ℕ) (trips : List Trip) (i : ℕ) (lines : List (List ℕ)) (columns : List (List Step)) : Type 0 where
  pub ins_all : length lines ≡ ins
  pub outs_all : length columns ≡ outs
  pub made : (n : ℕ) (trip : Trip) → n < i → slice_get trips n ≡ Some trip → Made d columns trip
  pub from : (q k : ℕ) (steps : List Step) (step : Step) → slice_get columns q ≡ Some steps → slice_get steps k ≡ Some step → ComesFrom d i trips q step
  pub taps : (q k : ℕ) (steps : List Step) (step : Step) → slice_get columns q ≡ Some steps → slice_get steps k ≡ Some step → HasPlace lines step.tap step.take
  pub few : (q : ℕ) (ages : List ℕ) → slice_get lines q ≡ Some ages → length ages ≤ i

pub get_set_cases : {X : Type 0} (xs : List X) (i n : ℕ) (y z x : X) → slice_get xs i ≡ Some z → slice_get (set xs i y) n ≡ Some x → ((n ≡ i) × (y ≡ x))
    ⊎ ((n ≢ i) × (slice_get xs n ≡ Some x))
get_set_cases xs i n y z x there found = elim (cases_eq n i) [
  | inl e ↦ (let at : slice_get (set xs i y) i ≡ Some x = rw e at found in let new : slice_get (set xs i y) i ≡ Some y = get_set_same xs i y z there in
      let same : y ≡ x = cc in inl (e, same))
  | inr ne ↦ inr (ne, sym (get_set_other xs i n y ne) ∙ found)
]

-- ---- the choice of steps

-- in and after its last phase
pub choice_last : (p k : ℕ) (steps : List Step) (step : Step) → length steps ≡ k + 1 → slice_get steps k ≡ Some step → step.from ≤ p
    → choice_in p steps ≡ step.take
choice_last p zero steps step long found l =
    let all : take 1 steps ≡ steps = take_all 1 steps (omega (arith, long)) in
    ap (choice_in p) (sym all ∙ first_take steps step found) ∙ choice_one p step
choice_last p (suc k) steps step long found l =
    let all : take (suc k + 1) steps ≡ steps = take_all (suc k + 1) steps (omega (arith, long)) in
    ap (choice_in p) (sym all) ∙ choice_more p steps (suc k) step (omega arith) (omega (arith, long)) found ∙
    later_after p (choice_in p (take (suc k) steps)) step l

pub choice_new : (p : ℕ) (steps : List Step) (step : Step) → step.from ≤ p → choice_in p (steps ++ step ∷ []) ≡ step.take
choice_new p [] step l = choice_one p step
choice_new p (s ∷ steps) step l = choice_push p (s ∷ steps) step (omega arith) ∙ later_after p (choice_in p (s ∷ steps)) step l

pub choice_old : (p : ℕ) (steps : List Step) (step : Step) → 1 ≤ length steps → p < step.from → choice_in p (steps ++ step ∷ []) ≡ choice_in p steps
choice_old p steps step some l = choice_push p steps step some ∙ later_before p (choice_in p steps) step l

-- ---- taps

pub demanded_length : (old new : List (List ℕ)) (choice : Choice) (tap : ℕ) → demanded old choice new tap → length new ≡ length old
demanded_length old new (Delayed column age) tap h = rw h.2 (length-set old column (h.0 ++ age ∷ []))
demanded_length old new (Constant w) tap h = ap length h

pub demanded_few : (old new : List (List ℕ)) (choice : Choice) (tap i : ℕ) → demanded old choice new tap
    → ((q : ℕ) (ages : List ℕ) → slice_get old q ≡ Some ages → length ages ≤ i) → (q : ℕ) (ages : List ℕ) → slice_get new q ≡ Some ages → length ages ≤ i + 1
demanded_few old new (Delayed column age) tap i h few q ages found =
    let f : slice_get (set old column (h.0 ++ age ∷ [])) q ≡ Some ages = rw h.2 at found in
    elim (get_set_cases old column q (h.0 ++ age ∷ []) h.0 ages h.1 f) [
      | inl e ↦ (let n : length h.0 ≤ i = few column h.0 h.1 in let m : length (h.0 ++ age ∷ []) ≡ length h.0 + 1 = length_push h.0 age in
          rw (← e.1) (omega arith))
      | inr e ↦ (let n : length ages ≤ i = few q ages e.1 in omega arith)
    ]
demanded_few old new (Constant w) tap i h few q ages found = let n : length ages ≤ i = few q ages (rw h at found) in omega arith

pub demanded_new : (old new : List (List ℕ)) (choice : Choice) (tap : ℕ) → demanded old choice new tap → HasPlace new tap choice
demanded_new old new (Delayed column age) tap h = (h.0 ++ age ∷ [], rw h.2 (get_set_same old column (h.0 ++ age ∷ []) h.0 h.1), rw h.3 (get_pushed h.0 age))
demanded_new old new (Constant w) tap h = tt

pub demanded_old : (old new : List (List ℕ)) (choice : Choice) (tap : ℕ) (other : Choice) (place : ℕ) → demanded old choice new tap → HasPlace old place other
    → HasPlace new place other
demanded_old old new (Delayed column age) tap (Delayed q a) place h p = elim (cases_eq q column) [
  | inl e ↦
      let at : slice_get old column ≡ Some p.0 = rw e at p.1 in
      let there : slice_get old column ≡ Some h.0 = h.1 in
      let same : p.0 ≡ h.0 = cc in
      let found : slice_get h.0 place ≡ Some a = rw same at p.2 in
      (h.0 ++ age ∷ [], rw (h.2, e) (get_set_same old column (h.0 ++ age ∷ []) h.0 h.1), get_left h.0 (age ∷ []) place a found)
  | inr ne ↦ (p.0, rw h.2 (get_set_other old column q (h.0 ++ age ∷ []) ne ∙ p.1), p.2)
]
demanded_old old new (Constant w) tap (Delayed q a) place h p = (p.0, rw h p.1, p.2)
demanded_old old new choice tap (Constant v) place h p = tt

-- ---- one trip more

pub planned_none : (d ins outs : ℕ) (trips : List Trip) (lines : List (List ℕ)) (columns : List (List Step)) → length lines ≡ ins → length columns ≡ outs
    → ((q : ℕ) (ages : List ℕ) → slice_get lines q ≡ Some ages → ages ≡ []) → ((q : ℕ) (steps : List Step) → slice_get columns q ≡ Some steps → steps ≡ [])
    → Planned d ins outs trips 0 lines columns
planned_none d ins outs trips lines columns a b none empty = record {
  ins_all = a;
  outs_all = b;
  made = λ n trip l. absurd (omega arith);
  from = λ q k steps step f g. (let e : steps ≡ [] = empty q steps f in let h : slice_get [] k ≡ Some step = rw e at g in cc);
  taps = λ q k steps step f g. (let e : steps ≡ [] = empty q steps f in let h : slice_get [] k ≡ Some step = rw e at g in
      let i : k < 0 = slice_get_within [] k step h in absurd (omega arith));
  few = λ q ages f. rw (none q ages f) (omega arith);
}

comes_later : (d i : ℕ) (trips : List Trip) (q : ℕ) (step : Step) → ComesFrom d i trips q step → ComesFrom d (i + 1) trips q step
comes_later d i trips q step h =
    record { n = h.n; trip = h.trip; early = (let l : h.n < i = h.early in omega arith); found = h.found; column = h.column; from = h.from; take = h.take }

-- the steps of its column have begun before a trip that is still to come
begun : (d i : ℕ) (trips : List Trip) (q : ℕ) (step : Step) (t : Trip) → AreInOrder trips → ComesFrom d i trips q step → slice_get trips i ≡ Some t
    → t.column ≡ q → step.from < t.clock
begun d i trips q step t order h found on = let l : h.trip.clock < t.clock = order.each h.n i h.trip t h.early h.found found (h.column ∙ sym on) in rw h.from l

-- its column goes on as it was
pub planned_same : (d ins outs : ℕ) (trips : List Trip) (i : ℕ) (lines : List (List ℕ)) (columns : List (List Step)) (t : Trip) (steps : List Step) (k : ℕ)
    (step : Step) → AreInOrder trips → Planned d ins outs trips i lines columns
    → slice_get trips i ≡ Some t → slice_get columns t.column ≡ Some steps → length steps ≡ k + 1 → slice_get steps k ≡ Some step → step.take ≡ choice_of d t
    → Planned d ins outs trips (i + 1) lines columns
planned_same d ins outs trips i lines columns t steps k step order h at there long last takes = record {
  ins_all = h.ins_all;
  outs_all = h.outs_all;
  made = λ n trip l found. elim (cases_eq n i) [
    | inl e ↦
        let f : slice_get trips i ≡ Some trip = rw e at found in
        let same : t ≡ trip = cc in
        let m : step.from < t.clock = begun d i trips t.column step t order (h.from t.column k steps step there last) at refl in
        rw (← same) (record {
          steps = steps;
          there = there;
          some = omega (arith, long);
          chooses = choice_last t.clock k steps step long last (omega arith) ∙
              takes;
        })
    | inr ne ↦ h.made n trip (omega arith) found
  ];
  from = λ q j ss s f g. comes_later d i trips q s (h.from q j ss s f g);
  taps = h.taps;
  few = λ q ages f. (let l : length ages ≤ i = h.few q ages f in omega arith);
}

abbrev pub next_step : (d tap : ℕ) → Trip → Step
next_step d tap t = record { from = t.clock; take = choice_of d t; tap = tap }

-- an earlier trip keeps its choice
made_before : (d i tap : ℕ) (trips : List Trip) (columns : List (List Step)) (t : Trip) (steps : List Step) → AreInOrder trips → slice_get trips i ≡ Some t
    → slice_get columns t.column ≡ Some steps
    → (n : ℕ) (trip : Trip) → n < i → slice_get trips n ≡ Some trip → Made d columns trip → Made d (set columns t.column (steps ++ next_step d tap t ∷ [])) trip
made_before d i tap trips columns t steps order at there n trip l found m = elim (cases_eq trip.column t.column) [
  | inl e ↦
      let f : slice_get columns t.column ≡ Some m.steps = rw e at m.there in
      let same : m.steps ≡ steps = cc in
      let some : 1 ≤ length steps = rw same at m.some in
      let chooses : choice_in trip.clock steps ≡ choice_of d trip = rw same at m.chooses in
      let before : trip.clock < t.clock = order.each n i trip t l found at e in
      record {
        steps = steps ++ next_step d tap t ∷ [];
        there = rw e (get_set_same columns t.column (steps ++ next_step d tap t ∷ []) steps there);
        some = (let z : length (steps ++ next_step d tap t ∷ []) ≡ length steps + 1 = length_push steps (next_step d tap t) in omega arith);
        chooses = choice_old trip.clock steps (next_step d tap t) some before ∙ chooses;
      }
  | inr ne ↦ record {
    steps = m.steps;
    there = get_set_other columns t.column trip.column (steps ++ next_step d tap t ∷ []) ne ∙ m.there;
    some = m.some;
    chooses = m.chooses;
  }
]

-- its column has one step more
pub planned_more : (d ins outs : ℕ) (trips : List Trip) (i : ℕ) (lines more : List (List ℕ)) (columns : List (List Step)) (t : Trip) (steps : List Step)
    (tap : ℕ) → AreInOrder trips → Planned d ins outs trips i lines columns
    → slice_get trips i ≡ Some t → slice_get columns t.column ≡ Some steps → demanded lines (choice_of d t) more tap
    → Planned d ins outs trips (i + 1) more (set columns t.column (steps ++ next_step d tap t ∷ []))
planned_more d ins outs trips i lines more columns t steps tap order h at there asked = record {
  ins_all = demanded_length lines more (choice_of d t) tap asked ∙ h.ins_all;
  outs_all = length-set columns t.column (steps ++ next_step d tap t ∷ []) ∙ h.outs_all;
  made = λ n trip l found. elim (cases_eq n i) [
    | inl e ↦
        let f : slice_get trips i ≡ Some trip = rw e at found in
        let same : t ≡ trip = cc in
        rw (← same) (record {
          steps = steps ++ next_step d tap t ∷ [];
          there = get_set_same columns t.column (steps ++ next_step d tap t ∷ []) steps there;
          some = (let m : length (steps ++ next_step d tap t ∷ []) ≡ length steps + 1 = length_push steps (next_step d tap t) in omega arith);
          chooses = choice_new t.clock steps (next_step d tap t) (omega arith);
        })
    | inr ne ↦ made_before d i tap trips columns t steps order at there n trip (omega arith) found (h.made n trip (omega arith) found)
  ];
  from = λ q j ss s f g. elim (get_set_cases columns t.column q (steps ++ next_step d tap t ∷ []) steps ss there f) [
    | inl e ↦ elim (get_push_cases steps (next_step d tap t) j s (rw (sym e.1) at g)) [
      | inl w ↦ comes_later d i trips q s (h.from q j steps s (rw e.0 there) w.0)
      | inr w ↦ rw (← w.1) (record { n = i; trip = t; early = omega arith; found = at; column = sym e.0; from = refl; take = refl })
    ]
    | inr e ↦ comes_later d i trips q s (h.from q j ss s e.1 g)
  ];
  taps = λ q j ss s f g. elim (get_set_cases columns t.column q (steps ++ next_step d tap t ∷ []) steps ss there f) [
    | inl e ↦ elim (get_push_cases steps (next_step d tap t) j s (rw (sym e.1) at g)) [
      | inl w ↦ demanded_old lines more (choice_of d t) tap s.take s.tap asked (h.taps q j steps s (rw e.0 there) w.0)
      | inr w ↦ rw (← w.1) (demanded_new lines more (choice_of d t) tap asked)
    ]
    | inr e ↦ demanded_old lines more (choice_of d t) tap s.take s.tap asked (h.taps q j ss s e.1 g)
  ];
  few = demanded_few lines more (choice_of d t) tap i asked h.few;
}

pub plan_whole : (d ins outs : ℕ) (trips : List Trip) (i : ℕ) (lines : List (List ℕ)) (columns : List (List Step)) → length trips ≤ i
    → Planned d ins outs trips i lines columns → IsPlan d trips lines columns
plan_whole d ins outs trips i lines columns all h = record {
  chosen = λ n trip steps found there.
      let m : Made d columns trip = h.made n trip (let l : n < length trips = slice_get_within trips n trip found in omega arith) found in
      let f : slice_get columns trip.column ≡ Some m.steps = m.there in
      let same : m.steps ≡ steps = cc in
      rw same at m.chooses;
  some = λ n trip steps found there.
      let m : Made d columns trip = h.made n trip (let l : n < length trips = slice_get_within trips n trip found in omega arith) found in
      let f : slice_get columns trip.column ≡ Some m.steps = m.there in
      let same : m.steps ≡ steps = cc in
      rw same at m.some;
  taps = h.taps;
  from = λ q k steps step f g. (let x = h.from q k steps step f g in (x.n, x.trip, x.found, x.column, x.from, x.take));
}
