-- The runs so far, one trip on.
use Rattle.std.proofs.Common.{◌≡◌, ℕ, ◌+◌, ◌<◌, ◌≤◌, List, ◌∷◌, [], ◌++◌, length, take, get_or, set, sum, refl, ap, sym, ◌∙◌, arith, inl, inr, map, filter, Option, Some, None, Bool, true, false, cond, nat_eq}
use Rattle.std.proofs.lemmas.List.{get_or-set_same, get_or-set_other, length-set, get_or_read, take_all, map-append, append-nil}
use Rattle.std.proofs.lemmas.List.Elements.{filter_more}
use Rattle.std.proofs.lemmas.Bool.{cases_eq, eq-eqb, ne_eqb}
use Rattle.std.specs.Option.{option_map}
use Rattle.ae_sttype.specs.Moves.{TripTree, ChoiceTree, choices_of, choice_from, stretches, changes_after, same_choice, runs_of}
use Rattle.ae_moves.specs.declared.trip.Choice.{Choice}
use Rattle.ae_moves.specs.Trees.{choice_tree}
use Rattle.ae_moves.specs.Trips.{continues}
use Rattle.ae_moves.proofs.Ages.{sum_from_each}

unfoldable pub last_after : ChoiceTree → List ChoiceTree → ChoiceTree
last_after x [] = x
last_after x (y ∷ ys) = last_after y ys

abbrev pub last_choice : List ChoiceTree → Option ChoiceTree
last_choice [] = None
last_choice (x ∷ xs) = Some (last_after x xs)

pub changes_push : (x : ChoiceTree) (ys : List ChoiceTree) (z : ChoiceTree)
    → changes_after same_choice x (ys ++ z ∷ []) ≡ changes_after same_choice x ys + cond (same_choice (last_after x ys) z) 0 1
unfolding last_after
changes_push x [] z = refl
changes_push x (y ∷ ys) z = omega (arith, changes_push y ys z)

runs_push : (xs : List ChoiceTree) (z : ChoiceTree) → stretches same_choice (xs ++ z ∷ []) ≡ stretches same_choice xs + cond (continues (last_choice xs) z) 0 1
runs_push [] z = refl
runs_push (x ∷ xs) z = omega (arith, changes_push x xs z)

pub last_after_push : (x : ChoiceTree) (ys : List ChoiceTree) (z : ChoiceTree) → last_after x (ys ++ z ∷ []) ≡ z
unfolding last_after
last_after_push x [] z = refl
last_after_push x (y ∷ ys) z = last_after_push y ys z

last_push : (xs : List ChoiceTree) (z : ChoiceTree) → last_choice (xs ++ z ∷ []) ≡ Some z
unfolding last_after
last_push [] z = refl
last_push (x ∷ xs) z = ap Some (last_after_push x xs z)

choices_same : (d q : ℕ) (trips : List TripTree) (i : ℕ) (t : TripTree) → i < length trips → t ≡ get_or trips i t → t.column ≡ q →
    choices_of d q (take (i + 1) trips) ≡ choices_of d q (take i trips) ++ choice_from d t.clock t.source ∷ []
choices_same d q trips i t h is on =
    let pass : nat_eq (get_or trips i t).column q ≡ true = ap (λ (x : TripTree). nat_eq x.column q) (sym is) ∙ eq-eqb t.column q on in
    ap (map (λ (x : TripTree). choice_from d x.clock x.source))
    (filter_more (λ (x : TripTree). nat_eq x.column q) trips i t h
    ∙ ap (λ b. filter (λ (x : TripTree). nat_eq x.column q) (take i trips) ++ cond b (get_or trips i t ∷ []) []) pass)
    ∙ map-append (λ (x : TripTree). choice_from d x.clock x.source) (filter (λ (x : TripTree). nat_eq x.column q) (take i trips)) (get_or trips i t ∷ [])
    ∙ ap (λ (x : TripTree). choices_of d q (take i trips) ++ choice_from d x.clock x.source ∷ []) (sym is)

choices_other : (d q : ℕ) (trips : List TripTree) (i : ℕ) (t : TripTree) → i < length trips → t ≡ get_or trips i t → (t.column ≡ q → ⊥) →
    choices_of d q (take (i + 1) trips) ≡ choices_of d q (take i trips)
choices_other d q trips i t h is off =
    let pass : nat_eq (get_or trips i t).column q ≡ false = ap (λ (x : TripTree). nat_eq x.column q) (sym is) ∙ ne_eqb t.column q off in
    ap (map (λ (x : TripTree). choice_from d x.clock x.source))
    (filter_more (λ (x : TripTree). nat_eq x.column q) trips i t h
    ∙ ap (λ b. filter (λ (x : TripTree). nat_eq x.column q) (take i trips) ++ cond b (get_or trips i t ∷ []) []) pass
    ∙ append-nil (filter (λ (x : TripTree). nat_eq x.column q) (take i trips)))

-- each column's last choice and number of runs, after the first i trips
pub record KeepsRuns (d columns : ℕ) (trips : List TripTree) (i : ℕ) (last : List (Option Choice)) (counts : List ℕ) : Type 0 where
  pub long_last : length last ≡ columns
  pub long : length counts ≡ columns
  pub lasts : (q : ℕ) → q < columns → option_map choice_tree (get_or last q None) ≡ last_choice (choices_of d q (take i trips))
  pub runs : (q : ℕ) → q < columns → get_or counts q 0 ≡ stretches same_choice (choices_of d q (take i trips))
  pub few : (q : ℕ) → q < columns → get_or counts q 0 ≤ i

one_more : (b : Bool) (n : ℕ) → n + cond b 0 1 ≤ n + 1
one_more true n = omega arith
one_more false n = omega arith

pub runs_step : (d columns : ℕ) (trips : List TripTree) (i : ℕ) (last : List (Option Choice)) (counts : List ℕ) (t : TripTree) (before : Option Choice)
    (had : ℕ) (new : Choice) →
    KeepsRuns d columns trips i last counts → i < length trips → t ≡ get_or trips i t → t.column < columns →
    choice_tree new ≡ choice_from d t.clock t.source → before ≡ get_or last t.column before → had ≡ get_or counts t.column had →
    KeepsRuns d columns trips (i + 1) (set last t.column (Some new))
    (set counts t.column (had + cond (continues (option_map choice_tree before) (choice_tree new)) 0 1))
runs_step d columns trips i last counts t before had new keeps h is p made read_last read_count =
    let in_last : t.column < length last = omega (arith, keeps.long_last) in
    let in_counts : t.column < length counts = omega (arith, keeps.long) in
    let same = choices_same d t.column trips i t h is refl in
    let was_last : option_map choice_tree before ≡ last_choice (choices_of d t.column (take i trips)) = ap (option_map choice_tree)
    (get_or_read last t.column before in_last read_last None) ∙ keeps.lasts t.column p in
    let was_count : had ≡ get_or counts t.column 0 = get_or_read counts t.column had in_counts read_count 0 in
    record {
      long_last = length-set last t.column (Some new) ∙ keeps.long_last;
      long = length-set counts t.column _ ∙ keeps.long;
      lasts = λ q low. elim (cases_eq q t.column) [
        | inl e ↦ rw e (ap (option_map choice_tree) (get_or-set_same last t.column (Some new) None in_last)
            ∙ ap Some made ∙ sym (ap last_choice same ∙ last_push (choices_of d t.column (take i trips)) (choice_from d t.clock t.source)))
        | inr ne ↦ ap (option_map choice_tree) (get_or-set_other last t.column q (Some new) None ne) ∙ keeps.lasts q low
            ∙ ap last_choice (sym (choices_other d q trips i t h is (λ e. ne (sym e))))
      ];
      runs = λ q low. elim (cases_eq q t.column) [
        | inl e ↦ rw e (get_or-set_same counts t.column (had + cond (continues (option_map choice_tree before) (choice_tree new)) 0 1) 0 in_counts
            ∙ ap (λ x. x + cond (continues (option_map choice_tree before) (choice_tree new)) 0 1) (was_count ∙ keeps.runs t.column p)
            ∙ ap (λ x. stretches same_choice (choices_of d t.column (take i trips)) + cond (continues x (choice_tree new)) 0 1) was_last
            ∙ ap (λ x. stretches same_choice (choices_of d t.column (take i trips)) + cond
            (continues (last_choice (choices_of d t.column (take i trips))) x) 0 1) made
            ∙ sym (ap (stretches same_choice) same ∙ runs_push (choices_of d t.column (take i trips)) (choice_from d t.clock t.source)))
        | inr ne ↦ get_or-set_other counts t.column q _ 0 ne ∙ keeps.runs q low
            ∙ ap (stretches same_choice) (sym (choices_other d q trips i t h is (λ e. ne (sym e))))
      ];
      few = λ q low. elim (cases_eq q t.column) [
        | inl e ↦ rw (e, get_or-set_same counts t.column (had + cond (continues (option_map choice_tree before) (choice_tree new)) 0 1) 0 in_counts)
            (omega (arith, one_more (continues (option_map choice_tree before) (choice_tree new)) had, was_count, keeps.few t.column p))
        | inr ne ↦ rw (get_or-set_other counts t.column q (had + cond (continues (option_map choice_tree before) (choice_tree new)) 0 1) 0 ne)
            (omega (arith, keeps.few q low))
      ];
    }

-- the same with a name for the new count
pub runs_put : (d columns : ℕ) (trips : List TripTree) (i : ℕ) (last : List (Option Choice)) (counts : List ℕ) (t : TripTree) (before : Option Choice)
    (had : ℕ) (new : Choice) (now : ℕ) →
    KeepsRuns d columns trips i last counts → i < length trips → t ≡ get_or trips i t → t.column < columns →
    choice_tree new ≡ choice_from d t.clock t.source → before ≡ get_or last t.column before → had ≡ get_or counts t.column had
    → now ≡ had + cond (continues (option_map choice_tree before) (choice_tree new)) 0 1 →
    KeepsRuns d columns trips (i + 1) (set last t.column (Some new)) (set counts t.column now)
runs_put d columns trips i last counts t before had new now keeps h is p made read_last read_count e =
    rw e (runs_step d columns trips i last counts t before had new keeps h is p made read_last read_count)

pub runs_all : (d columns : ℕ) (trips : List TripTree) (i : ℕ) (last : List (Option Choice)) (counts : List ℕ) →
    KeepsRuns d columns trips i last counts → length trips ≤ i → sum counts ≡ runs_of d columns trips
runs_all d columns trips i last counts keeps end =
    sum_from_each _ counts columns keeps.long (λ q low. keeps.runs q low ∙ ap (λ ts. stretches same_choice (choices_of d q ts)) (take_all i trips end))
