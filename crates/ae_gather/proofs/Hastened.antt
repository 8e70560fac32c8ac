-- Trips whose columns are chosen a clock early.
use Rattle.std.proofs.Common.{ℕ, zero, suc, ◌≡◌, ◌+◌, ◌-◌, ◌<◌, ◌≤◌, max, fold, nat_eq, cond, true, false, Bool, List, ◌∷◌, [], map, Some, slice_get, arith, refl, sym, ap, ◌∙◌}
use Rattle.std.proofs.lemmas.List.Sums.{sum_by-le-sum_by}
use Rattle.std.specs.List.{range_with_len}
use Rattle.std.proofs.lemmas.Bool.{eqb-true}
use Rattle.ae_netlist.specs.declared.cell.NetId.{NetId}
use Rattle.ae_netlist.specs.declared.cell.SizedCell.{SizedCell}
use Rattle.ae_sttype.specs.Moves.{ChoiceTree, TripTree, delayed, always, age_from, changes_after, choice_from, choices_of, column_delay, delay_of, runs_of, same_choice, stretches}
use Rattle.ae_moves.specs.declared.trip.Source.{Source}
use Rattle.ae_moves.specs.declared.trip.Source.TheVariants.{Place, Fixed}
use Rattle.ae_moves.specs.declared.trip.Trip.{Trip}
use Rattle.ae_moves.specs.Trees.{source_tree, trip_tree}
use Rattle.ae_moves.proofs.Lists.{get_mapped}
use Rattle.ae_columns.specs.Plans.{AreInOrder, AreUsed, AreWithin, IsIn}
use Rattle.ae_columns.specs.Laws.{AreFitting, FitsColumn}
use Rattle.ae_columns.specs.Early.{AreInTime, hastened, hastened_source, is_early}
use Rattle.ae_gather.proofs.Counting.{same_only, same_self}

-- ---- the same trips otherwise

pub get_unmapped : {X Y : Type 0} (f : X → Y) (xs : List X) (n : ℕ) (y : Y) → slice_get (map f xs) n ≡ Some y → (x : X) × (slice_get xs n ≡ Some x) × (f x ≡ y)
get_unmapped f [] n y h = cc
get_unmapped f (x ∷ xs) zero y h = let same : f x ≡ y = cc in (x, refl, same)
get_unmapped f (x ∷ xs) (suc n) y h = get_unmapped f xs n y h

in_hastened : (ins : ℕ) (early : Bool) (source : Source) → IsIn ins source → IsIn ins (hastened_source early source)
in_hastened ins true (Place k q) h = h
in_hastened ins true (Fixed w) h = h
in_hastened ins false source h = h

pub within_hastened : (period d ins outs : ℕ) (early : List Bool) (trips moved : List Trip) → moved ≡ map (hastened early) trips → AreInTime d early trips
    → AreWithin period d ins outs trips → AreWithin period d ins outs moved
within_hastened period d ins outs early trips moved is time h = rw is (record {
  clock = λ n t f. (let o = get_unmapped (hastened early) trips n t f in rw (← o.2) (h.clock n o.0 o.1));
  column = λ n t f. (let o = get_unmapped (hastened early) trips n t f in rw (← o.2) (h.column n o.0 o.1));
  reached = λ n t f. (let o = get_unmapped (hastened early) trips n t f in rw (← o.2) (time.each n o.0 o.1));
  source = λ n t f. (let o = get_unmapped (hastened early) trips n t f in
      rw (← o.2) (in_hastened ins (is_early early o.0.column) o.0.source (h.source n o.0 o.1)));
})

pub clocks_hastened : (limit : ℕ) (early : List Bool) (trips moved : List Trip) → moved ≡ map (hastened early) trips
    → ((n : ℕ) (trip : Trip) → slice_get trips n ≡ Some trip → trip.clock < limit) → (n : ℕ) (trip : Trip) → slice_get moved n ≡ Some trip → trip.clock < limit
clocks_hastened limit early trips moved is h n t f = (let o = get_unmapped (hastened early) trips n t (rw is at f) in rw (← o.2) (h n o.0 o.1))

pub order_hastened : (early : List Bool) (trips moved : List Trip) → moved ≡ map (hastened early) trips → AreInOrder trips → AreInOrder moved
order_hastened early trips moved is h = rw is (record {
  each = λ m n a b l f g same. (let o = get_unmapped (hastened early) trips m a f in let p = get_unmapped (hastened early) trips n b g in
      let q : o.0.column ≡ p.0.column = ap (λ (t : Trip). t.column) o.2 ∙ same ∙ sym (ap (λ (t : Trip). t.column) p.2) in
      rw (← o.2, ← p.2) (h.each m n o.0 p.0 l o.1 p.1 q));
})

pub used_hastened : (outs : ℕ) (early : List Bool) (trips moved : List Trip) → moved ≡ map (hastened early) trips → AreUsed outs trips → AreUsed outs moved
used_hastened outs early trips moved is h =
    rw is (record { each = λ q l. (let u = h.each q l in (u.0, hastened early u.1, get_mapped (hastened early) trips u.0 u.1 u.2, u.3)) })

fits_hastened : (cells : List SizedCell) (ins : List NetId) (w : ℕ) (early : Bool) (source : Source) → FitsColumn cells ins w source
    → FitsColumn cells ins w (hastened_source early source)
fits_hastened cells ins w true (Place k q) h = h
fits_hastened cells ins w true (Fixed v) h = h
fits_hastened cells ins w false source h = h

pub fitting_hastened : (cells : List SizedCell) (ins : List NetId) (widths : List ℕ) (early : List Bool) (trips moved : List Trip)
    → moved ≡ map (hastened early) trips → AreFitting cells ins widths trips → AreFitting cells ins widths moved
fitting_hastened cells ins widths early trips moved is h = rw is (record {
  low = h.low;
  high = h.high;
  fits = λ n w t f wide. (let o = get_unmapped (hastened early) trips n t f in
      let wide_at = rw (← o.2) at wide in rw (← o.2) (fits_hastened cells ins w (is_early early o.0.column) o.0.source (h.fits n w o.0 o.1 wide_at)));
})

-- ---- no word is kept longer

age_hastened : (d q c : ℕ) (early : Bool) (source : Source) → age_from d q c (source_tree (hastened_source early source)) ≤ age_from d q c (source_tree source)
age_hastened d q c true (Place k p) = by (nat_eq p q)
  where
    by : (b : Bool) → cond b (c + d - (k + 1)) 0 ≤ cond b (c + d - k) 0
    by true = omega arith
    by false = omega arith
age_hastened d q c true (Fixed w) = omega arith
age_hastened d q c false source = omega arith

greatest_hastened : (d q a b : ℕ) (early : List Bool) (trips : List Trip) → a ≤ b
    → fold (λ most (t : TripTree). max most (age_from d q t.clock t.source)) a (map trip_tree (map (hastened early) trips)) ≤ fold
    (λ most (t : TripTree). max most (age_from d q t.clock t.source)) b (map trip_tree trips)
greatest_hastened d q a b early [] l = l
greatest_hastened d q a b early (t ∷ trips) l =
    let here : age_from d q t.clock (source_tree (hastened_source (is_early early t.column) t.source)) ≤ age_from d q t.clock
    (source_tree t.source) = age_hastened d q t.clock (is_early early t.column) t.source in
    greatest_hastened d q (max a (age_from d q t.clock (source_tree (hastened_source (is_early early t.column) t.source))))
    (max b (age_from d q t.clock (source_tree t.source))) early trips (omega arith)

pub column_hastened : (d q : ℕ) (early : List Bool) (trips : List Trip)
    → column_delay d q (map trip_tree (map (hastened early) trips)) ≤ column_delay d q (map trip_tree trips)
column_hastened d q early trips = greatest_hastened d q 0 0 early trips (omega arith)

pub delay_hastened : (d ins : ℕ) (early : List Bool) (trips : List Trip)
    → delay_of d ins (map trip_tree (map (hastened early) trips)) ≤ delay_of d ins (map trip_tree trips)
delay_hastened d ins early trips =
    sum_by-le-sum_by (λ q. column_delay d q (map trip_tree (map (hastened early) trips))) (λ q. column_delay d q (map trip_tree trips)) (range_with_len 0 ins)
    (λ q. column_hastened d q early trips)

-- ---- no column has more runs

abbrev sooner_choice : Bool → ChoiceTree → ChoiceTree
sooner_choice true (delayed q a) = delayed q (a - 1)
sooner_choice true (always w) = always w
sooner_choice false choice = choice

choice_hastened : (d c : ℕ) (early : Bool) (source : Source)
    → choice_from d c (source_tree (hastened_source early source)) ≡ sooner_choice early (choice_from d c (source_tree source))
choice_hastened d c true (Place k q) = let e : c + d - (k + 1) ≡ c + d - k - 1 = omega arith in ap (delayed q) e
choice_hastened d c true (Fixed w) = refl
choice_hastened d c false source = refl

choices_hastened : (d q : ℕ) (early : List Bool) (trips : List Trip)
    → choices_of d q (map trip_tree (map (hastened early) trips)) ≡ map (sooner_choice (is_early early q)) (choices_of d q (map trip_tree trips))
choices_hastened d q early [] = refl
choices_hastened d q early (t ∷ trips) = by (nat_eq t.column q) (choices_hastened d q early trips) refl
  where
    by : (b : Bool) → choices_of d q (map trip_tree (map (hastened early) trips)) ≡ map (sooner_choice (is_early early q))
        (choices_of d q (map trip_tree trips)) → nat_eq t.column q ≡ b
        → choices_of d q (map trip_tree (map (hastened early) (t ∷ trips))) ≡ map (sooner_choice (is_early early q))
        (choices_of d q (map trip_tree (t ∷ trips)))
    by true rest on =
        let same : t.column ≡ q = eqb-true t.column q on in
        let here : choice_from d t.clock (source_tree (hastened_source (is_early early t.column) t.source)) ≡ sooner_choice (is_early early q)
        (choice_from d t.clock (source_tree t.source)) =
        choice_hastened d t.clock (is_early early t.column) t.source ∙
        ap (λ p. sooner_choice (is_early early p) (choice_from d t.clock (source_tree t.source))) same in
        rw on (rw (here, rest) refl)
    by false rest off = rw off rest

changes_mapped : (f : ChoiceTree → ChoiceTree) (x : ChoiceTree) (xs : List ChoiceTree)
    → changes_after same_choice (f x) (map f xs) ≤ changes_after same_choice x xs
changes_mapped f x [] = omega arith
changes_mapped f x (y ∷ xs) = by (same_choice x y) (changes_mapped f y xs) refl
  where
    least : (b : Bool) → cond b 0 1 ≤ 1
    least true = omega arith
    least false = omega arith

    by : (b : Bool) → changes_after same_choice (f y) (map f xs) ≤ changes_after same_choice y xs → same_choice x y ≡ b
        → changes_after same_choice (f y) (map f xs) + cond (same_choice (f x) (f y)) 0 1 ≤ changes_after same_choice y xs + cond (same_choice x y) 0 1
    by true rest on =
        let e : x ≡ y = same_only x y on in
        let t : same_choice (f x) (f y) ≡ true = rw e (same_self (f y)) in
        rw (t, on) (omega (arith, rest))
    by false rest off = rw off (omega (arith, rest, least (same_choice (f x) (f y))))

pub stretches_mapped : (f : ChoiceTree → ChoiceTree) (xs : List ChoiceTree) → stretches same_choice (map f xs) ≤ stretches same_choice xs
stretches_mapped f [] = omega arith
stretches_mapped f (x ∷ xs) = omega (arith, changes_mapped f x xs)

pub runs_hastened : (d outs : ℕ) (early : List Bool) (trips : List Trip)
    → runs_of d outs (map trip_tree (map (hastened early) trips)) ≤ runs_of d outs (map trip_tree trips)
runs_hastened d outs early trips =
    sum_by-le-sum_by (λ q. stretches same_choice (choices_of d q (map trip_tree (map (hastened early) trips))))
    (λ q. stretches same_choice (choices_of d q (map trip_tree trips))) (range_with_len 0 outs)
    (λ q. rw (choices_hastened d q early trips) (stretches_mapped (sooner_choice (is_early early q)) (choices_of d q (map trip_tree trips))))
