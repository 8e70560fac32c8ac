-- The greatest ages so far, one trip on.
use Rattle.std.proofs.Common.{◌≡◌, ℕ, ◌+◌, ◌-◌, ◌<◌, ◌≤◌, List, length, take, get_or, replicate, sum, sum_by, set, max, refl, ap, sym, ◌∙◌, arith, inl, inr}
use Rattle.std.proofs.lemmas.List.{get_or-set_same, get_or-set_other, length-set, length-replicate, get_or-replicate, get_or_read, get_or_default, take_all}
use Rattle.std.proofs.lemmas.List.FromFn.{fill_by_all}
use Rattle.std.specs.List.{range_with_len}
use Rattle.std.proofs.lemmas.List.Sums.{fold_more, sum-map}
use Rattle.std.proofs.lemmas.Bool.{cases_eq, eq-eqb, ne_eqb}
use Rattle.ae_sttype.specs.Moves.{TripTree, SourceTree, place, constant, greatest, age_from, delay_of, IsReached}
use Rattle.ae_moves.specs.Trips.{AreAges, deepened}

pub greatest_more : {X : Type 0} (f : X → ℕ) (xs : List X) (i : ℕ) (d : X) → i < length xs →
    greatest f (take (i + 1) xs) ≡ max (greatest f (take i xs)) (f (get_or xs i d))
greatest_more f xs i d h = fold_more (λ most x. max most (f x)) 0 xs i d h

-- ns has for each column the greatest age of the first i trips
pub record KeepsAges (d columns : ℕ) (trips : List TripTree) (i : ℕ) (ns : List ℕ) : Type 0 where
  pub long : length ns ≡ columns
  pub ages : (q : ℕ) → q < columns → get_or ns q 0 ≡ greatest (λ (t : TripTree). age_from d q t.clock t.source) (take i trips)

age_same : (d q c k : ℕ) → age_from d q c (place k q) ≡ c + d - k
age_same d q c k = rw (eq-eqb q q refl) refl

age_other : (d q c k from : ℕ) → (from ≡ q → ⊥) → age_from d q c (place k from) ≡ 0
age_other d q c k from h = rw (ne_eqb from q h) refl

-- one trip more, at a column
ages_more : (d columns : ℕ) (trips : List TripTree) (i : ℕ) (ns : List ℕ) (t : TripTree) (q : ℕ) →
    KeepsAges d columns trips i ns → i < length trips → t ≡ get_or trips i t → q < columns →
    greatest (λ x. age_from d q x.clock x.source) (take (i + 1) trips) ≡ max (get_or ns q 0) (age_from d q t.clock t.source)
ages_more d columns trips i ns t q keeps h is low =
    greatest_more (λ (x : TripTree). age_from d q x.clock x.source) trips i t h
    ∙ ap (λ y. max y (age_from d q (get_or trips i t).clock (get_or trips i t).source)) (sym (keeps.ages q low))
    ∙ ap (λ (x : TripTree). max (get_or ns q 0) (age_from d q x.clock x.source)) (sym is)

pub ages_word : (d columns : ℕ) (trips : List TripTree) (i : ℕ) (ns : List ℕ) (t : TripTree) (k column kept : ℕ) →
    KeepsAges d columns trips i ns → i < length trips → t ≡ get_or trips i t → t.source ≡ place k column → column < columns →
    kept ≡ get_or ns column kept → KeepsAges d columns trips (i + 1) (set ns column (max kept (t.clock + d - k)))
ages_word d columns trips i ns t k column kept keeps h is from p read = record {
  long = length-set ns column _ ∙ keeps.long;
  ages = λ q low.
      let in' : column < length ns = omega (arith, keeps.long) in
      let more = ages_more d columns trips i ns t q keeps h is low in
      let at_t : age_from d q t.clock t.source ≡ age_from d q t.clock (place k column) = ap (age_from d q t.clock) from in
      elim (cases_eq q column) [
        | inl e ↦
            ap (λ x. get_or (set ns column (max kept (t.clock + d - k))) x 0) e
            ∙ get_or-set_same ns column (max kept (t.clock + d - k)) 0 in'
            ∙ ap (λ x. max x (t.clock + d - k)) (get_or_read ns column kept in' read 0)
            ∙ ap (λ x. max (get_or ns x 0) (t.clock + d - k)) (sym e)
            ∙ ap (λ x. max (get_or ns q 0) x) (sym (at_t ∙ ap (λ x. age_from d x t.clock (place k column)) e ∙ age_same d column t.clock k))
            ∙ sym more
        | inr ne ↦
            get_or-set_other ns column q (max kept (t.clock + d - k)) 0 ne
            ∙ omega (arith, more, at_t ∙ age_other d q t.clock k column (λ e. ne (sym e)))
      ];
}

pub ages_fixed : (d columns : ℕ) (trips : List TripTree) (i : ℕ) (ns : List ℕ) (t : TripTree) (w : ℕ) →
    KeepsAges d columns trips i ns → i < length trips → t ≡ get_or trips i t → t.source ≡ constant w → KeepsAges d columns trips (i + 1) ns
ages_fixed d columns trips i ns t w keeps h is from = record {
  long = keeps.long;
  ages = λ q low. omega (arith, ages_more d columns trips i ns t q keeps h is low, ap (age_from d q t.clock) from);
}

-- before the first trip every age is 0
pub ages_none : (d columns : ℕ) (trips : List TripTree) → KeepsAges d columns trips 0 (replicate columns 0)
ages_none d columns trips = record {
  long = length-replicate columns 0;
  ages = λ q low. get_or-replicate columns q 0 0 low;
}

-- a list that has f of each index sums to the sum of f
pub sum_from_each : (f : ℕ → ℕ) (ns : List ℕ) (n : ℕ) → length ns ≡ n → ((q : ℕ) → q < n → get_or ns q 0 ≡ f q) → sum ns ≡ sum_by f (range_with_len 0 n)
sum_from_each f ns n long each =
    ap sum (fill_by_all f ns n 0 long each) ∙ sum-map f (range_with_len 0 n)

pub ages_all : (d columns : ℕ) (trips : List TripTree) (i : ℕ) (ns : List ℕ) → KeepsAges d columns trips i ns → length trips ≤ i → AreAges d columns trips ns
ages_all d columns trips i ns keeps end = record {
  long = keeps.long;
  each = λ q low. keeps.ages q low ∙ ap (greatest (λ (t : TripTree). age_from d q t.clock t.source)) (take_all i trips end);
}

pub delay_from_ages : (d columns : ℕ) (trips : List TripTree) (ns : List ℕ) → AreAges d columns trips ns → sum ns ≡ delay_of d columns trips
delay_from_ages d columns trips ns ages = sum_from_each _ ns columns ages.long ages.each

-- one trip more
ages_by : (d columns : ℕ) (trips : List TripTree) (i : ℕ) (ns : List ℕ) (t : TripTree) (s : SourceTree) → t.source ≡ s → KeepsAges d columns trips i ns
    → i < length trips → t ≡ get_or trips i t →
    IsReached d columns t.clock s → KeepsAges d columns trips (i + 1) (deepened d ns t.clock s)
ages_by d columns trips i ns t (place k q) from keeps h is within =
    let low : q < length ns = omega (arith, keeps.long, within.0) in
    ages_word d columns trips i ns t k q (get_or ns q 0) keeps h is from within.0 (get_or_default ns q 0 (get_or ns q 0) low)
ages_by d columns trips i ns t (constant w) from keeps h is within = ages_fixed d columns trips i ns t w keeps h is from

pub ages_step : (d columns : ℕ) (trips : List TripTree) (i : ℕ) (ns : List ℕ) (t : TripTree) → KeepsAges d columns trips i ns → i < length trips
    → t ≡ get_or trips i t →
    IsReached d columns t.clock t.source → KeepsAges d columns trips (i + 1) (deepened d ns t.clock t.source)
ages_step d columns trips i ns t keeps h is within = ages_by d columns trips i ns t t.source refl keeps h is within
