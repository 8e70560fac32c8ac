-- How the columns are used so far, one trip on.
use Rattle.std.proofs.Common.{◌≡◌, ℕ, ◌+◌, ◌-◌, ◌*◌, ◌<◌, ◌≤◌, List, ◌∷◌, [], ◌++◌, length, take, get_or, set, refl, ap, sym, ◌∙◌, arith, inl, inr, slice_get, filter, Option, Some, None, Bool, true, false, cond, nat_eq, nat_lt, nat_le, ◌&&◌, not, zero, suc, sum_by}
use Rattle.std.specs.List.{list_all, range_with_len}
use Rattle.std.proofs.lemmas.List.{get_or-set_same, get_or-set_other, length-set, get_or_read, get_or_default, take_all, append-nil}
use Rattle.std.proofs.lemmas.List.Elements.{filter_more}
use Rattle.std.proofs.lemmas.List.Sums.{sum_by_push}
use Rattle.std.proofs.lemmas.List.Folds.{list_all-append}
use Rattle.std.proofs.lemmas.Bool.{cases_eq, cases_lt, eq-eqb, eqb-true, leb-true, ne_eqb}
use Rattle.ae_sttype.specs.Moves.{TripTree, SourceTree, place, constant, is_in_column, is_held, is_used, source_clock, uses_of, are_held, column_delay, IsReached}
use Rattle.ae_moves.specs.declared.mems.Usage.{Usage}
use Rattle.ae_moves.specs.Rings.{rings, column_mems, first_clock, held_clock, registers_of}
use Rattle.ae_moves.specs.Usages.{AreUsages, held_from, usage_mems, usage_of, usage_registers, use_from, used}

and_true : (b : Bool) → (b && true) ≡ b
and_true true = refl
and_true false = refl

abbrev taken_by : (period d clock : ℕ) → TripTree → Bool
taken_by p d k t = nat_eq (source_clock t.source) k && nat_le (t.clock + d - source_clock t.source) p

first_use : (p d : ℕ) (t : TripTree) → usage_of p d (t ∷ []) ≡ Some (used None (source_clock t.source) (t.clock + d - source_clock t.source) p)
first_use p d t =
    let same : nat_eq (source_clock t.source) (source_clock t.source) ≡ true = eq-eqb (source_clock t.source) (source_clock t.source) refl in
    let all : are_held p d (t ∷ []) ≡ nat_le (t.clock + d - source_clock t.source) p = and_true _ ∙
    ap (λ b. b && nat_le (t.clock + d - source_clock t.source) p) same in
    ap (λ (b : Bool). let u : Usage = record { clock = source_clock t.source; held = b } in Some u) all

more_use : (p d : ℕ) (x : TripTree) (xs : List TripTree) (t : TripTree)
    → are_held p d ((x ∷ xs) ++ t ∷ []) ≡ (are_held p d (x ∷ xs) && taken_by p d (source_clock x.source) t)
more_use p d x xs t =
    list_all-append (taken_by p d (source_clock x.source)) (x ∷ xs) (t ∷ []) ∙
    ap (λ b. are_held p d (x ∷ xs) && b) (and_true (taken_by p d (source_clock x.source) t))

-- one use more
pub usage_push : (p d : ℕ) (ts : List TripTree) (t : TripTree)
    → usage_of p d (ts ++ t ∷ []) ≡ Some (used (usage_of p d ts) (source_clock t.source) (t.clock + d - source_clock t.source) p)
usage_push p d [] t = first_use p d t
usage_push p d (x ∷ xs) t = ap (λ (b : Bool). let u : Usage = record { clock = source_clock x.source; held = b } in Some u) (more_use p d x xs t)

-- ---- the uses of a column, one trip on

uses_same : (q : ℕ) (trips : List TripTree) (i : ℕ) (t : TripTree) → i < length trips → t ≡ get_or trips i t → is_in_column q t.source ≡ true
    → uses_of q (take (i + 1) trips) ≡ uses_of q (take i trips) ++ t ∷ []
uses_same q trips i t h is on =
    let pass : is_in_column q (get_or trips i t).source ≡ true = ap (λ (x : TripTree). is_in_column q x.source) (sym is) ∙ on in
    filter_more (λ (x : TripTree). is_in_column q x.source) trips i t h
    ∙ ap (λ b. filter (λ (x : TripTree). is_in_column q x.source) (take i trips) ++ cond b (get_or trips i t ∷ []) []) pass
    ∙ ap (λ (x : TripTree). uses_of q (take i trips) ++ x ∷ []) (sym is)

uses_other : (q : ℕ) (trips : List TripTree) (i : ℕ) (t : TripTree) → i < length trips → t ≡ get_or trips i t → is_in_column q t.source ≡ false
    → uses_of q (take (i + 1) trips) ≡ uses_of q (take i trips)
uses_other q trips i t h is off =
    let pass : is_in_column q (get_or trips i t).source ≡ false = ap (λ (x : TripTree). is_in_column q x.source) (sym is) ∙ off in
    filter_more (λ (x : TripTree). is_in_column q x.source) trips i t h
    ∙ ap (λ b. filter (λ (x : TripTree). is_in_column q x.source) (take i trips) ++ cond b (get_or trips i t ∷ []) []) pass
    ∙ append-nil (filter (λ (x : TripTree). is_in_column q x.source) (take i trips))

in_place : (q k p : ℕ) (s : SourceTree) → s ≡ place k p → is_in_column q s ≡ nat_eq p q
in_place q k p s e = ap (is_in_column q) e

not_in : (q w : ℕ) (s : SourceTree) → s ≡ constant w → is_in_column q s ≡ false
not_in q w s e = ap (is_in_column q) e

-- after the first i trips
pub usages_word : (period d columns : ℕ) (trips : List TripTree) (i : ℕ) (us : List (Option Usage)) (t : TripTree) (k column : ℕ) (before : Option Usage) →
    AreUsages period d columns (take i trips) us → i < length trips → t ≡ get_or trips i t → t.source ≡ place k column → column < columns
    → before ≡ get_or us column before →
    AreUsages period d columns (take (i + 1) trips) (set us column (Some (used before k (t.clock + d - k) period)))
usages_word period d columns trips i us t k column before keeps h is from low read =
    let in' : column < length us = omega (arith, keeps.long) in
    let now : Option Usage = Some (used before k (t.clock + d - k) period) in
    let clock : source_clock t.source ≡ k = ap source_clock from in
    let was : before ≡ usage_of period d (uses_of column (take i trips)) = get_or_read us column before in' read None ∙ keeps.each column low in
    let own : usage_of period d (uses_of column (take (i + 1) trips)) ≡ now =
    ap (usage_of period d) (uses_same column trips i t h is (in_place column k column t.source from ∙ eq-eqb column column refl))
    ∙ usage_push period d (uses_of column (take i trips)) t
    ∙ ap (λ (c : ℕ). let u : Option Usage = Some (used (usage_of period d (uses_of column (take i trips))) c (t.clock + d - c) period) in u) clock
    ∙ ap (λ (b : Option Usage). let u : Option Usage = Some (used b k (t.clock + d - k) period) in u) (sym was) in
    record {
      long = length-set us column now ∙ keeps.long;
      each = λ q small. elim (cases_eq q column) [
        | inl e ↦ rw e (get_or-set_same us column now None in' ∙ sym own)
        | inr ne ↦
            get_or-set_other us column q now None ne ∙ keeps.each q small
            ∙ ap (usage_of period d) (sym (uses_other q trips i t h is (in_place q k column t.source from ∙ ne_eqb column q (λ e. ne (sym e)))))
      ];
    }

pub usages_fixed : (period d columns : ℕ) (trips : List TripTree) (i : ℕ) (us : List (Option Usage)) (t : TripTree) (w : ℕ) →
    AreUsages period d columns (take i trips) us → i < length trips → t ≡ get_or trips i t → t.source ≡ constant w
    → AreUsages period d columns (take (i + 1) trips) us
usages_fixed period d columns trips i us t w keeps h is from = record {
  long = keeps.long;
  each = λ q small. keeps.each q small ∙ ap (usage_of period d) (sym (uses_other q trips i t h is (not_in q w t.source from)));
}

usages_by : (period d columns : ℕ) (trips : List TripTree) (i : ℕ) (us : List (Option Usage)) (t : TripTree) (s : SourceTree) → t.source ≡ s →
    AreUsages period d columns (take i trips) us → i < length trips → t ≡ get_or trips i t → IsReached d columns t.clock s
    → AreUsages period d columns (take (i + 1) trips) (use_from d period us t.clock s)
usages_by period d columns trips i us t (place k q) from keeps h is within =
    let low : q < length us = omega (arith, keeps.long, within.0) in
    usages_word period d columns trips i us t k q (get_or us q None) keeps h is from within.0 (get_or_default us q None (get_or us q None) low)
usages_by period d columns trips i us t (constant w) from keeps h is within = usages_fixed period d columns trips i us t w keeps h is from

pub usages_step : (period d columns : ℕ) (trips : List TripTree) (i : ℕ) (us : List (Option Usage)) (t : TripTree)
    → AreUsages period d columns (take i trips) us → i < length trips → t ≡ get_or trips i t →
    IsReached d columns t.clock t.source → AreUsages period d columns (take (i + 1) trips) (use_from d period us t.clock t.source)
usages_step period d columns trips i us t keeps h is within = usages_by period d columns trips i us t t.source refl keeps h is within

pub usages_all : (period d columns : ℕ) (trips : List TripTree) (i : ℕ) (us : List (Option Usage)) → AreUsages period d columns (take i trips) us
    → length trips ≤ i → AreUsages period d columns trips us
usages_all period d columns trips i us keeps end = rw take_all at keeps

-- ---- the memories of a column

mems_used : (period d q : ℕ) (trips uses : List TripTree) (u : Option Usage) (age : ℕ) → uses_of q trips ≡ uses → u ≡ usage_of period d uses
    → age ≡ column_delay d q trips → usage_mems u age ≡ column_mems period d q trips
mems_used period d q trips [] u age own is ages = rw (is, own, ages) refl
mems_used period d q trips (x ∷ xs) u age own is ages = rw (is, own, ages) refl

pub mems_is : (period d q : ℕ) (trips : List TripTree) (u : Option Usage) (age : ℕ) → u ≡ usage_of period d (uses_of q trips) → age ≡ column_delay d q trips
    → usage_mems u age ≡ column_mems period d q trips
mems_is period d q trips u age is ages = mems_used period d q trips (uses_of q trips) u age refl is ages

-- the clock of a held column
clock_used : (period d age : ℕ) (uses : List TripTree)
    → held_from (usage_of period d uses) age ≡ cond (are_held period d uses && nat_lt 1 age) (Some (first_clock uses)) None
clock_used period d age [] = refl
clock_used period d age (x ∷ xs) = refl

pub clock_is : (period d q age : ℕ) (trips : List TripTree) (u : Option Usage) → u ≡ usage_of period d (uses_of q trips) → age ≡ column_delay d q trips
    → held_from u age ≡ held_clock period d q trips
clock_is period d q age trips u is ages =
    ap (λ v. held_from v age) is ∙ ap (held_from (usage_of period d (uses_of q trips))) ages ∙ clock_used period d (column_delay d q trips) (uses_of q trips)

pub push_before : {X : Type 0} (xs : List (Option X)) (x : Option X) (p : ℕ) → p < length xs → get_or (xs ++ x ∷ []) p None ≡ get_or xs p None
push_before [] x p l = absurd (omega arith)
push_before (y ∷ xs) x zero l = refl
push_before (y ∷ xs) x (suc p) l = push_before xs x p (omega arith)

pub push_last : {X : Type 0} (xs : List (Option X)) (x : Option X) (p : ℕ) → length xs ≡ p → get_or (xs ++ x ∷ []) p None ≡ x
push_last [] x zero e = refl
push_last [] x (suc p) e = absurd (omega arith)
push_last (y ∷ xs) x zero e = absurd (omega arith)
push_last (y ∷ xs) x (suc p) e = push_last xs x p (omega arith)

-- ---- all uses of a held column

pub both : (a b : Bool) → (a && b) ≡ true → (a ≡ true) × (b ≡ true)
both true b h = (refl, h)
both false b h = cc

each_use : (pass : TripTree → Bool) (q : ℕ) (trips : List TripTree) → list_all pass (uses_of q trips) ≡ true → (n : ℕ) (t : TripTree)
    → slice_get trips n ≡ Some t → is_in_column q t.source ≡ true → pass t ≡ true
each_use pass q [] h n t f on = cc
each_use pass q (x ∷ trips) h n t f on = by (is_in_column q x.source) refl n f (λ all m g. each_use pass q trips all m t g on)
  where
    by : (b : Bool) → is_in_column q x.source ≡ b → (m : ℕ) → slice_get (x ∷ trips) m ≡ Some t
        → (list_all pass (uses_of q trips) ≡ true → (i : ℕ) → slice_get trips i ≡ Some t → pass t ≡ true) → pass t ≡ true
    by true e zero g rest = let same : x ≡ t = cc in let all : (pass x && list_all pass (uses_of q trips)) ≡ true = rw e at h in
        rw (← same) (both (pass x) _ all).0
    by true e (suc m) g rest = let all : (pass x && list_all pass (uses_of q trips)) ≡ true = rw e at h in rest (both (pass x) _ all).1 m g
    by false e zero g rest = let same : x ≡ t = cc in let off : is_in_column q t.source ≡ false = rw same at e in cc
    by false e (suc m) g rest = rest (rw e at h) m g

taken_uses : (p d : ℕ) (uses : List TripTree) → are_held p d uses ≡ true → list_all (taken_by p d (first_clock uses)) uses ≡ true
taken_uses p d [] h = cc
taken_uses p d (x ∷ xs) h = h

-- each stands in the clock of the first, and is used with an age of at most the period
pub held_use : (p d q : ℕ) (trips : List TripTree) → is_held p d q trips ≡ true → (n : ℕ) (t : TripTree) → slice_get trips n ≡ Some t
    → is_in_column q t.source ≡ true
    → (source_clock t.source ≡ first_clock (uses_of q trips)) × (t.clock + d - source_clock t.source ≤ p)
held_use p d q trips h n t f on =
    let k : ℕ = first_clock (uses_of q trips) in
    let passes : taken_by p d k t ≡ true = each_use (taken_by p d k) q trips (taken_uses p d (uses_of q trips) h) n t f on in
    let parts = both (nat_eq (source_clock t.source) k) (nat_le (t.clock + d - source_clock t.source) p) passes in
    (eqb-true (source_clock t.source) k parts.0, leb-true (t.clock + d - source_clock t.source) p parts.1)

-- the memories of the first columns
pub range_more : (a n : ℕ) → range_with_len a (n + 1) ≡ range_with_len a n ++ (a + n) ∷ []
range_more a zero = let e : a + 0 ≡ a = omega arith in rw e refl
range_more a (suc n) =
    let e : suc n + 1 ≡ suc (n + 1) = omega arith in
    let m : a + 1 + n ≡ a + suc n = omega arith in
    rw e (ap (λ xs. a ∷ xs) (rw m at (range_more (a + 1) n)))

pub sum_more : (f : ℕ → ℕ) (n : ℕ) → sum_by f (range_with_len 0 (n + 1)) ≡ sum_by f (range_with_len 0 n) + f n
sum_more f n = let e : 0 + n ≡ n = omega arith in ap (sum_by f) (rw e at (range_more 0 n)) ∙ sum_by_push f (range_with_len 0 n) n

pub mems_more : (f : ℕ → ℕ) (sum q x : ℕ) → sum ≡ sum_by f (range_with_len 0 q) → x ≡ f q → sum + x ≡ sum_by f (range_with_len 0 (q + 1))
mems_more f sum q x h e = omega (arith, h, e, sum_more f q)

few_rings : (a : ℕ) → a < 4294967296 → rings a ≤ 1048577
few_rings a h = elim (cases_lt a 8) [
  | inl l ↦ (let t : nat_lt a 8 ≡ true = search (arith) in rw t (omega arith))
  | inr g ↦ (let t : nat_lt a 8 ≡ false = search (arith) in rw t (omega arith))
]

few_held : (b : Bool) (a : ℕ) → a < 4294967296 → cond b 0 (rings a) ≤ 1048577
few_held true a h = omega arith
few_held false a h = few_rings a h

pub few_mems : (u : Option Usage) (age : ℕ) → age < 4294967296 → usage_mems u age ≤ 1048577
few_mems None age h = few_rings age h
few_mems (Some u) age h = few_held u.held age h

-- ---- the registers of a column

registers_held : (b : Bool) → cond b 1 7 ≡ cond b 1 0 + 7 * cond (not b) 1 0
registers_held true = refl
registers_held false = refl

registers_used : (period d q : ℕ) (trips uses : List TripTree) → uses_of q trips ≡ uses
    → usage_registers (usage_of period d uses)
    ≡ cond (is_held period d q trips) 1 0 + 7 * cond (is_used q trips && not (is_held period d q trips)) 1 0
registers_used period d q trips [] is = rw is refl
registers_used period d q trips (x ∷ xs) is =
    let some : nat_lt 0 (length (x ∷ xs)) ≡ true = search arith in
    rw is (rw some (registers_held (are_held period d (x ∷ xs))))

pub registers_more : (period d q n sum : ℕ) (trips : List TripTree) (u : Option Usage) → u ≡ usage_of period d (uses_of q trips) → n ≡ usage_registers u
    → sum ≡ registers_of period d q trips → sum + n ≡ registers_of period d (q + 1) trips
registers_more period d q n sum trips u is e h =
    let own : n ≡ cond (is_held period d q trips) 1 0 + 7 * cond (is_used q trips && not (is_held period d q trips)) 1 0 =
    e ∙ ap usage_registers is ∙ registers_used period d q trips (uses_of q trips) refl in
    omega (
      arith,
      h,
      own,
      sum_more (λ p. cond (is_held period d p trips) 1 0) q,
      sum_more (λ p. cond (is_used p trips && not (is_held period d p trips)) 1 0) q,
    )
