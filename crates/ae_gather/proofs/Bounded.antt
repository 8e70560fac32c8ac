-- The registers and comparisons of what is planned for trips that take words from registers that hold them.
use Rattle.std.proofs.Common.{ℕ, zero, suc, ◌≡◌, ◌+◌, ◌*◌, ◌<◌, ◌≤◌, min, nat_eq, nat_lt, nat_le, cond, true, false, Bool, not, ◌&&◌, ◌||◌, is_some, List, ◌∷◌, [], length, map, sum_by, get_or, Option, Some, None, slice_get, inl, inr, arith, refl, sym, subst, ap, ◌∙◌}
use Rattle.std.specs.List.{range_with_len}
use Rattle.std.proofs.lemmas.Bool.{cases_lt, eq-eqb, eqb-true, leb-true}
use Rattle.std.proofs.lemmas.List.Sums.{sum_by-le-sum_by}
use Rattle.ae_clocked.specs.Delays.{greatest_of}
use Rattle.ae_sttype.specs.Moves.{ChoiceTree, TripTree, delayed, always, age_from, changes_after, choice_from, choices_of, column_delay, held_count, is_held, is_in_column, is_used, runs_of, same_choice, same_step, steps_of, stretches, uses_of}
use Rattle.ae_moves.specs.Rings.{registers_of}
use Rattle.ae_moves.specs.Trees.{source_tree, trip_tree}
use Rattle.ae_moves.specs.declared.trip.Source.{Source}
use Rattle.ae_moves.specs.declared.trip.Source.TheVariants.{Place, Fixed}
use Rattle.ae_moves.specs.declared.trip.Trip.{Trip}
use Rattle.ae_moves.proofs.Held.{sum_more}
use Rattle.ae_moves.proofs.Lists.{fold_ge, get_mapped}
use Rattle.ae_gather.specs.Counts.{line_registers}
use Rattle.ae_columns.specs.Held.{is_kept, kept_count, settled}
use Rattle.ae_columns.specs.Plans.{IsIn}
use Rattle.ae_gather.proofs.Delays.{sum_le}
use Rattle.ae_gather.proofs.Counting.{same_self}
use Rattle.ae_gather.proofs.Hastened.{get_unmapped}
use Rattle.ae_gather.proofs.Memories.{sums_le}
use Rattle.ae_gather.proofs.Settled.{AllIn, AreHeldBy, choices_settled, column_behind, column_kept, column_settled, greatest_below, held_choice, tail_none, two_sums}

-- ---- registers

used_some : (q : ℕ) (trips : List TripTree) (n : ℕ) (t : TripTree) → slice_get trips n ≡ Some t → is_in_column q t.source ≡ true
    → 1 ≤ length (uses_of q trips)
used_some q [] n t f on = cc
used_some q (x ∷ trips) n t f on = by (is_in_column q x.source) refl n f (λ m g. used_some q trips m t g on)
  where
    by : (b : Bool) → is_in_column q x.source ≡ b → (m : ℕ) → slice_get (x ∷ trips) m ≡ Some t
        → ((i : ℕ) → slice_get trips i ≡ Some t → 1 ≤ length (uses_of q trips)) → 1 ≤ length (uses_of q (x ∷ trips))
    by true e m g rest = rw e (omega arith)
    by false e zero g rest = let same : x ≡ t = cc in let off : is_in_column q t.source ≡ false = rw same at e in cc
    by false e (suc m) g rest = rw e (rest m g)

age_else : (d q c : ℕ) (source : Source) → is_in_column q (source_tree source) ≡ false → age_from d q c (source_tree source) ≤ 0
age_else d q c (Place k p) off = let e : nat_eq p q ≡ false = off in rw e (omega arith)
age_else d q c (Fixed w) off = omega arith

-- a column that is not used has no ages
delay_unused : (d q : ℕ) (trips : List Trip) → is_used q (map trip_tree trips) ≡ false → column_delay d q (map trip_tree trips) ≡ 0
delay_unused d q trips off =
    let h : column_delay d q (map trip_tree trips) ≤ 0 =
    greatest_below (λ (t : TripTree). age_from d q t.clock t.source) 0 0 (map trip_tree trips) (omega arith)
    (λ n t f. (let o = get_unmapped trip_tree trips n t f in rw (← o.2) (by n o.0 o.1 (is_in_column q (source_tree o.0.source)) refl))) in omega arith
  where
    by : (n : ℕ) (trip : Trip) → slice_get trips n ≡ Some trip → (b : Bool) → is_in_column q (source_tree trip.source) ≡ b
        → age_from d q trip.clock (source_tree trip.source) ≤ 0
    by n trip f true on =
        let some = used_some q (map trip_tree trips) n (trip_tree trip) (get_mapped trip_tree trips n trip f) on in
        let used : is_used q (map trip_tree trips) ≡ true = search arith in
        cc
    by n trip f false off_column = age_else d q trip.clock trip.source off_column

registers_by : (a u : Bool) (k m n : ℕ) (h : Option ℕ) → h ≡ cond (a && nat_lt 1 m) (Some k) None → n ≤ m → (is_some h ≡ true → n ≡ 0) → (u ≡ false → m ≡ 0)
    → min 7 n + cond (is_some h) 1 0 ≤ cond a 1 0 + 7 * cond (u && not a) 1 0
registers_by true u k m n h e l zero_if unused = elim (cases_lt 1 m) [
  | inl late ↦ (let t : nat_lt 1 m ≡ true = search arith in let some : h ≡ Some k = rw t at e in let on : is_some h ≡ true = ap is_some some in
      let z : n ≡ 0 = zero_if on in rw on (omega (arith, z)))
  | inr soon ↦ (let t : nat_lt 1 m ≡ false = search arith in let none : h ≡ None = rw t at e in let off : is_some h ≡ false = ap is_some none in
      rw off (omega arith))
]
registers_by false true k m n h e l zero_if unused = let off : is_some h ≡ false = ap is_some e in rw off (omega arith)
registers_by false false k m n h e l zero_if unused =
    let off : is_some h ≡ false = ap is_some e in let z : m ≡ 0 = unused refl in rw off (omega (arith, z))

sum_of : (f g : ℕ → ℕ) (n : ℕ) → sum_by (λ q. f q + 7 * g q) (range_with_len 0 n) ≡ sum_by f (range_with_len 0 n) + 7 * sum_by g (range_with_len 0 n)
sum_of f g zero = refl
sum_of f g (suc n) =
    let e : suc n ≡ n + 1 = omega arith in
    let rest = sum_of f g n in
    let more : sum_by (λ q. f q + 7 * g q) (range_with_len 0 (n + 1)) ≡ sum_by f (range_with_len 0 (n + 1)) + 7 * sum_by g
    (range_with_len 0 (n + 1)) = omega (arith, sum_more (λ q. f q + 7 * g q) n, sum_more f n, sum_more g n, rest) in
    subst (λ (k : ℕ). sum_by (λ q. f q + 7 * g q) (range_with_len 0 k) ≡ sum_by f (range_with_len 0 k) + 7 * sum_by g (range_with_len 0 k)) (sym e) more

registers_settled : (period d : ℕ) (held : List (Option ℕ)) (trips moved : List Trip) (lines : List (List ℕ)) → moved ≡ map (settled d held) trips
    → AllIn held trips → AreHeldBy period d held trips → length lines ≡ length held + length held
    → ((q : ℕ) (ages : List ℕ) → slice_get lines q ≡ Some ages → greatest_of ages ≤ column_delay d q (map trip_tree moved))
    → sum_by line_registers lines + kept_count held (length held) ≤ registers_of period d (length held) (map trip_tree trips)
registers_settled period d held trips moved lines is inside h long ages =
    let late : ℕ → ℕ = λ q. column_delay d q (map trip_tree (map (settled d held) trips)) in
    let a : ℕ → ℕ = λ q. cond (is_held period d q (map trip_tree trips)) 1 0 in
    let b : ℕ → ℕ = λ q. cond (is_used q (map trip_tree trips) && not (is_held period d q (map trip_tree trips))) 1 0 in
    let all : sum_by line_registers lines ≤ sum_by (λ q. min 7 (late q)) (range_with_len 0 (length lines)) =
    sum_le line_registers (λ q. min 7 (late q)) 0 lines (λ q own f.
    (let z : 0 + q ≡ q = omega arith in let most : greatest_of own ≤ late q = rw is at (ages q own f) in rw z (omega arith))) in
    let tail = tail_none (λ q. min 7 (late q)) (length held) (length held)
    (λ q l. (let z : late q ≡ 0 = column_behind d q held trips inside l in omega arith)) in
    let each = two_sums (λ q. min 7 (late q)) (λ q. a q + 7 * b q) (λ q. cond (is_kept held q) 1 0) (length held) (λ q l.
    registers_by (is_held period d q (map trip_tree trips)) (is_used q (map trip_tree trips)) _ (column_delay d q (map trip_tree trips)) (late q)
    (get_or held q None) (h.each q l)
    (column_settled d q held trips inside l) (λ on. column_kept d q held trips inside l on) (delay_unused d q trips)) in
    let whole = sum_of a b (length held) in
    let all_in = rw long at all in
    omega (arith, all_in, tail, each, whole)

pub registers_all : (period d ins : ℕ) (held : List (Option ℕ)) (trips moved : List Trip) (lines : List (List ℕ)) → moved ≡ map (settled d held) trips
    → length held ≡ ins → AllIn held trips → AreHeldBy period d held trips → length lines ≡ ins + ins
    → ((q : ℕ) (ages : List ℕ) → slice_get lines q ≡ Some ages → greatest_of ages ≤ column_delay d q (map trip_tree moved))
    → sum_by line_registers lines + kept_count held (length held) ≤ registers_of period d ins (map trip_tree trips)
registers_all period d ins held trips moved lines is long inside h count ages =
    let all = registers_settled period d held trips moved lines is inside h (rw long count) ages in
    subst (λ (n : ℕ). sum_by line_registers lines + kept_count held (length held) ≤ registers_of period d n (map trip_tree trips)) long all

kept_by : (a : Bool) (k m : ℕ) (h : Option ℕ) → h ≡ cond (a && nat_lt 1 m) (Some k) None → cond (is_some h) 1 0 ≤ cond a 1 0
kept_by true k m h e = by (is_some h)
  where
    by : (b : Bool) → cond b 1 0 ≤ 1
    by true = omega arith
    by false = omega arith
kept_by false k m h e = let off : is_some h ≡ false = ap is_some e in rw off (omega arith)

-- each register is that of a held column
pub kept_held : (period d ins : ℕ) (held : List (Option ℕ)) (trips : List Trip) → length held ≡ ins → AreHeldBy period d held trips
    → kept_count held (length held) ≤ held_count period d ins (map trip_tree trips)
kept_held period d ins held trips long h =
    let all = sums_le (λ q. cond (is_kept held q) 1 0) (λ q. cond (is_held period d q (map trip_tree trips)) 1 0) (length held)
    (λ q l. kept_by (is_held period d q (map trip_tree trips)) _ _ (get_or held q None) (h.each q l)) in
    subst (λ (n : ℕ). kept_count held (length held) ≤ held_count period d n (map trip_tree trips)) long all

-- ---- steps

-- a choice of a word of one of the first columns, no older than the column's words become
abbrev Aged : (columns : ℕ) (most : ℕ → ℕ) → ChoiceTree → Type 0
Aged n most (delayed p a) = (p < n) × (a ≤ most p)
Aged n most (always w) = Unit {0}

abbrev AllAged : (columns : ℕ) (most : ℕ → ℕ) → List ChoiceTree → Type 0
AllAged n most [] = Unit {0}
AllAged n most (x ∷ xs) = Aged n most x × AllAged n most xs

aged_by : (d c n : ℕ) (most : ℕ → ℕ) (source : Source) → IsIn n source → ((p : ℕ) → age_from d p c (source_tree source) ≤ most p)
    → Aged n most (choice_from d c (source_tree source))
aged_by d c n most (Place k p) inside h = let same : nat_eq p p ≡ true = eq-eqb p p refl in (inside, rw same at (h p))
aged_by d c n most (Fixed w) inside h = tt

all_aged : (d q n : ℕ) (most : ℕ → ℕ) (trips : List Trip)
    → ((i : ℕ) (trip : Trip) → slice_get trips i ≡ Some trip → Aged n most (choice_from d trip.clock (source_tree trip.source)))
    → AllAged n most (choices_of d q (map trip_tree trips))
all_aged d q n most [] h = tt
all_aged d q n most (t ∷ trips) h = by (nat_eq t.column q) (all_aged d q n most trips (λ i u f. h (suc i) u f)) refl
  where
    by : (b : Bool) → AllAged n most (choices_of d q (map trip_tree trips)) → nat_eq t.column q ≡ b
        → AllAged n most (choices_of d q (map trip_tree (t ∷ trips)))
    by true rest on = rw on (h 0 t refl, rest)
    by false rest off = rw off rest

both : (a b : Bool) → (a && b) ≡ true → (a ≡ true) × (b ≡ true)
both true b h = (refl, h)
both false b h = cc

late_is : (a : ℕ) → nat_le 1 a ≡ true → nat_lt 0 a ≡ true
late_is a h = let l : 1 ≤ a = leb-true 1 a h in search arith

same_held : (held : List (Option ℕ)) (p a b m : ℕ) → (is_kept held p ≡ false → m ≤ 1) → a ≤ m → b ≤ m → nat_le 1 a ≡ true → nat_le 1 b ≡ true
    → same_choice (held_choice held (delayed p a)) (held_choice held (delayed p b)) ≡ true
same_held held p a b m soon la lb ha hb = by (is_kept held p) refl
  where
    by : (k : Bool) → is_kept held p ≡ k → same_choice (held_choice held (delayed p a)) (held_choice held (delayed p b)) ≡ true
    by true on = rw (on, late_is a ha, late_is b hb) (same_self (delayed (length held + p) 0))
    by false off =
        let few : m ≤ 1 = soon off in
        let one : 1 ≤ a = leb-true 1 a ha in
        let other : 1 ≤ b = leb-true 1 b hb in
        let e : a ≡ b = omega arith in
        rw e (same_self (held_choice held (delayed p b)))

same_settled : (held : List (Option ℕ)) (is : ℕ → Bool) (most : ℕ → ℕ) (x y : ChoiceTree)
    → ((p : ℕ) → p < length held → is p ≡ true → is_kept held p ≡ false → most p ≤ 1)
    → Aged (length held) most x → Aged (length held) most y → same_step is x y ≡ true
    → same_choice (held_choice held x) (held_choice held y) ≡ true
same_settled held is most (delayed p a) (delayed q b) soon hx hy h =
    let parts = both (nat_eq p q) _ h in
    let e : p ≡ q = eqb-true p q parts.0 in
    rw e (by (nat_eq a b) refl parts.1)
  where
    by : (t : Bool) → nat_eq a b ≡ t → (nat_eq a b || ((is p && nat_le 1 a) && nat_le 1 b)) ≡ true
        → same_choice (held_choice held (delayed q a)) (held_choice held (delayed q b)) ≡ true
    by true e g = let same : a ≡ b = eqb-true a b e in rw same (same_self (held_choice held (delayed q b)))
    by false e g =
        let eq : p ≡ q = eqb-true p q (both (nat_eq p q) _ h).0 in
        let rest : ((is p && nat_le 1 a) && nat_le 1 b) ≡ true = rw e at g in
        let two = both _ (nat_le 1 b) rest in
        let one = both (is p) (nat_le 1 a) two.0 in
        let la : a ≤ most q = rw eq at hx.1 in
        let on : is q ≡ true = rw eq at one.0 in
        same_held held q a b (most q) (soon q hy.0 on) la hy.1 one.1 two.1
same_settled held is most (delayed p a) (always w) soon hx hy h = cc
same_settled held is most (always v) (delayed q b) soon hx hy h = cc
same_settled held is most (always v) (always w) soon hx hy h = h

changes_settled : (held : List (Option ℕ)) (is : ℕ → Bool) (most : ℕ → ℕ) (x : ChoiceTree) (xs : List ChoiceTree)
    → ((p : ℕ) → p < length held → is p ≡ true → is_kept held p ≡ false → most p ≤ 1) → Aged (length held) most x → AllAged (length held) most xs
    → changes_after same_choice (held_choice held x) (map (held_choice held) xs) ≤ changes_after (same_step is) x xs
changes_settled held is most x [] soon hx h = omega arith
changes_settled held is most x (y ∷ ys) soon hx h = by (same_step is x y) (changes_settled held is most y ys soon h.0 h.1) refl
  where
    least : (b : Bool) → cond b 0 1 ≤ 1
    least true = omega arith
    least false = omega arith

    by : (b : Bool) → changes_after same_choice (held_choice held y) (map (held_choice held) ys) ≤ changes_after (same_step is) y ys
        → same_step is x y ≡ b
        → changes_after same_choice (held_choice held y) (map (held_choice held) ys) + cond (same_choice (held_choice held x) (held_choice held y)) 0 1
        ≤ changes_after (same_step is) y ys + cond (same_step is x y) 0 1
    by true rest on = let t = same_settled held is most x y soon hx h.0 on in rw (t, on) (omega (arith, rest))
    by false rest off = rw off (omega (arith, rest, least (same_choice (held_choice held x) (held_choice held y))))

stretches_settled : (held : List (Option ℕ)) (is : ℕ → Bool) (most : ℕ → ℕ) (xs : List ChoiceTree)
    → ((p : ℕ) → p < length held → is p ≡ true → is_kept held p ≡ false → most p ≤ 1) → AllAged (length held) most xs
    → stretches same_choice (map (held_choice held) xs) ≤ stretches (same_step is) xs
stretches_settled held is most [] soon h = omega arith
stretches_settled held is most (x ∷ xs) soon h = omega (arith, changes_settled held is most x xs soon h.0 h.1)

soon_if : (a : Bool) (k m : ℕ) (h : Option ℕ) → h ≡ cond (a && nat_lt 1 m) (Some k) None → a ≡ true → is_some h ≡ false → m ≤ 1
soon_if true k m h e on off = elim (cases_lt 1 m) [
  | inl late ↦ (let t : nat_lt 1 m ≡ true = search arith in let some : h ≡ Some k = rw t at e in let there : is_some h ≡ true = ap is_some some in
      let no : true ≡ false = sym there ∙ off in cc)
  | inr soon ↦ omega arith
]
soon_if false k m h e on off = cc

-- a run of settled trips is a step of theirs
pub steps_settled : (period d outs : ℕ) (held : List (Option ℕ)) (trips moved : List Trip) → moved ≡ map (settled d held) trips → AllIn held trips
    → AreHeldBy period d held trips → runs_of d outs (map trip_tree moved) ≤ steps_of period d outs (map trip_tree trips)
steps_settled period d outs held trips moved is inside h =
    let most : ℕ → ℕ = λ p. column_delay d p (map trip_tree trips) in
    let held_is : ℕ → Bool = λ p. is_held period d p (map trip_tree trips) in
    rw is
    (sum_by-le-sum_by (λ q. stretches same_choice (choices_of d q (map trip_tree (map (settled d held) trips))))
    (λ q. stretches (same_step held_is) (choices_of d q (map trip_tree trips))) (range_with_len 0 outs)
    (λ q. rw (choices_settled d q held trips)
    (stretches_settled held held_is most (choices_of d q (map trip_tree trips))
    (λ p l on off. soon_if (held_is p) _ (most p) (get_or held p None) (h.each p l) on off)
    (all_aged d q (length held) most trips (λ i trip f. aged_by d trip.clock (length held) most trip.source (inside i trip f)
    (λ p. fold_ge (λ (t : TripTree). age_from d p t.clock t.source) 0 (map trip_tree trips) i (trip_tree trip) (get_mapped trip_tree trips i trip f)))))))
