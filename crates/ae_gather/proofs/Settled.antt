-- Trips that take words from registers that hold them.
use Rattle.std.proofs.Common.{ℕ, zero, suc, ◌≡◌, ◌+◌, ◌-◌, ◌*◌, ◌%◌, ◌<◌, ◌≤◌, max, fold, nat_eq, nat_lt, cond, true, false, Bool, ◌&&◌, is_some, List, ◌∷◌, [], length, map, sum_by, get_or, Option, Some, None, slice_get, inl, inr, arith, refl, sym, subst, ap, ◌∙◌}
use Rattle.std.specs.List.{range_with_len}
use Rattle.std.proofs.lemmas.Bool.{cases_lt, eq-eqb, eqb-true, ne_eqb}
use borrow.Author.Tests.{ltb-true}
use Rattle.std.proofs.lemmas.List.Sums.{sum_by-le-sum_by}
use Rattle.std.proofs.lemmas.Nat.{mod_below}
use Rattle.ae_netlist.specs.declared.cell.NetId.{NetId}
use Rattle.ae_netlist.specs.declared.cell.SizedCell.{SizedCell}
use Rattle.ae_netlist.specs.Circuit.{IsNet, Extends}
use Rattle.ae_netlist.specs.Runs.{Clock, word_at, IsRun, IsReset}
use Rattle.ae_netlist.proofs.Growing.{net_width}
use Rattle.ae_clocked.specs.Delays.{greatest_of}
use Rattle.ae_clocked.specs.Rings.{rings}
use Rattle.ae_clocked.specs.Phases.{phase_of}
use Rattle.ae_sttype.specs.Moves.{ChoiceTree, TripTree, delayed, always, age_from, choice_from, choices_of, column_delay, delay_of, is_held, is_in_column, runs_of, same_choice, source_clock, stretches, uses_of}
use Rattle.ae_moves.specs.Rings.{AreHeld, column_mems, first_clock, mems_of}
use Rattle.ae_moves.specs.Trees.{source_tree, trip_tree}
use Rattle.ae_moves.specs.declared.trip.Source.{Source}
use Rattle.ae_moves.specs.declared.trip.Source.TheVariants.{Place, Fixed}
use Rattle.ae_moves.specs.declared.trip.Trip.{Trip}
use Rattle.ae_moves.proofs.Held.{held_use, sum_more}
use Rattle.ae_moves.proofs.Lists.{fold_ge, get_mapped}
use Rattle.ae_columns.specs.Columns.{net_of}
use Rattle.ae_columns.specs.Held.{AreKept, Holds, held_phase, is_kept, kept_count, settled, settled_source}
use Rattle.ae_columns.specs.Laws.{AreFitting, FitsColumn, MakesTrips, sourced}
use Rattle.ae_columns.specs.Plans.{AreInOrder, AreUsed, AreWithin, IsIn, IsReached, line_mems}
use Rattle.ae_gather.proofs.Delays.{sum_le}
use Rattle.ae_gather.proofs.Hastened.{get_unmapped, stretches_mapped}
use Rattle.ae_columns.proofs.Keeping.{keeps_grows}
use Rattle.ae_gather.proofs.Memories.{rings_least, rings_near, sums_le}
use Rattle.ae_gather.proofs.Taking.{held_word}
use Rattle.ae_columns.proofs.TripLaw.{phase_in_block}

-- ---- the same trips otherwise

reached_by : (b : Bool) (d c n k q : ℕ) → k ≤ c + d → IsReached d c (cond b (Place (c + d) (n + q)) (Place k q))
reached_by true d c n k q h = omega arith
reached_by false d c n k q h = h

reached_settled : (d c : ℕ) (held : List (Option ℕ)) (source : Source) → IsReached d c source → IsReached d c (settled_source held (c + d) source)
reached_settled d c held (Place k q) h = reached_by (is_kept held q && nat_lt k (c + d)) d c (length held) k q h
reached_settled d c held (Fixed w) h = tt

in_by : (b : Bool) (n e k q : ℕ) → q < n → IsIn (n + n) (cond b (Place e (n + q)) (Place k q))
in_by true n e k q h = omega arith
in_by false n e k q h = omega arith

in_settled : (due : ℕ) (held : List (Option ℕ)) (source : Source) → IsIn (length held) source
    → IsIn (length held + length held) (settled_source held due source)
in_settled due held (Place k q) h = in_by (is_kept held q && nat_lt k due) (length held) due k q h
in_settled due held (Fixed w) h = tt

pub within_settled : (period d outs : ℕ) (held : List (Option ℕ)) (trips moved : List Trip) → moved ≡ map (settled d held) trips
    → AreWithin period d (length held) outs trips → AreWithin period d (length held + length held) outs moved
within_settled period d outs held trips moved is h = rw is (record {
  clock = λ n t f. (let o = get_unmapped (settled d held) trips n t f in rw (← o.2) (h.clock n o.0 o.1));
  column = λ n t f. (let o = get_unmapped (settled d held) trips n t f in rw (← o.2) (h.column n o.0 o.1));
  reached = λ n t f. (let o = get_unmapped (settled d held) trips n t f in rw (← o.2) (reached_settled d o.0.clock held o.0.source (h.reached n o.0 o.1)));
  source = λ n t f. (let o = get_unmapped (settled d held) trips n t f in rw (← o.2) (in_settled (o.0.clock + d) held o.0.source (h.source n o.0 o.1)));
})

pub order_settled : (d : ℕ) (held : List (Option ℕ)) (trips moved : List Trip) → moved ≡ map (settled d held) trips → AreInOrder trips → AreInOrder moved
order_settled d held trips moved is h = rw is (record {
  each = λ m n a b l f g same. (let o = get_unmapped (settled d held) trips m a f in let p = get_unmapped (settled d held) trips n b g in
      let q : o.0.column ≡ p.0.column = ap (λ (t : Trip). t.column) o.2 ∙ same ∙ sym (ap (λ (t : Trip). t.column) p.2) in
      rw (← o.2, ← p.2) (h.each m n o.0 p.0 l o.1 p.1 q));
})

pub used_settled : (d outs : ℕ) (held : List (Option ℕ)) (trips moved : List Trip) → moved ≡ map (settled d held) trips → AreUsed outs trips
    → AreUsed outs moved
used_settled d outs held trips moved is h =
    rw is (record { each = λ q l. (let u = h.each q l in (u.0, settled d held u.1, get_mapped (settled d held) trips u.0 u.1 u.2, u.3)) })

fits_by : (b : Bool) (cells : List SizedCell) (all : List NetId) (w n e k q : ℕ) → IsNet cells (net_of all q) w → IsNet cells (net_of all (n + q)) w
    → FitsColumn cells all w (cond b (Place e (n + q)) (Place k q))
fits_by true cells all w n e k q here behind = behind
fits_by false cells all w n e k q here behind = here

fits_settled : (cells : List SizedCell) (rst period d arrival w due : ℕ) (ins all : List NetId) (held : List (Option ℕ)) (source : Source)
    → length held ≡ length ins → AreKept cells rst period d arrival ins held all → IsIn (length held) source
    → FitsColumn cells ins w source → FitsColumn cells all w (settled_source held due source)
fits_settled cells rst period d arrival w due ins all held (Place k q) long kept inside h =
    let own = kept.each q inside in
    let wide : own.width ≡ w = sym (net_width own.from) ∙ net_width h in
    let behind : IsNet cells (net_of all (length held + q)) w = rw wide at own.net in
    let first : net_of all q ≡ net_of ins q = kept.first q (omega arith) in
    let here : IsNet cells (net_of all q) w = rw first h in
    fits_by (is_kept held q && nat_lt k due) cells all w (length held) due k q here behind
fits_settled cells rst period d arrival w due ins all held (Fixed v) long kept inside h = h

pub fitting_settled : (cells : List SizedCell) (rst period d arrival outs : ℕ) (ins all : List NetId) (widths : List ℕ) (held : List (Option ℕ))
    (trips moved : List Trip) → moved ≡ map (settled d held) trips → length held ≡ length ins
    → AreKept cells rst period d arrival ins held all → AreWithin period d (length held) outs trips → AreFitting cells ins widths trips
    → AreFitting cells all widths moved
fitting_settled cells rst period d arrival outs ins all widths held trips moved is long kept inside h = rw is (record {
  low = h.low;
  high = h.high;
  fits = λ n w t f wide. (let o = get_unmapped (settled d held) trips n t f in
      let wide_at = rw (← o.2) at wide in rw (← o.2) (fits_settled cells rst period d arrival w (o.0.clock + d) ins all held o.0.source long kept
      (inside.source n o.0 o.1) (h.fits n w o.0 o.1 wide_at)));
})

pub kept_grows : (a b : List SizedCell) (rst period d arrival : ℕ) (ins : List NetId) (held : List (Option ℕ)) (all : List NetId) → Extends a b
    → AreKept a rst period d arrival ins held all → AreKept b rst period d arrival ins held all
kept_grows a b rst period d arrival ins held all g h = record { long = h.long; first = h.first; each = λ q l. keeps_grows g (h.each q l) }

-- each of them is a net
pub kept_nets : (cells : List SizedCell) (rst period d arrival : ℕ) (ins : List NetId) (held : List (Option ℕ)) (all : List NetId) → length held ≡ length ins
    → AreKept cells rst period d arrival ins held all
    → (q : ℕ) → q < length all → (w : ℕ) × IsNet cells (net_of all q) w
kept_nets cells rst period d arrival ins held all long h q l = elim (cases_lt q (length ins)) [
  | inl near ↦ (let k = h.each q (omega arith) in let e : net_of all q ≡ net_of ins q = h.first q near in (k.width, rw e k.from))
  | inr far ↦ (let k = h.each (q - length held) (omega (arith, h.long)) in let e : length held + (q - length held) ≡ q = omega arith in
      (k.width, rw e at k.net))
]

-- ---- ages

not_kept : (b : Bool) (d c n k p q : ℕ) → p < n → q < n
    → age_from d q c (source_tree (cond b (Place (c + d) (n + p)) (Place k p))) ≤ cond (nat_eq p q) (c + d - k) 0
not_kept true d c n k p q lp lq = let other : nat_eq (n + p) q ≡ false = ne_eqb (n + p) q (λ x. absurd (omega arith)) in rw other (omega arith)
not_kept false d c n k p q lp lq = omega arith

-- no word is older than before
settled_age : (d c q : ℕ) (held : List (Option ℕ)) (source : Source) → IsIn (length held) source → q < length held
    → age_from d q c (source_tree (settled_source held (c + d) source)) ≤ age_from d q c (source_tree source)
settled_age d c q held (Place k p) inside l = not_kept (is_kept held p && nat_lt k (c + d)) d c (length held) k p q inside l
settled_age d c q held (Fixed w) inside l = omega arith

late_kept : (b : Bool) (d c n k q : ℕ) → nat_lt k (c + d) ≡ b → q < n → age_from d q c (source_tree (cond b (Place (c + d) (n + q)) (Place k q))) ≤ 0
late_kept true d c n k q e l = let other : nat_eq (n + q) q ≡ false = ne_eqb (n + q) q (λ x. absurd (omega arith)) in rw other (omega arith)
late_kept false d c n k q e l =
    let same : nat_eq q q ≡ true = eq-eqb q q refl in
    let least : c + d ≤ k = (elim (cases_lt k (c + d)) [
      | inl
          less ↦ (let t : nat_lt k (c + d) ≡ true = search arith in let x : true ≡ false = sym t ∙ e in cc)
      | inr more ↦ more
    ]) in
    rw same (omega arith)

-- of a column with a register none is late
kept_age : (d c q : ℕ) (held : List (Option ℕ)) (source : Source) → IsIn (length held) source → q < length held → is_kept held q ≡ true
    → age_from d q c (source_tree (settled_source held (c + d) source)) ≤ 0
kept_age d c q held (Place k p) inside l on = by (nat_eq p q) refl
  where
    by : (b : Bool) → nat_eq p q ≡ b → age_from d q c (source_tree (settled_source held (c + d) (Place k p))) ≤ 0
    by true e =
        let same : p ≡ q = eqb-true p q e in
        let own : is_kept held p ≡ true = rw same on in
        rw own (rw same (late_kept (nat_lt k (c + d)) d c (length held) k q refl l))
    by false e = let least = not_kept (is_kept held p && nat_lt k (c + d)) d c (length held) k p q inside l in rw e at least
kept_age d c q held (Fixed w) inside l on = omega arith

behind_by : (b : Bool) (d c n k p q : ℕ) → p < n → n ≤ q → age_from d q c (source_tree (cond b (Place (c + d) (n + p)) (Place k p))) ≤ 0
behind_by true d c n k p q lp lq = by (nat_eq (n + p) q)
  where
    by : (b : Bool) → cond b (c + d - (c + d)) 0 ≤ 0
    by true = omega arith
    by false = omega arith
behind_by false d c n k p q lp lq = let other : nat_eq p q ≡ false = ne_eqb p q (λ x. absurd (omega arith)) in rw other (omega arith)

-- the registers are taken at once
behind_age : (d c q : ℕ) (held : List (Option ℕ)) (source : Source) → IsIn (length held) source → length held ≤ q
    → age_from d q c (source_tree (settled_source held (c + d) source)) ≤ 0
behind_age d c q held (Place k p) inside l = behind_by (is_kept held p && nat_lt k (c + d)) d c (length held) k p q inside l
behind_age d c q held (Fixed w) inside l = omega arith

pub greatest_below : (f : TripTree → ℕ) (m a : ℕ) (ts : List TripTree) → a ≤ m → ((n : ℕ) (t : TripTree) → slice_get ts n ≡ Some t → f t ≤ m)
    → fold (λ most (t : TripTree). max most (f t)) a ts ≤ m
greatest_below f m a [] l h = l
greatest_below f m a (t ∷ ts) l h = let here : f t ≤ m = h 0 t refl in greatest_below f m (max a (f t)) ts (omega arith) (λ n u g. h (suc n) u g)

column_below : (d q m : ℕ) (held : List (Option ℕ)) (trips : List Trip)
    → ((n : ℕ) (trip : Trip) → slice_get trips n ≡ Some trip → age_from d q trip.clock (source_tree (settled_source held (trip.clock + d) trip.source)) ≤ m)
    → column_delay d q (map trip_tree (map (settled d held) trips)) ≤ m
column_below d q m held trips h =
    greatest_below (λ (t : TripTree). age_from d q t.clock t.source) m 0 (map trip_tree (map (settled d held) trips)) (omega arith) (λ n t f.
    let o = get_unmapped trip_tree (map (settled d held) trips) n t f in
    let p = get_unmapped (settled d held) trips n o.0 o.1 in
    rw (← o.2) (rw (← p.2) (h n p.0 p.1)))

-- the trips stand in the columns
abbrev pub AllIn : List (Option ℕ) → List Trip → Type 0
AllIn held trips = (n : ℕ) (trip : Trip) → slice_get trips n ≡ Some trip → IsIn (length held) trip.source

pub column_settled : (d q : ℕ) (held : List (Option ℕ)) (trips : List Trip) → AllIn held trips → q < length held
    → column_delay d q (map trip_tree (map (settled d held) trips)) ≤ column_delay d q (map trip_tree trips)
column_settled d q held trips inside l = column_below d q (column_delay d q (map trip_tree trips)) held trips (λ n trip f.
    let own = fold_ge (λ (t : TripTree). age_from d q t.clock t.source) 0 (map trip_tree trips) n (trip_tree trip) (get_mapped trip_tree trips n trip f) in
    omega (arith, own, settled_age d trip.clock q held trip.source (inside n trip f) l))

pub column_kept : (d q : ℕ) (held : List (Option ℕ)) (trips : List Trip) → AllIn held trips → q < length held → is_kept held q ≡ true
    → column_delay d q (map trip_tree (map (settled d held) trips)) ≡ 0
column_kept d q held trips inside l on =
    let h : column_delay d q (map trip_tree (map (settled d held) trips)) ≤ 0 = column_below d q 0 held trips
    (λ n trip f. kept_age d trip.clock q held trip.source (inside n trip f) l on) in omega arith

pub column_behind : (d q : ℕ) (held : List (Option ℕ)) (trips : List Trip) → AllIn held trips → length held ≤ q
    → column_delay d q (map trip_tree (map (settled d held) trips)) ≡ 0
column_behind d q held trips inside l =
    let h : column_delay d q (map trip_tree (map (settled d held) trips)) ≤ 0 = column_below d q 0 held trips
    (λ n trip f. behind_age d trip.clock q held trip.source (inside n trip f) l) in omega arith

-- ---- sums

pub tail_none : (f : ℕ → ℕ) (n m : ℕ) → ((i : ℕ) → n ≤ i → f i ≡ 0) → sum_by f (range_with_len 0 (n + m)) ≡ sum_by f (range_with_len 0 n)
tail_none f n zero h = let e : n + 0 ≡ n = omega arith in rw e refl
tail_none f n (suc m) h =
    let e : n + suc m ≡ n + m + 1 = omega arith in
    let last : f (n + m) ≡ 0 = h (n + m) (omega arith) in
    rw e (omega (arith, sum_more f (n + m), last, tail_none f n m h))

pub two_sums : (f g h : ℕ → ℕ) (n : ℕ) → ((q : ℕ) → q < n → f q + h q ≤ g q)
    → sum_by f (range_with_len 0 n) + sum_by h (range_with_len 0 n) ≤ sum_by g (range_with_len 0 n)
two_sums f g h zero each = omega arith
two_sums f g h (suc n) each =
    let e : suc n ≡ n + 1 = omega arith in
    let rest = two_sums f g h n (λ q l. each q (omega arith)) in
    let last : f n + h n ≤ g n = each n (omega arith) in
    let more : sum_by f (range_with_len 0 (n + 1)) + sum_by h (range_with_len 0 (n + 1)) ≤ sum_by g
    (range_with_len 0 (n + 1)) = omega (arith, sum_more f n, sum_more g n, sum_more h n, rest, last) in
    subst (λ (k : ℕ). sum_by f (range_with_len 0 k) + sum_by h (range_with_len 0 k) ≤ sum_by g (range_with_len 0 k)) (sym e) more

-- what is held, and what is not
abbrev pub AreHeldBy : (period d : ℕ) → List (Option ℕ) → List Trip → Type 0
AreHeldBy period d held trips = AreHeld period d (length held) (map trip_tree trips) held

clock_late : (a : Bool) (m k : ℕ) (h : Option ℕ) → h ≡ cond (a && nat_lt 1 m) (Some k) None → is_some h ≡ true → (a ≡ true) × (2 ≤ m)
clock_late true m k h e on = by (nat_lt 1 m) refl
  where
    by : (b : Bool) → nat_lt 1 m ≡ b → (true ≡ true) × (2 ≤ m)
    by true t = let l : 1 < m = ltb-true 1 m t in (refl, omega arith)
    by false t = let n : h ≡ None = rw t at e in let off : false ≡ true = rw n at on in cc
clock_late false m k h e on = let off : false ≡ true = rw e at on in cc

kept_late : (period d q : ℕ) (held : List (Option ℕ)) (trips : List Trip) → AreHeldBy period d held trips → q < length held → is_kept held q ≡ true
    → 2 ≤ column_delay d q (map trip_tree trips)
kept_late period d q held trips h l on =
    (clock_late (is_held period d q (map trip_tree trips)) (column_delay d q (map trip_tree trips)) _ (get_or held q None) (h.each q l) on).1

count_by_kept : (b : Bool) (x y z : ℕ) → (b ≡ true → x + 1 ≤ y) → x ≤ y → x + cond b 1 0 ≤ y
count_by_kept true x y z h l = h refl
count_by_kept false x y z h l = omega arith

-- each register saves words that are kept
pub delay_settled : (period d : ℕ) (held : List (Option ℕ)) (trips moved : List Trip) → moved ≡ map (settled d held) trips → AllIn held trips
    → AreHeldBy period d held trips
    → delay_of d (length held + length held) (map trip_tree moved) + kept_count held (length held) ≤ delay_of d (length held) (map trip_tree trips)
delay_settled period d held trips moved is inside h =
    rw is
    (let tail = tail_none (λ q. column_delay d q (map trip_tree (map (settled d held) trips))) (length held) (length held)
    (λ q l. column_behind d q held trips inside l) in
    let all = two_sums (λ q. column_delay d q (map trip_tree (map (settled d held) trips))) (λ q. column_delay d q (map trip_tree trips))
    (λ q. cond (is_kept held q) 1 0) (length held) (λ q l.
    count_by_kept (is_kept held q) _ _ 0 (λ on. omega (arith, column_kept d q held trips inside l on, kept_late period d q held trips h l on))
    (column_settled d q held trips inside l)) in
    omega (arith, tail, all))

pub delay_all : (period d ins : ℕ) (held : List (Option ℕ)) (trips moved : List Trip) → moved ≡ map (settled d held) trips → length held ≡ ins
    → AllIn held trips → AreHeldBy period d held trips
    → delay_of d (ins + ins) (map trip_tree moved) + kept_count held (length held) ≤ delay_of d ins (map trip_tree trips)
delay_all period d ins held trips moved is long inside h =
    subst (λ (n : ℕ). delay_of d (n + n) (map trip_tree moved) + kept_count held (length held) ≤ delay_of d n (map trip_tree trips)) long
    (delay_settled period d held trips moved is inside h)

-- so there are no more of them than words that are kept
pub kept_few : (period d ins : ℕ) (held : List (Option ℕ)) (trips : List Trip) → length held ≡ ins → AllIn held trips → AreHeldBy period d held trips
    → kept_count held (length held) ≤ delay_of d ins (map trip_tree trips)
kept_few period d ins held trips long inside h = omega (arith, delay_all period d ins held trips (map (settled d held) trips) refl long inside h)

mems_by : (a : Bool) (k m n : ℕ) (h : Option ℕ) → h ≡ cond (a && nat_lt 1 m) (Some k) None → n ≤ m → (is_some h ≡ true → n ≡ 0) → rings n ≤ cond a 0 (rings m)
mems_by true k m n h e l zero_if = elim (cases_lt 1 m) [
  | inl late ↦ (let t : nat_lt 1 m ≡ true = search arith in let some : h ≡ Some k = rw t at e in let on : is_some h ≡ true = ap is_some some in
      let z : n ≡ 0 = zero_if on in omega (arith, rings_near n (omega arith)))
  | inr soon ↦ omega (arith, rings_near n (omega arith))
]
mems_by false k m n h e l zero_if = rings_least n m l

-- the lines take no more memories than the move's columns
pub mems_settled : (period d : ℕ) (held : List (Option ℕ)) (trips moved : List Trip) (lines : List (List ℕ)) → moved ≡ map (settled d held) trips
    → AllIn held trips → AreHeldBy period d held trips → length lines ≡ length held + length held
    → ((q : ℕ) (ages : List ℕ) → slice_get lines q ≡ Some ages → greatest_of ages ≤ column_delay d q (map trip_tree moved))
    → sum_by line_mems lines ≤ mems_of period d (length held) (map trip_tree trips)
mems_settled period d held trips moved lines is inside h long ages =
    let late : ℕ → ℕ = λ q. column_delay d q (map trip_tree (map (settled d held) trips)) in
    let all : sum_by line_mems lines ≤ sum_by (λ q. rings (late q)) (range_with_len 0 (length lines)) =
    sum_le line_mems (λ q. rings (late q)) 0 lines (λ q own f.
    (let z : 0 + q ≡ q = omega arith in rw z (rings_least (greatest_of own) (late q) (rw is at (ages q own f))))) in
    let tail = tail_none (λ q. rings (late q)) (length held) (length held)
    (λ q l. (let z : late q ≡ 0 = column_behind d q held trips inside l in rw z (rings_near 0 (omega arith)))) in
    let each = sums_le (λ q. rings (late q)) (λ q. column_mems period d q (map trip_tree trips)) (length held) (λ q l.
    mems_by (is_held period d q (map trip_tree trips)) _ (column_delay d q (map trip_tree trips)) (late q) (get_or held q None) (h.each q l)
    (column_settled d q held trips inside l) (λ on. column_kept d q held trips inside l on)) in
    let all_in = rw long at all in
    omega (arith, all_in, tail, each)

pub mems_all : (period d ins : ℕ) (held : List (Option ℕ)) (trips moved : List Trip) (lines : List (List ℕ)) → moved ≡ map (settled d held) trips
    → length held ≡ ins → AllIn held trips → AreHeldBy period d held trips → length lines ≡ ins + ins
    → ((q : ℕ) (ages : List ℕ) → slice_get lines q ≡ Some ages → greatest_of ages ≤ column_delay d q (map trip_tree moved))
    → sum_by line_mems lines ≤ mems_of period d ins (map trip_tree trips)
mems_all period d ins held trips moved lines is long inside h count ages =
    let all = mems_settled period d held trips moved lines is inside h (rw long count) ages in
    subst (λ (n : ℕ). sum_by line_mems lines ≤ mems_of period d n (map trip_tree trips)) long all

-- ---- runs

abbrev pub held_choice : List (Option ℕ) → ChoiceTree → ChoiceTree
held_choice held (delayed q a) = cond (is_kept held q && nat_lt 0 a) (delayed (length held + q) 0) (delayed q a)
held_choice held (always w) = always w

late_same : (k e : ℕ) → nat_lt k e ≡ nat_lt 0 (e - k)
late_same k e = elim (cases_lt k e) [
  | inl less ↦ (let t : nat_lt k e ≡ true = search arith in let u : nat_lt 0 (e - k) ≡ true = search arith in rw (t, u) refl)
  | inr more ↦ (let t : nat_lt k e ≡ false = search arith in let u : nat_lt 0 (e - k) ≡ false = search arith in rw (t, u) refl)
]

choice_by : (b : Bool) (d c n k q : ℕ) → choice_from d c (source_tree (cond b (Place (c + d) (n + q)) (Place k q))) ≡ cond b (delayed (n + q) 0)
    (delayed q (c + d - k))
choice_by true d c n k q = let z : c + d - (c + d) ≡ 0 = omega arith in ap (delayed (n + q)) z
choice_by false d c n k q = refl

choice_settled : (d c : ℕ) (held : List (Option ℕ)) (source : Source)
    → choice_from d c (source_tree (settled_source held (c + d) source)) ≡ held_choice held (choice_from d c (source_tree source))
choice_settled d c held (Place k q) =
    choice_by (is_kept held q && nat_lt k (c + d)) d c (length held) k q
    ∙ ap (λ b. cond (is_kept held q && b) (delayed (length held + q) 0) (delayed q (c + d - k))) (late_same k (c + d))
choice_settled d c held (Fixed w) = refl

pub choices_settled : (d q : ℕ) (held : List (Option ℕ)) (trips : List Trip)
    → choices_of d q (map trip_tree (map (settled d held) trips)) ≡ map (held_choice held) (choices_of d q (map trip_tree trips))
choices_settled d q held [] = refl
choices_settled d q held (t ∷ trips) = by (nat_eq t.column q) (choices_settled d q held trips) refl
  where
    by : (b : Bool) → choices_of d q (map trip_tree (map (settled d held) trips)) ≡ map (held_choice held) (choices_of d q (map trip_tree trips))
        → nat_eq t.column q ≡ b
        → choices_of d q (map trip_tree (map (settled d held) (t ∷ trips))) ≡ map (held_choice held) (choices_of d q (map trip_tree (t ∷ trips)))
    by true rest on = rw on (rw (choice_settled d t.clock held t.source, rest) refl)
    by false rest off = rw off rest

pub runs_settled : (d outs : ℕ) (held : List (Option ℕ)) (trips moved : List Trip) → moved ≡ map (settled d held) trips
    → runs_of d outs (map trip_tree moved) ≤ runs_of d outs (map trip_tree trips)
runs_settled d outs held trips moved is =
    rw is
    (sum_by-le-sum_by (λ q. stretches same_choice (choices_of d q (map trip_tree (map (settled d held) trips))))
    (λ q. stretches same_choice (choices_of d q (map trip_tree trips))) (range_with_len 0 outs)
    (λ q. rw (choices_settled d q held trips) (stretches_mapped (held_choice held) (choices_of d q (map trip_tree trips)))))

-- ---- the words

is_there : (h : Option ℕ) → is_some h ≡ true → (k : ℕ) × (h ≡ Some k)
is_there (Some k) on = (k, refl)
is_there None on = cc

clock_is : (a b : Bool) (k m : ℕ) → Some k ≡ cond (a && b) (Some m) None → (a ≡ true) × (k ≡ m)
clock_is true true k m e = (refl, cc)
clock_is true false k m e = cc
clock_is false b k m e = cc

-- the register has the word of a trip when it is due
word_kept : (cells : List SizedCell) (rst period d arrival : ℕ) (ins all : List NetId) (held : List (Option ℕ)) (trips : List Trip) (n : ℕ) (trip : Trip)
    (k q : ℕ) → AreKept cells rst period d arrival ins held all → AreHeldBy period d held trips
    → slice_get trips n ≡ Some trip → trip.source ≡ Place k q → q < length held → trip.clock < period → k < trip.clock + d → is_kept held q ≡ true
    → (big : List SizedCell) → Extends cells big → (run : List Clock) → IsRun big run → (start : ℕ) → IsReset run rst start → (b : ℕ)
    → start + (arrival + d + b * period + trip.clock) < length run
    → word_at run (start + (arrival + b * period + (trip.clock + d))) (net_of all (length held + q)) ≡ word_at run (start + (arrival + b * period + k))
    (net_of ins q)
word_kept cells rst period d arrival ins all held trips n trip k q kept h f from l small late on big e run is start reset b inside =
    let there = is_there (get_or held q None) on in
    let clock = clock_is (is_held period d q (map trip_tree trips)) _ there.0 (first_clock (uses_of q (map trip_tree trips))) (sym there.1 ∙ h.each q l) in
    let from_place : source_tree trip.source ≡ source_tree (Place k q) = ap source_tree from in
    let in_column : is_in_column q (source_tree trip.source) ≡ true = ap (is_in_column q) from_place ∙ eq-eqb q q refl in
    let used = held_use period d q (map trip_tree trips) clock.0 n (trip_tree trip) (get_mapped trip_tree trips n trip f) in_column in
    let stands : source_clock (source_tree trip.source) ≡ k = ap source_clock from_place in
    let same : there.0 ≡ k = clock.1 ∙ sym used.0 ∙ stands in
    let aged : trip.clock + d - source_clock (source_tree trip.source) ≤ period = used.1 in
    let age : trip.clock + d - k ≤ period = rw stands at aged in
    let c : ℕ = arrival + d + b * period + trip.clock in
    let at : phase_of period ((arrival + d) % period) c ≡ trip.clock = phase_in_block period (arrival + d) b trip.clock small in
    let holds : Holds run start (net_of all (length held + q)) (net_of ins q) period ((arrival + d) % period) (held_phase period d k) = rw same at
    ((kept.each q l).words there.0 there.1 big e run is start reset) in
    let low : (arrival + d) % period < period = mod_below (arrival + d) period (omega arith) in
    let word = held_word run start (net_of all (length held + q)) (net_of ins q) period ((arrival + d) % period) d k trip.clock
    (trip.clock + d - k) c low small (omega arith) refl (omega arith) age (omega arith) at holds inside in
    let due : arrival + b * period + (trip.clock + d) ≡ c = omega arith in
    let came : c - (trip.clock + d - k) ≡ arrival + b * period + k = omega arith in
    ap (λ i. word_at run (start + i) (net_of all (length held + q))) due ∙ word ∙ ap (λ i. word_at run (start + i) (net_of ins q)) came

source_settled : (cells : List SizedCell) (rst period d arrival : ℕ) (ins all : List NetId) (held : List (Option ℕ)) (trips : List Trip) (n : ℕ) (trip : Trip)
    (source : Source) → AreKept cells rst period d arrival ins held all → AreHeldBy period d held trips
    → length held ≡ length ins → slice_get trips n ≡ Some trip → trip.source ≡ source → IsIn (length held) source → trip.clock < period
    → (big : List SizedCell) → Extends cells big → (run : List Clock) → IsRun big run → (start : ℕ) → IsReset run rst start → (b : ℕ)
    → start + (arrival + d + b * period + trip.clock) < length run
    → sourced run start (arrival + b * period) all (settled_source held (trip.clock + d) source) ≡ sourced run start (arrival + b * period) ins source
source_settled cells rst period d arrival ins all held trips n trip (Place k q) kept h long f from l small big e run is start reset b inside =
    by (is_kept held q) (nat_lt k (trip.clock + d)) refl refl
  where
    first : word_at run (start + (arrival + b * period + k)) (net_of all q) ≡ word_at run (start + (arrival + b * period + k)) (net_of ins q)
    first = ap (word_at run (start + (arrival + b * period + k))) (kept.first q (omega arith))

    by : (x z : Bool) → is_kept held q ≡ x → nat_lt k (trip.clock + d) ≡ z
        → sourced run start (arrival + b * period) all (settled_source held (trip.clock + d) (Place k q)) ≡ word_at run (start + (arrival + b * period + k))
        (net_of ins q)
    by true true on late = rw (on, late) (word_kept cells rst period d arrival ins all held trips n trip k q kept h f from l small
        (ltb-true k (trip.clock + d) late) on big e run is start reset b inside)
    by true false on soon = rw (on, soon) first
    by false z off t = rw off first
source_settled cells rst period d arrival ins all held trips n trip (Fixed w) kept h long f from l small big e run is start reset b inside = refl

-- what makes the settled trips makes the trips
pub trips_settled : (cells : List SizedCell) (rst period d arrival outs : ℕ) (ins all out : List NetId) (held : List (Option ℕ)) (trips moved : List Trip)
    → moved ≡ map (settled d held) trips → length held ≡ length ins
    → AreKept cells rst period d arrival ins held all → AreHeldBy period d held trips → AreWithin period d (length held) outs trips
    → MakesTrips cells rst period d arrival all out moved → MakesTrips cells rst period d arrival ins out trips
trips_settled cells rst period d arrival outs ins all out held trips moved moves long kept h within made = λ big e run is start reset b n trip y f g l.
    let there : slice_get moved n ≡ Some (settled d held trip) = rw moves (get_mapped (settled d held) trips n trip f) in
    made big e run is start reset b n (settled d held trip) y there g l
    ∙ source_settled cells rst period d arrival ins all held trips n trip trip.source kept h long f refl (within.source n trip f)
    (within.clock n trip f) big e run is start reset b l
