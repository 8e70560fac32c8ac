-- Trips that take words from rings at places that change, and the places.
use Rattle.std.proofs.Common.{ℕ, zero, suc, ◌≡◌, ◌+◌, ◌-◌, ◌*◌, ◌^◌, ◌<◌, ◌≤◌, nat_le, cond, true, false, Bool, ◌&&◌, List, ◌∷◌, ◌++◌, [], length, map, get_or, Option, Some, None, slice_get, inl, inr, arith, refl, sym, subst, ap, ◌∙◌}
use Rattle.std.proofs.lemmas.Bool.{cases_eq, eqb-true, leb-true}
use Rattle.std.proofs.lemmas.List.{length_push}
use Rattle.ae_netlist.proofs.Gets.{get_left, get_pushed}
use Rattle.std.proofs.lemmas.Option.{slice_get_within, slice_get-get_or}
use Rattle.ae_netlist.specs.declared.cell.NetId.{NetId}
use Rattle.ae_netlist.specs.declared.cell.SizedCell.{SizedCell}
use Rattle.ae_netlist.specs.Circuit.{Extends}
use Rattle.ae_netlist.specs.Runs.{Clock, word_at, IsRun, IsReset}
use Rattle.ae_netlist.proofs.Growing.{net_width}
use Rattle.ae_moves.specs.declared.trip.Source.{Source}
use Rattle.ae_moves.specs.declared.trip.Source.TheVariants.{Place, Fixed}
use Rattle.ae_moves.specs.declared.trip.Trip.{Trip}
use Rattle.ae_moves.proofs.Lists.{get_mapped}
use Rattle.ae_gather.specs.declared.reads.Reads.{Reads}
use Rattle.ae_columns.specs.Columns.{net_of}
use Rattle.ae_columns.specs.Laws.{AreFitting, FitsColumn, MakesTrips, sourced}
use Rattle.ae_columns.specs.Plans.{AreInOrder, AreUsed, AreWithin, IsIn, IsReached}
use Rattle.ae_gather.specs.Readers.{AreReads, ReadsPlaces, ShowsPlaces}
use Rattle.ae_gather.specs.Reads.{ArePlaced, IsPlaceOf, is_from, is_read, placed, read_source, read_trip}
use Rattle.ae_gather.proofs.Hastened.{get_unmapped}
use Rattle.ae_moves.proofs.Held.{both}

some_from : (o : Option ℕ) (x : ℕ) → is_from o x ≡ true → o ≡ Some x
some_from (Some y) x e = ap Some (eqb-true y x e)
some_from None x e = cc

-- what is read is read from the ring of its column, and late
pub record Asked (reads : Reads) (due k x q : ℕ) : Type 0 where
  pub from : get_or reads.from.items q None ≡ Some x
  pub ring : get_or reads.rings.items x false ≡ true
  pub late : k + 2 ≤ due

at_most : (a b : ℕ) → nat_le a b ≡ true → a ≤ b
at_most a b e = leb-true a b e

pub asked : (reads : Reads) (due k x q : ℕ) → is_read reads due k x q ≡ true → Asked reads due k x q
asked reads due k x q e =
    let a = both (is_from (get_or reads.from.items q None) x) (get_or reads.rings.items x false && (nat_le (k + 2) due && nat_le due (k + 2 ^ reads.bits))) e in
    let b = both (get_or reads.rings.items x false) (nat_le (k + 2) due && nat_le due (k + 2 ^ reads.bits)) a.1 in
    let c = both (nat_le (k + 2) due) (nat_le due (k + 2 ^ reads.bits)) b.1 in
    record { from = some_from (get_or reads.from.items q None) x a.0; ring = b.0; late = at_most (k + 2) due c.0 }

-- ---- the same trips otherwise

reached_read : (reads : Reads) (d c q : ℕ) (source : Source) → IsReached d c source → IsReached d c (read_source reads (c + d) q source)
reached_read reads d c q (Place k x) h = by (is_read reads (c + d) k x q)
  where
    by : (b : Bool) → IsReached d c (cond b (Place (c + d) (length reads.rings.items + q)) (Place k x))
    by true = omega arith
    by false = h
reached_read reads d c q (Fixed w) h = tt

in_read : (reads : Reads) (due q outs : ℕ) (source : Source) → q < outs → IsIn (length reads.rings.items) source
    → IsIn (length reads.rings.items + outs) (read_source reads due q source)
in_read reads due q outs (Place k x) l h = by (is_read reads due k x q)
  where
    by : (b : Bool) → IsIn (length reads.rings.items + outs) (cond b (Place due (length reads.rings.items + q)) (Place k x))
    by true = omega arith
    by false = omega arith
in_read reads due q outs (Fixed w) l h = tt

pub within_read : (period d outs : ℕ) (reads : Reads) (trips moved : List Trip) → moved ≡ map (read_trip d reads) trips
    → AreWithin period d (length reads.rings.items) outs trips → AreWithin period d (length reads.rings.items + outs) outs moved
within_read period d outs reads trips moved is h = rw is (record {
  clock = λ n t f. (let o = get_unmapped (read_trip d reads) trips n t f in rw (← o.2) (h.clock n o.0 o.1));
  column = λ n t f. (let o = get_unmapped (read_trip d reads) trips n t f in rw (← o.2) (h.column n o.0 o.1));
  reached = λ n t f. (let o = get_unmapped (read_trip d reads) trips n t f in
      rw (← o.2) (reached_read reads d o.0.clock o.0.column o.0.source (h.reached n o.0 o.1)));
  source = λ n t f. (let o = get_unmapped (read_trip d reads) trips n t f in
      rw (← o.2) (in_read reads (o.0.clock + d) o.0.column outs o.0.source (h.column n o.0 o.1) (h.source n o.0 o.1)));
})

pub order_read : (d : ℕ) (reads : Reads) (trips moved : List Trip) → moved ≡ map (read_trip d reads) trips → AreInOrder trips → AreInOrder moved
order_read d reads trips moved is h = rw is (record {
  each = λ m n a b l f g same. (let o = get_unmapped (read_trip d reads) trips m a f in let p = get_unmapped (read_trip d reads) trips n b g in
      let q : o.0.column ≡ p.0.column = ap (λ (t : Trip). t.column) o.2 ∙ same ∙ sym (ap (λ (t : Trip). t.column) p.2) in
      rw (← o.2, ← p.2) (h.each m n o.0 p.0 l o.1 p.1 q));
})

pub used_read : (d outs : ℕ) (reads : Reads) (trips moved : List Trip) → moved ≡ map (read_trip d reads) trips → AreUsed outs trips → AreUsed outs moved
used_read d outs reads trips moved is h =
    rw is (record { each = λ q l. (let u = h.each q l in (u.0, read_trip d reads u.1, get_mapped (read_trip d reads) trips u.0 u.1 u.2, u.3)) })

fits_read : (count : ℕ) (cells : List SizedCell) (rst : ℕ) (reads : Reads) (ins places all : List NetId) (w due q : ℕ) (source : Source)
    → AreReads count cells rst reads ins places all → length ins ≡ length reads.rings.items → q < count
    → IsIn (length reads.rings.items) source → FitsColumn cells ins w source → FitsColumn cells all w (read_source reads due q source)
fits_read count cells rst reads ins places all w due q (Place k x) made long l inside h = by (is_read reads due k x q) refl
  where
    by : (b : Bool) → is_read reads due k x q ≡ b → FitsColumn cells all w (cond b (Place due (length reads.rings.items + q)) (Place k x))
    by true e =
        let a = asked reads due k x q e in
        let own = (made.each q l).words x a.from a.ring in
        let wide : own.width ≡ w = sym (net_width own.from) ∙ net_width h in
        rw (← long, ← wide) own.net
    by false e = let first : net_of all x ≡ net_of ins x = made.first x (omega (arith, long)) in rw first h
fits_read count cells rst reads ins places all w due q (Fixed v) made long l inside h = h

pub fitting_read : (period d outs : ℕ) (cells : List SizedCell) (rst : ℕ) (reads : Reads) (ins places all : List NetId) (widths : List ℕ)
    (trips moved : List Trip) → moved ≡ map (read_trip d reads) trips → length ins ≡ length reads.rings.items
    → AreReads outs cells rst reads ins places all → AreWithin period d (length reads.rings.items) outs trips → AreFitting cells ins widths trips
    → AreFitting cells all widths moved
fitting_read period d outs cells rst reads ins places all widths trips moved is long made inside h = rw is (record {
  low = h.low;
  high = h.high;
  fits = λ n w t f wide. (let o = get_unmapped (read_trip d reads) trips n t f in
      let wide_at = rw (← o.2) at wide in rw (← o.2) (fits_read outs cells rst reads ins places all w (o.0.clock + d) o.0.column o.0.source made long
      (inside.column n o.0 o.1) (inside.source n o.0 o.1) (h.fits n w o.0 o.1 wide_at)));
})

-- ---- the places

pub placed_trip : (d count n : ℕ) (reads : Reads) (trips places : List Trip) (p : Trip) → count ≡ length trips → ArePlaced count d reads trips places
    → slice_get places n ≡ Some p
    → (t : Trip) × (slice_get trips n ≡ Some t) × (w : ℕ) × (p ≡ placed t w) × (w < 2 ^ reads.bits)
placed_trip d count n reads trips places p all h f =
    let none : Trip = record { clock = 0; column = 0; source = Fixed 0 } in
    let l : n < length trips = (let m : n < length places = slice_get_within places n p f in omega (arith, h.long, all)) in
    let t : Trip = get_or trips n none in
    let there : slice_get trips n ≡ Some t = slice_get-get_or trips n none l in
    let e = h.each n t (omega (arith, all)) there in
    let same : Some p ≡ Some (placed t e.0) = sym f ∙ e.1 in
    let is : p ≡ placed t e.0 = cc in
    (t, there, e.0, is, e.2)

pub within_placed : (period d count ins outs : ℕ) (reads : Reads) (trips places : List Trip) → count ≡ length trips → ArePlaced count d reads trips places
    → AreWithin period d ins outs trips → AreWithin period d 0 outs places
within_placed period d count ins outs reads trips places all p h = record {
  clock = λ n t f. (let o = placed_trip d count n reads trips places t all p f in rw (o.3) (h.clock n o.0 o.1));
  column = λ n t f. (let o = placed_trip d count n reads trips places t all p f in rw (o.3) (h.column n o.0 o.1));
  reached = λ n t f. (let o = placed_trip d count n reads trips places t all p f in rw (o.3) tt);
  source = λ n t f. (let o = placed_trip d count n reads trips places t all p f in rw (o.3) tt);
}

pub order_placed : (d count : ℕ) (reads : Reads) (trips places : List Trip) → count ≡ length trips → ArePlaced count d reads trips places → AreInOrder trips
    → AreInOrder places
order_placed d count reads trips places all p h = record {
  each = λ m n a b l f g same. (let o = placed_trip d count m reads trips places a all p f in let u = placed_trip d count n reads trips places b all p g in
      let q : o.0.column ≡ u.0.column = sym (ap (λ (t : Trip). t.column) o.3) ∙ same ∙ ap (λ (t : Trip). t.column) u.3 in
      rw (o.3, u.3) (h.each m n o.0 u.0 l o.1 u.1 q));
}

pub used_placed : (d count outs : ℕ) (reads : Reads) (trips places : List Trip) → count ≡ length trips → ArePlaced count d reads trips places
    → AreUsed outs trips → AreUsed outs places
used_placed d count outs reads trips places all p h = record {
  each = λ q l. (let u = h.each q l in let e = p.each u.0 u.1 (let m = slice_get_within trips u.0 u.1 u.2 in omega (arith, all)) u.2 in
      (u.0, placed u.1 e.0, e.1, u.3));
}

-- ---- the words

word_read : (run : List Clock) (start bits x place y arrival d b period clock k w : ℕ) → ReadsPlaces run start bits x place y → k + 2 ≤ clock + d
    → w + (clock + d - k - 1) ≡ 2 ^ bits
    → ((c : ℕ) → arrival + d + b * period + clock ≡ c + 1 → start + c < length run → word_at run (start + c) place ≡ w)
    → start + (arrival + d + b * period + clock) < length run
    → word_at run (start + (arrival + b * period + (clock + d))) y ≡ word_at run (start + (arrival + b * period + k)) x
word_read run start bits x place y arrival d b period clock k w reads late short shows l =
    let c : ℕ = arrival + d + b * period + clock - 1 in
    let tap : ℕ = clock + d - k - 1 in
    let next : arrival + d + b * period + clock ≡ c + 1 = omega arith in
    let inside : start + (c + 1) < length run = omega arith in
    let shown : word_at run (start + c) place ≡ w = shows c next (omega arith) in
    let turn : word_at run (start + c) place + tap ≡ 2 ^ bits = rw shown short in
    let due : arrival + b * period + (clock + d) ≡ c + 1 = omega arith in
    let came : c - tap ≡ arrival + b * period + k = omega arith in
    ap (λ i. word_at run (start + i) y) due ∙ reads c tap (omega arith) (omega arith) (omega arith) inside turn ∙ ap (λ i. word_at run (start + i) x) came

source_read : (cells : List SizedCell) (rst period d arrival outs n : ℕ) (reads : Reads) (ins nets all : List NetId) (trips places : List Trip) (trip : Trip)
    (source : Source) → AreReads outs cells rst reads ins nets all → ArePlaced (length trips) d reads trips places
    → ShowsPlaces cells rst period d arrival nets places → length ins ≡ length reads.rings.items → slice_get trips n ≡ Some trip → trip.source ≡ source
    → IsIn (length reads.rings.items) source → trip.column < outs
    → (big : List SizedCell) → Extends cells big → (run : List Clock) → IsRun big run → (start : ℕ) → IsReset run rst start → (b : ℕ)
    → start + (arrival + d + b * period + trip.clock) < length run
    → sourced run start (arrival + b * period) all (read_source reads (trip.clock + d) trip.column source) ≡ sourced run start (arrival + b * period) ins source
source_read cells rst period d arrival outs n reads ins nets all trips places trip
    (Place k x) made p shows long f from inside below big e run is start reset b l =
    by (is_read reads (trip.clock + d) k x trip.column) refl
  where
    by : (t : Bool) → is_read reads (trip.clock + d) k x trip.column ≡ t
        → sourced run start (arrival + b * period) all (cond t (Place (trip.clock + d) (length reads.rings.items + trip.column)) (Place k x)) ≡ word_at run
        (start + (arrival + b * period + k)) (net_of ins x)
    by true on =
        let a = asked reads (trip.clock + d) k x trip.column on in
        let own = (made.each trip.column below).words x a.from a.ring in
        let there = p.each n trip (slice_get_within trips n trip f) f in
        let short = subst (λ (s : Source). IsPlaceOf reads trip.column (trip.clock + d) there.0 s) from there.3 on in
        rw (← long)
        (word_read run start reads.bits (net_of ins x) (net_of nets trip.column)
        (net_of all (length ins + trip.column)) arrival d b period trip.clock k there.0 (own.reads.words big e run is start reset) a.late short
        (λ c next less. shows big e run is start reset b n c there.0 (placed trip there.0) there.1 refl next less) l)
    by false off = ap (word_at run (start + (arrival + b * period + k))) (made.first x (omega (arith, long)))
source_read cells rst period d arrival outs n reads ins nets all trips places trip
    (Fixed w) made p shows long f from inside below big e run is start reset b l =
    refl

-- what makes the trips from what is read makes the trips
pub trips_read : (cells : List SizedCell) (rst period d arrival outs : ℕ) (reads : Reads) (ins nets all out : List NetId) (trips places moved : List Trip)
    → moved ≡ map (read_trip d reads) trips → length ins ≡ length reads.rings.items
    → AreReads outs cells rst reads ins nets all → ArePlaced (length trips) d reads trips places → ShowsPlaces cells rst period d arrival nets places
    → AreWithin period d (length reads.rings.items) outs trips → MakesTrips cells rst period d arrival all out moved
    → MakesTrips cells rst period d arrival ins out trips
trips_read cells rst period d arrival outs reads ins nets all out trips places moved moves long made p shows within makes =
    λ big e run is start reset b n trip y f g l.
    let there : slice_get moved n ≡ Some (read_trip d reads trip) = rw moves (get_mapped (read_trip d reads) trips n trip f) in
    makes big e run is start reset b n (read_trip d reads trip) y there g l
    ∙ source_read cells rst period d arrival outs n reads ins nets all trips places trip trip.source made p shows long f refl (within.source n trip f)
    (within.column n trip f) big e run is start reset b l

-- ---- places, one more at a time

pub below_push : (xs : List ℕ) (y m q : ℕ) → y < m → ((q : ℕ) → get_or xs q 0 < m) → get_or (xs ++ y ∷ []) q 0 < m
below_push [] y m zero l h = l
below_push [] y m (suc q) l h = h 0
below_push (x ∷ xs) y m zero l h = h 0
below_push (x ∷ xs) y m (suc q) l h = below_push xs y m q l (λ k. h (suc k))

pub placed_more : (count d w : ℕ) (reads : Reads) (trips places : List Trip) (t : Trip) → slice_get trips count ≡ Some t → w < 2 ^ reads.bits
    → IsPlaceOf reads t.column (t.clock + d) w t.source → ArePlaced count d reads trips places
    → ArePlaced (count + 1) d reads trips (places ++ placed t w ∷ [])
placed_more count d w reads trips places t there fits is h = record {
  long = length_push places (placed t w) ∙ ap (λ n. n + 1) h.long;
  each = λ n trip l f. elim (cases_eq n count) [
    | inl e ↦
        let at : slice_get trips count ≡ Some trip = rw (← e) f in
        let same : t ≡ trip = cc in
        let end : n ≡ length places = e ∙ sym h.long in
        rw (← same, end) (w, get_pushed places (placed t w), fits, is)
    | inr ne ↦ (let m = h.each n trip (omega arith) f in (m.0, get_left places (placed t w ∷ []) n (placed trip m.0) m.1, m.2, m.3))
  ];
}
