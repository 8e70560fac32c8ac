-- Words that stand at the sink and are not taken stay.
use Rattle.std.proofs.Common.{ℕ, ◌≡◌, ◌+◌, ◌-◌, ◌<◌, ◌≤◌, List, length, length-drop, drop, ◌≢◌, Bool, true, false, arith, refl, ap, sym, ◌∙◌}
use Rattle.std.specs.Prelude.{slice_get, unwrap_or, ◌&&◌}
use Rattle.std.proofs.lemmas.Bool.{eq-eqb, eqb-true, ne_eqb}
use Rattle.ae_netlist.proofs.OrElse.{or_drop}
use Rattle.ae_netlist.specs.Runs.{Clock, no_clock, word_at}
use Rattle.ae_stream.specs.Queue.{IsQueue, IsAfter, next_one, next_a}
use Rattle.ae_stream.specs.Streams.{Ends, Stays, bit, is_transfer}
use Rattle.ae_stream.specs.Control.{Control, queue_of, word_in}

-- the two things that do not change where one word stands and is not taken
stays_one : (one two push pop : Bool) → one ≡ true → pop ≡ false → next_one one two push pop ≡ true
stays_one true true push pop a b = refl
stays_one true false true pop a b = refl
stays_one true false false false a b = refl
stays_one true false false true a b = (let e : true ≡ false = b in absurd (grind (arith, e)))
stays_one false two push pop a b = (let e : false ≡ true = a in absurd (grind (arith, e)))

stays_a : (one two pop : Bool) (a b made : ℕ) → one ≡ true → pop ≡ false → next_a one two pop a b made ≡ a
stays_a true two false a b made e f = refl
stays_a true two true a b made e f = (let g : true ≡ false = f in absurd (grind (arith, g)))
stays_a false two pop a b made e f = (let g : false ≡ true = e in absurd (grind (arith, g)))

-- in the clock behind
pub record HasStayed (x : Control) (ends : Ends) (q : ℕ) (c next : Clock) : Type 0 where
  pub one : bit x.one next ≡ true
  pub word : word_in (ends.outs q) next ≡ word_in (ends.outs q) c

pub stayed : (x : Control) (ends : Ends) (q : ℕ) (run : List Clock) (start t : ℕ) → IsQueue (queue_of x ends q) (drop start run) no_clock → start ≤ t
    → t + 1 < length run
    → bit x.one (unwrap_or (slice_get run t) no_clock) ≡ true → is_transfer ends.sink (unwrap_or (slice_get run t) no_clock) ≡ false
    → HasStayed x ends q (unwrap_or (slice_get run t) no_clock) (unwrap_or (slice_get run (t + 1)) no_clock)
stayed x ends q run start t h from within stands left =
    let size : length (drop start run) ≡ length run - start = length-drop start run in
    let e : start + (t - start) ≡ t = omega (arith, from) in
    let f : start + (t - start + 1) ≡ t + 1 = omega (arith, from) in
    let here : unwrap_or (slice_get (drop start run) (t - start)) no_clock ≡ unwrap_or (slice_get run t) no_clock = or_drop start run (t - start) no_clock ∙
    ap (λ k. unwrap_or (slice_get run k) no_clock) e in
    let next : unwrap_or (slice_get (drop start run) (t - start + 1)) no_clock ≡ unwrap_or (slice_get run (t + 1)) no_clock = or_drop start run
    (t - start + 1) no_clock ∙
    ap (λ k. unwrap_or (slice_get run k) no_clock) f in
    let c : Clock = unwrap_or (slice_get run t) no_clock in
    let step : IsAfter (queue_of x ends q) (unwrap_or (slice_get (drop start run) (t - start)) no_clock)
    (unwrap_or (slice_get (drop start run) (t - start + 1)) no_clock) = h.after
    (t - start) (omega arith) in
    let turned : IsAfter (queue_of x ends q) c (unwrap_or (slice_get run (t + 1)) no_clock) = rw (here, next) at step in
    record {
      one = turned.one ∙ stays_one (bit x.one c) (bit x.two c) (bit x.enable c && bit x.shows c) (is_transfer ends.sink c) stands left;
      word = turned.a ∙ stays_a (bit x.one c) (bit x.two c) (is_transfer ends.sink c) (word_in (ends.outs q) c) (word_in (x.second q) c)
          (word_in (x.made q) c) stands left;
    }

-- each column is kept
module _ (x : Control) (ends : Ends) (run : List Clock) (start : ℕ) (any : 0 < ends.columns)
    (queue : (q : ℕ) → q < ends.columns → IsQueue (queue_of x ends q) (drop start run) no_clock) (shown : ends.sink.valid ≡ x.one) where
  not_taken : (t : ℕ) → word_at run t ends.sink.ready ≢ 1 → is_transfer ends.sink (unwrap_or (slice_get run t) no_clock) ≡ false
  unfolding word_at
  not_taken t ne = ap (λ b. bit ends.sink.valid (unwrap_or (slice_get run t) no_clock) && b) (ne_eqb (word_at run t ends.sink.ready) 1 ne) ∙
      off (bit ends.sink.valid (unwrap_or (slice_get run t) no_clock))
    where
      off : (b : Bool) → (b && false) ≡ false
      off true = refl
      off false = refl

  kept : (t q : ℕ) → q < ends.columns → start ≤ t → t + 1 < length run → word_at run t ends.sink.valid ≡ 1 → word_at run t ends.sink.ready ≢ 1
      → HasStayed x ends q (unwrap_or (slice_get run t) no_clock) (unwrap_or (slice_get run (t + 1)) no_clock)
  unfolding word_at
  kept t q l from within on ne =
      stayed x ends q run start t (queue q l) from within (eq-eqb (word_at run t x.one) 1 (ap (word_at run t) (sym shown) ∙ on)) (not_taken t ne)

  one_is : (t : ℕ) → bit x.one (unwrap_or (slice_get run t) no_clock) ≡ true → word_at run t x.one ≡ 1
  unfolding word_at
  one_is t e = eqb-true (word_at run t x.one) 1 e

  pub keeps : Stays ends ends.columns run start
  unfolding word_at
  keeps = record {
    valid = λ t from within on ne. ap (word_at run (t + 1)) shown ∙ one_is (t + 1) (kept t 0 any from within on ne).one;
    words = λ t q from within l on ne. (kept t q l from within on ne).word;
  }
