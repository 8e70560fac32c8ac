-- Where both ends always go, each clock is a step.
use Rattle.std.proofs.Common.{ℕ, zero, suc, ◌≡◌, ◌+◌, ◌-◌, ◌*◌, ◌/◌, ◌%◌, ◌<◌, ◌≤◌, inl, inr, List, length, drop, Bool, true, false, arith, refl, ap, sym, ◌∙◌}
use Rattle.std.specs.Prelude.{slice_get, unwrap_or, ◌&&◌, ◌||◌, nat_lt, not, if◌then◌else◌}
use Rattle.std.proofs.lemmas.Nat.{div-add-mod', mod-mul-add}
use Rattle.std.proofs.lemmas.Bool.{cases_lt, eq-eqb}
use Rattle.ae_sttype.specs.StTree.{StTree}
use Rattle.ae_netlist.specs.Runs.{Clock, no_clock}
use Rattle.ae_stream.specs.Passing.{carries}
use Rattle.ae_stream.specs.Queue.{next_one}
use Rattle.ae_stream.specs.Streams.{Ends, bit, is_beat}
use Rattle.ae_stream.specs.Control.{Control, is_real, later, steps}
use Rattle.ae_stream.specs.Gates.{Gates, may_go}
use Rattle.ae_stream.specs.Driven.{IsDriven, Row}
use Rattle.ae_stream.proofs.Driving.{driven}
use Rattle.ae_stream.proofs.Stepping.{by_step, counts_on, fair, is_on, pop_is, room, step_at, stepped}

offered : (first busy takes current : Bool) → may_go first true busy takes current ≡ true
offered true busy takes current = refl
offered false busy true true = refl
offered false busy true false = refl
offered false busy false current = refl

pub none_second : (one two : Bool) → (two ≡ true → one ≡ true) → one ≡ false → two ≡ false
none_second one false f e = refl
none_second one true f e = (let b : true ≡ false = sym (f refl) ∙ e in absurd (grind (arith, b)))

stays_here : (first valid current : Bool) → valid ≡ true → current ≡ true → (if first then valid else current) ≡ true
stays_here true valid current a b = a
stays_here false valid current a b = b

pub or_true : (a : Bool) → (a || true) ≡ true
or_true true = refl
or_true false = refl

only_pushed : (one push : Bool) → next_one one false push (one && true) ≡ push
only_pushed true true = refl
only_pushed true false = refl
only_pushed false true = refl
only_pushed false false = refl

and_true : (a b : Bool) → b ≡ true → (a && b) ≡ a
and_true true b e = e
and_true false b e = refl

module _ (x : Control) (g : Gates) (row : Row) (ends : Ends) (run : List Clock) (start slowdown q r : ℕ) (inputs outputs : List StTree)
    (h : IsDriven x g row ends run start slowdown q r inputs outputs) (shown : ends.sink.valid ≡ x.one)
    (some : 0 < slowdown) (small : r < slowdown) (upto : ℕ) (within : upto < length (drop start run))
    (offers : (u : ℕ) → u < upto → bit ends.source.valid (unwrap_or (slice_get (drop start run) u) no_clock) ≡ true)
    (takes : (u : ℕ) → u < upto → bit ends.sink.ready (unwrap_or (slice_get (drop start run) u) no_clock) ≡ true) where
  free : (t : ℕ) → t ≤ upto → bit x.two (unwrap_or (slice_get (drop start run) t) no_clock) ≡ false
  free zero l = none_second (bit x.one (unwrap_or (slice_get (drop start run) 0) no_clock)) (bit x.two (unwrap_or (slice_get (drop start run) 0) no_clock))
      (fair x g row ends run start slowdown q r inputs outputs h shown 0 (omega arith)).second (h.empty (omega arith))
  free (suc t) l = (let e : suc t ≡ t + 1 = omega arith in ap (λ k. bit x.two (unwrap_or (slice_get (drop start run) k) no_clock)) e ∙
      room x g row ends run start slowdown q r inputs outputs h shown t (omega arith) (takes t (omega arith)))

  on : (t : ℕ) → t < upto → bit x.enable (unwrap_or (slice_get (drop start run) t) no_clock) ≡ true
  on t l =
      let c : Clock = unwrap_or (slice_get (drop start run) t) no_clock in
      is_on x g row ends run start slowdown q r inputs outputs h shown t (omega arith) (free t (omega (arith, l)))
      (ap (λ v. may_go (bit g.first c) v (bit g.busy c) (bit x.takes c) (bit g.current c)) (offers t l) ∙
      offered (bit g.first c) (bit g.busy c) (bit x.takes c) (bit g.current c))

  number : (t : ℕ) → t ≤ upto → stepped x g row ends run start slowdown q r inputs outputs h shown t ≡ t
  number t l =
      let e : 0 + t ≡ t = omega arith in
      ap (stepped x g row ends run start slowdown q r inputs outputs h shown) (sym e) ∙
      (counts_on x g row ends run start slowdown q r inputs outputs h shown 0 upto (λ u a b. on u (omega arith)) t l ∙ e)

  -- what the steps have by their number, each clock has
  each : (pass : Clock → Bool) (says : ℕ → Bool) → ((t : ℕ) → t < length (steps x start run)
      → pass (unwrap_or (slice_get (steps x start run) t) no_clock) ≡ says t) → (t : ℕ)
      → t < upto → pass (unwrap_or (slice_get (drop start run) t) no_clock) ≡ says t
  each pass says h' t l = by_step x g row ends run start slowdown q r inputs outputs h shown pass says h' t (omega arith) (on t l) ∙
      ap says (number t (omega (arith, l)))

  begins : bit g.first (unwrap_or (slice_get (drop start run) 0) no_clock) ≡ true
  begins =
      let z : 0 % slowdown ≡ 0 = (let e : 0 * slowdown + 0 ≡ 0 = omega arith in ap (λ k. k % slowdown) (sym e) ∙ mod-mul-add 0 slowdown 0 some) in
      h.first 0 (omega (arith, within)) ∙ eq-eqb (0 % slowdown) 0 z

  -- behind a clock in which the block is real
  goes_on : (t : ℕ) → t < upto → bit x.here (unwrap_or (slice_get (drop start run) t) no_clock) ≡ true
      → bit g.current (unwrap_or (slice_get (drop start run) (suc t)) no_clock) ≡ true
  goes_on t l is =
      let before : Clock = unwrap_or (slice_get (drop start run) t) no_clock in
      let e : suc t ≡ t + 1 = omega arith in
      ap (λ k. bit g.current (unwrap_or (slice_get (drop start run) k) no_clock)) e ∙
      (h.current.each t (omega (arith, l, within)) ∙ (ap (λ v. if v then bit x.here before else bit g.current before) (on t l) ∙ is))

  here : (t : ℕ) → t < upto → bit x.here (unwrap_or (slice_get (drop start run) t) no_clock) ≡ true
  here zero l = (h.gates 0 (omega (arith, within))).here ∙
      (λ i. if begins i then offers 0 l i else bit g.current (unwrap_or (slice_get (drop start run) 0) no_clock))
  here (suc t) l =
      let c : Clock = unwrap_or (slice_get (drop start run) (suc t)) no_clock in
      (h.gates (suc t) (omega (arith, l, within))).here
      ∙ stays_here (bit g.first c) (bit ends.source.valid c) (bit g.current c) (offers (suc t) l) (goes_on t (omega (arith, l)) (here t (omega (arith, l))))

  -- a block begins or goes on
  either : (t : ℕ) → t ≤ upto → (bit g.first (unwrap_or (slice_get (drop start run) t) no_clock) || bit g.current
      (unwrap_or (slice_get (drop start run) t) no_clock)) ≡ true
  either zero l = ap (λ v. v || bit g.current (unwrap_or (slice_get (drop start run) 0) no_clock)) begins
  either (suc t) l = ap (λ v. bit g.first (unwrap_or (slice_get (drop start run) (suc t)) no_clock) || v)
      (goes_on t (omega (arith, l)) (here t (omega (arith, l)))) ∙
      or_true (bit g.first (unwrap_or (slice_get (drop start run) (suc t)) no_clock))

  real : (b : ℕ) → b * slowdown < upto → is_real x start slowdown run b ≡ true
  unfolding is_real
  real b l =
      let s = step_at x g row ends run start slowdown q r inputs outputs h shown (b * slowdown) (omega (arith, l, within)) (on (b * slowdown) l) in
      ap (λ k. bit x.here (unwrap_or (slice_get (steps x start run) k) no_clock)) (sym (number (b * slowdown) (omega (arith, l)))) ∙
      (ap (bit x.here) s.1 ∙ here (b * slowdown) l)

  pub source_in_step : bit ends.source.ready (unwrap_or (slice_get (drop start run) upto) no_clock) ≡ is_beat inputs (upto % slowdown)
  source_in_step =
      let c : Clock = unwrap_or (slice_get (drop start run) upto) no_clock in
      let last : upto ≤ upto = omega arith in
      (h.gates upto within).ready
      ∙ (ap (λ v. not v && (bit x.takes c && (bit g.first c || bit g.current c))) (free upto last)
      ∙ (and_true (bit x.takes c) (bit g.first c || bit g.current c) (either upto last)
      ∙ (h.takes upto within ∙ ap (λ n. is_beat inputs (n % slowdown)) (number upto last))))

  -- a clock later
  next_in_step : (t : ℕ) → t < upto → bit ends.sink.valid
      (unwrap_or (slice_get (drop start run) (t + 1)) no_clock) ≡ (not (nat_lt t (q * slowdown + r)) && is_beat outputs ((t - (q * slowdown + r)) % slowdown))
  next_in_step t l =
      let c : Clock = unwrap_or (slice_get (drop start run) t) no_clock in
      let next : Clock = unwrap_or (slice_get (drop start run) (t + 1)) no_clock in
      let latency : ℕ = q * slowdown + r in
      let cut : (t - latency) / slowdown * slowdown + (t - latency) % slowdown ≡ t - latency = div-add-mod' (t - latency) slowdown in
      let yes : is_real x start slowdown run ((t - latency) / slowdown) ≡ true = real ((t - latency) / slowdown) (omega (arith, cut, l)) in
      let push : (bit x.enable c && bit x.shows c) ≡ bit x.shows c = ap (λ v. v && bit x.shows c) (on t l) in
      let told : bit x.shows c ≡ later latency (carries (is_beat outputs) (is_real x start slowdown run) slowdown) t =
      each (bit x.shows) (later latency (carries (is_beat outputs) (is_real x start slowdown run) slowdown))
      (driven x g row ends run start slowdown q r inputs outputs some small h).shows t l in
      ap (λ k. bit k next) shown
      ∙ (((h.queue 0 h.any).after t (omega (arith, l, within))).one
      ∙ ((λ i. next_one (bit x.one c) (free t (omega (arith, l)) i) (bit x.enable c && bit x.shows c)
      (pop_is x g row ends run start slowdown q r inputs outputs h shown t (takes t l) i))
      ∙ (only_pushed (bit x.one c) (bit x.enable c && bit x.shows c)
      ∙ (push ∙ (told ∙ ap (λ v. not (nat_lt t latency) && v)
      (and_true (is_beat outputs ((t - latency) % slowdown)) (is_real x start slowdown run ((t - latency) / slowdown)) yes))))))

  pub sink_in_step : bit ends.sink.valid (unwrap_or (slice_get (drop start run) upto) no_clock) ≡ (nat_lt (q * slowdown + r) upto && is_beat outputs
      ((upto - (q * slowdown + r + 1)) % slowdown))
  sink_in_step = elim (cases_lt 0 upto) [
    | inl more ↦
        let latency : ℕ = q * slowdown + r in
        let e : upto - 1 + 1 ≡ upto = omega (arith, more) in
        let f : upto - 1 - latency ≡ upto - (latency + 1) = omega arith in
        ap (λ k. bit ends.sink.valid (unwrap_or (slice_get (drop start run) k) no_clock)) (sym e)
        ∙ (next_in_step (upto - 1) (omega (arith, more)) ∙ (λ i. before_is latency upto more i && is_beat outputs (f i % slowdown)))
    | inr none ↦
        let z : upto ≡ 0 = omega (arith, none) in
        let low : nat_lt (q * slowdown + r) upto ≡ false = at_none (q * slowdown + r) upto z in
        ap (λ k. bit k (unwrap_or (slice_get (drop start run) upto) no_clock)) shown
        ∙ (ap (λ k. bit x.one (unwrap_or (slice_get (drop start run) k) no_clock)) z ∙
        (h.empty (omega (arith, within)) ∙ sym (ap (λ v. v && is_beat outputs ((upto - (q * slowdown + r + 1)) % slowdown)) low)))
  ]
    where
      at_none : (a b : ℕ) → b ≡ 0 → nat_lt a b ≡ false
      at_none a b z = step (nat_lt a b) refl
        where
          step : (v : Bool) → nat_lt a b ≡ v → v ≡ false
          step false e = refl
          step true e = absurd (grind (arith, e, z))

      before_is : (a b : ℕ) → 0 < b → not (nat_lt (b - 1) a) ≡ nat_lt a b
      before_is a b l = step (nat_lt (b - 1) a) (nat_lt a b) refl refl
        where
          step : (v w : Bool) → nat_lt (b - 1) a ≡ v → nat_lt a b ≡ w → not v ≡ w
          step true false e f = refl
          step false true e f = refl
          step true true e f = absurd (grind (arith, e, f, l))
          step false false e f = absurd (grind (arith, e, f, l))
