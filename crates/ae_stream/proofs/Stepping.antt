-- Which clocks behind the reset are steps of the circuit, and how many steps are before them.
use Rattle.std.proofs.Common.{ℕ, zero, suc, ◌≡◌, ◌+◌, ◌-◌, ◌*◌, ◌/◌, ◌%◌, ◌<◌, ◌≤◌, ◌⊎◌, inl, inr, List, length, drop, Bool, true, false, arith, refl, ap, sym, ◌∙◌}
use Rattle.std.specs.Prelude.{slice_get, unwrap_or, ◌&&◌, ◌||◌, not}
use Rattle.std.proofs.lemmas.Bool.{cases_lt, eq-eqb}
use Rattle.std.proofs.lemmas.Nat.{div-add-mod', mod-mul-add, mod_below}
use Rattle.ae_sttype.specs.StTree.{StTree}
use Rattle.ae_netlist.specs.Runs.{Clock, no_clock}
use Rattle.ae_stream.specs.Passing.{one_if}
use Rattle.ae_stream.specs.Queue.{IsAfter, IsFair, next_two}
use Rattle.ae_stream.specs.Streams.{Ends, bit, is_transfer}
use Rattle.ae_stream.specs.Control.{Control, queue_of, steps, steps_before}
use Rattle.ae_stream.specs.Gates.{Gates, HasGates, may_go}
use Rattle.ae_stream.specs.Driven.{IsDriven, Row}
use Rattle.ae_stream.proofs.Filters.{passed_at}

-- behind a clock in which the words at the sink are taken, no two stand there
no_second : (one two push : Bool) → (two ≡ true → one ≡ true) → next_two one two push (one && true) ≡ false
no_second true true true f = refl
no_second true true false f = refl
no_second true false true f = refl
no_second true false false f = refl
no_second false true push f = (let e : false ≡ true = f refl in absurd (grind (arith, e)))
no_second false false push f = refl

-- a clock in which the source is not asked, and in which there is room, is a step
goes_on : (first valid busy takes current : Bool) → (first ≡ true → takes ≡ true) → (takes && (first || current)) ≡ false
    → may_go first valid busy takes current ≡ true
goes_on true valid busy true current b e = (let f : true ≡ false = e in absurd (grind (arith, f)))
goes_on true valid busy false current b e = (let f : false ≡ true = b refl in absurd (grind (arith, f)))
goes_on false valid busy true true b e = (let f : true ≡ false = e in absurd (grind (arith, f)))
goes_on false valid busy true false b e = refl
goes_on false valid busy false current b e = refl

-- one in a row of numbers is a multiple
pub some_multiple : (slowdown n : ℕ) → 0 < slowdown → (i : ℕ) × (i < slowdown) × ((n + i) % slowdown ≡ 0)
some_multiple slowdown n some =
    let low : n % slowdown < slowdown = mod_below n slowdown some in
    let cut : n / slowdown * slowdown + n % slowdown ≡ n = div-add-mod' n slowdown in
    elim (cases_lt 0 (n % slowdown)) [
      | inl more ↦
          let next : (n / slowdown + 1) * slowdown ≡ n / slowdown * slowdown + slowdown = omega arith in
          let e : n + (slowdown - n % slowdown) ≡ (n / slowdown + 1) * slowdown + 0 = omega arith in
          (slowdown - n % slowdown, omega arith, ap (λ k. k % slowdown) e ∙ mod-mul-add (n / slowdown + 1) slowdown 0 some)
      | inr none ↦ (0, some, (let e : n + 0 ≡ n = omega arith in ap (λ k. k % slowdown) e ∙ omega (arith, none)))
    ]

-- some number of a row passes, or none does
pub record IsAmong (p : ℕ → Bool) (from count : ℕ) : Type 0 where
  pub at : ℕ
  pub low : from ≤ at
  pub high : at < from + count
  pub passes : p at ≡ true

pub one_or_none : (p : ℕ → Bool) (from count : ℕ) → IsAmong p from count ⊎ ((u : ℕ) → from ≤ u → u < from + count → p u ≡ false)
one_or_none p from zero = inr (λ u a b. absurd (omega arith))
one_or_none p from (suc count) = elim (one_or_none p from count) [
  | inl h ↦ inl (record { at = h.at; low = h.low; high = (let b = h.high in omega arith); passes = h.passes })
  | inr none ↦ last (p (from + count)) refl none
]
  where
    last : (v : Bool) → p (from + count) ≡ v → ((u : ℕ) → from ≤ u → u < from + count → p u ≡ false) → IsAmong p from (suc count)
        ⊎ ((u : ℕ) → from ≤ u → u < from + suc count → p u ≡ false)
    last true e none = inl (record { at = from + count; low = omega arith; high = omega arith; passes = e })
    last false e none = inr (λ u a b. elim (cases_lt u (from + count)) [
      | inl l ↦ none u a l
      | inr g ↦ (let same : u ≡ from + count = omega arith in ap p same ∙ e)
    ])

module _ (x : Control) (g : Gates) (row : Row) (ends : Ends) (run : List Clock) (start slowdown q r : ℕ) (inputs outputs : List StTree)
    (h : IsDriven x g row ends run start slowdown q r inputs outputs) (shown : ends.sink.valid ≡ x.one) where
  abbrev pub rest : List Clock
  rest = drop start run

  abbrev pub at : ℕ → Clock
  at t = unwrap_or (slice_get rest t) no_clock

  abbrev pub goes : ℕ → Bool
  goes t = bit x.enable (at t)

  -- so many steps are before a clock
  abbrev pub stepped : ℕ → ℕ
  stepped t = steps_before x start run t

  -- a step stands among the steps behind those before it
  pub step_at : (t : ℕ) → t < length rest → goes t ≡ true → (stepped t < length (steps x start run))
      × (unwrap_or (slice_get (steps x start run) (stepped t)) no_clock ≡ at t)
  unfolding steps
  step_at t l y = passed_at (bit x.enable) goes rest no_clock (λ k b. refl) t l y

  -- what the steps have by their number, each has
  pub by_step : (pass : Clock → Bool) (number : ℕ → Bool)
      → ((t : ℕ) → t < length (steps x start run) → pass (unwrap_or (slice_get (steps x start run) t) no_clock) ≡ number t) → (t : ℕ) → t < length rest
      → goes t ≡ true
      → pass (at t) ≡ number (stepped t)
  by_step pass number each t l y = (let s = step_at t l y in ap pass (sym s.1) ∙ each (stepped t) s.0)

  pub fair : (t : ℕ) → t < length rest → IsFair (bit x.one (at t)) (bit x.two (at t)) (bit x.enable (at t) && bit x.shows (at t)) (is_transfer ends.sink (at t))
  fair t l = (h.queue 0 h.any).fair t l

  pub pop_is : (t : ℕ) → bit ends.sink.ready (at t) ≡ true → is_transfer ends.sink (at t) ≡ (bit x.one (at t) && true)
  pop_is t y = (λ i. bit (shown i) (at t) && y i)

  -- there is room behind a clock in which the sink takes
  pub room : (t : ℕ) → t + 1 < length rest → bit ends.sink.ready (at t) ≡ true → bit x.two (at (t + 1)) ≡ false
  room t l y =
      let c : Clock = at t in
      let next : IsAfter (queue_of x ends 0) c (at (t + 1)) = (h.queue 0 h.any).after t l in
      next.two
      ∙ (ap (next_two (bit x.one c) (bit x.two c) (bit x.enable c && bit x.shows c)) (pop_is t y)
      ∙ no_second (bit x.one c) (bit x.two c) (bit x.enable c && bit x.shows c) (fair t (omega arith)).second)

  pub is_on : (t : ℕ) → t < length rest → bit x.two (at t) ≡ false
      → may_go (bit g.first (at t)) (bit ends.source.valid (at t)) (bit g.busy (at t)) (bit x.takes (at t)) (bit g.current (at t)) ≡ true → goes t ≡ true
  is_on t l two may = (h.gates t l).enable ∙ (λ i. h.low t l i || (not (two i) && may i))

  -- where there is room, and the source is not asked, the circuit steps
  pub steps_unasked : (t : ℕ) → t < length rest → bit x.two (at t) ≡ false → bit ends.source.ready (at t) ≡ false → goes t ≡ true
  steps_unasked t l two off =
      let c : Clock = at t in
      let gates : HasGates x g ends c = h.gates t l in
      let none : (bit x.takes c && (bit g.first c || bit g.current c)) ≡ false = (λ i. not
      (sym two i) && (bit x.takes c && (bit g.first c || bit g.current c))) ∙ (sym gates.ready ∙ off) in
      is_on t l two (goes_on (bit g.first c) (bit ends.source.valid c) (bit g.busy c) (bit x.takes c) (bit g.current c) gates.begins none)

  -- a step of a number that begins a block asks
  pub asks_first : (t : ℕ) → t < length rest → bit x.two (at t) ≡ false → goes t ≡ true → stepped t % slowdown ≡ 0 → bit ends.source.ready (at t) ≡ true
  asks_first t l two y z =
      let c : Clock = at t in
      let gates : HasGates x g ends c = h.gates t l in
      let first : bit g.first c ≡ true = h.first t l ∙ eq-eqb (stepped t % slowdown) 0 z in
      gates.ready ∙ (λ i. not (two i) && (gates.begins first i && (first i || bit g.current c)))

  -- steps in a row count on
  pub counts_on : (t n : ℕ) → ((u : ℕ) → t ≤ u → u < t + n → goes u ≡ true) → (i : ℕ) → i ≤ n → stepped (t + i) ≡ stepped t + i
  counts_on t n on zero l = (let e : t + 0 ≡ t = omega arith in ap stepped e ∙ omega arith)
  counts_on t n on (suc i) l =
      let e : t + suc i ≡ suc (t + i) = omega arith in
      let before : stepped (t + i) ≡ stepped t + i = counts_on t n on i (omega arith) in
      let one : one_if (goes (t + i)) ≡ 1 = ap one_if (on (t + i) (omega arith) (omega arith)) in
      ap stepped e ∙ omega (arith, before, one)

  -- behind a clock in which the sink takes the source is asked in one of so many clocks as a block has, if the sink takes in these
  pub asked : 0 < slowdown → (t : ℕ) → t + slowdown < length rest → ((u : ℕ) → t ≤ u → u < t + slowdown → bit ends.sink.ready (at u) ≡ true)
      → IsAmong (λ u. bit ends.source.ready (at u)) (t + 1) slowdown
  asked some t l takes = elim (one_or_none (λ u. bit ends.source.ready (at u)) (t + 1) slowdown) [
    | inl found ↦ found
    | inr none ↦
        let free : (u : ℕ) → t + 1 ≤ u → u < t + 1 + slowdown → bit x.two (at u) ≡ false = λ u a b.
        let e : u - 1 + 1 ≡ u = omega arith in
        ap (λ k. bit x.two (at k)) (sym e) ∙ room (u - 1) (omega arith) (takes (u - 1) (omega arith) (omega arith)) in
        let on : (u : ℕ) → t + 1 ≤ u → u < t + 1 + slowdown → goes u ≡ true = λ u a b. steps_unasked u (omega arith) (free u a b) (none u a b) in
        let m = some_multiple slowdown (stepped (t + 1)) some in
        let u : ℕ = t + 1 + m.0 in
        let low : m.0 < slowdown = m.1 in
        let number : stepped u % slowdown ≡ 0 = ap (λ k. k % slowdown) (counts_on (t + 1) slowdown on m.0 (omega arith)) ∙ m.2 in
        let yes : bit ends.source.ready (at u) ≡ true = asks_first u (omega arith) (free u (omega arith) (omega arith))
        (on u (omega arith) (omega arith)) number in
        let bad : true ≡ false = sym yes ∙ none u (omega arith) (omega arith) in
        absurd (grind (arith, bad))
  ]
