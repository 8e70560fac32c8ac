-- Results of whole blocks come out where the sink takes and the source does not stop inside a block.
use Rattle.std.proofs.Common.{ℕ, zero, suc, ◌≡◌, ◌+◌, ◌-◌, ◌*◌, ◌/◌, ◌%◌, ◌<◌, ◌≤◌, inl, inr, List, length, drop, Bool, true, false, arith, refl, ap, sym, ◌∙◌, subst}
use Rattle.std.specs.Prelude.{slice_get, unwrap_or, ◌&&◌, ◌||◌, ◌==◌, not, if◌then◌else◌}
use Rattle.std.proofs.lemmas.Bool.{cases_lt, eq-eqb, eqb-true}
use Rattle.std.proofs.lemmas.Nat.{div-add-mod', div-mul-add, mod-mul-add, mod_below}
use Rattle.ae_sttype.specs.StTree.{StTree}
use Rattle.ae_netlist.specs.Runs.{Clock, no_clock}
use Rattle.ae_stream.specs.Passing.{carries, one_if, passing}
use Rattle.ae_stream.specs.Queue.{IsAfter, next_one, next_two}
use Rattle.ae_stream.specs.Streams.{Ends, bit, is_beat, is_transfer}
use Rattle.ae_stream.specs.Control.{Control, IsControlled, is_real, later, queue_of, steps, steps_before}
use Rattle.ae_stream.specs.Gates.{Gates, may_go}
use Rattle.ae_stream.specs.Driven.{IsDriven, Row, next_flag}
use Rattle.ae_stream.proofs.Balance.{and_if, counted, moved, none_between, product_le, whole_results}
use Rattle.ae_stream.proofs.Counting.{before_clock}
use Rattle.ae_stream.proofs.Driving.{driven}
use Rattle.ae_stream.proofs.Flags.{reached, reached_off, reached_on, reached_suc}
use Rattle.ae_stream.proofs.Numbers.{passing_later, passing_le, passing_lt}
use Rattle.ae_stream.proofs.Rate.{none_second}
use Rattle.ae_stream.proofs.Stepping.{by_step, counts_on, fair, one_or_none, pop_is, room, step_at}
use Rattle.ae_stream.proofs.Taking.{here_is, taken_by_number}
use Rattle.ae_seq.proofs.Judging.{left as and_left, right as and_right}

and_same : (a : Bool) → one_if (a && true) ≡ one_if a
and_same true = refl
and_same false = refl

not_true : (a : Bool) → (a ≡ true → ⊥) → a ≡ false
not_true true f = absurd (f refl)
not_true false f = refl

-- a clock with room that is no step: none is to come in the first clock of a block, or words are wanted inside one; and none are there
pub record IsStill (begins valid busy wants inside : Bool) : Type 0 where
  pub quiet : begins ≡ true → busy ≡ false
  pub wanted : begins ≡ false → wants ≡ true
  pub real : begins ≡ false → inside ≡ true
  pub empty : valid ≡ false

still : (first valid busy takes current : Bool) → may_go first valid busy takes current ≡ false → IsStill first valid busy takes current
still true true busy takes current e = absurd (grind (arith, e))
still true false busy takes current e = record { quiet = λ f. e; wanted = λ f. absurd (grind (arith, f)); real = λ f. absurd (grind (arith, f)); empty = refl }
still false valid busy false current e = absurd (grind (arith, e))
still false valid busy true false e = absurd (grind (arith, e))
still false true busy true true e = absurd (grind (arith, e))
still false false busy true true e = record { quiet = λ f. absurd (grind (arith, f)); wanted = λ f. refl; real = λ f. refl; empty = refl }

module _ (x : Control) (g : Gates) (row : Row) (ends : Ends) (run : List Clock) (start slowdown q r : ℕ) (inputs outputs : List StTree)
    (h : IsDriven x g row ends run start slowdown q r inputs outputs) (shown : ends.sink.valid ≡ x.one)
    (some : 0 < slowdown) (small : r < slowdown) (beat : is_beat inputs 0 ≡ true) where
  abbrev rest : List Clock
  rest = drop start run

  abbrev at : ℕ → Clock
  at t = unwrap_or (slice_get rest t) no_clock

  abbrev goes : ℕ → Bool
  goes t = bit x.enable (at t)

  abbrev stepped : ℕ → ℕ
  stepped t = steps_before x start run t

  abbrev latency : ℕ
  latency = q * slowdown + r

  abbrev real : ℕ → Bool
  real b = is_real x start slowdown run b

  abbrev ins : ℕ → Bool
  ins = carries (is_beat inputs) real slowdown

  abbrev outs : ℕ → Bool
  outs = carries (is_beat outputs) real slowdown

  control : IsControlled x ends run start slowdown (q * slowdown + r) inputs outputs
  control = driven x g row ends run start slowdown q r inputs outputs some small h

  cut : (n : ℕ) → n / slowdown * slowdown + n % slowdown ≡ n
  cut n = div-add-mod' n slowdown

  low : (n : ℕ) → n % slowdown < slowdown
  low n = mod_below n slowdown some

  -- ---- counts

  pub taken_is : (u : ℕ) → u ≤ length rest → passing (λ k. is_transfer ends.source (at k)) u ≡ passing ins (stepped u)
  taken_is u within = counted (λ k. is_transfer ends.source (at k)) goes ins u (λ t l. control.asks t (omega (arith, l, within))
      ∙ and_if (goes t) (bit x.takes (at t) && bit x.here (at t)) (ins (stepped t))
      (λ y. by_step x g row ends run start slowdown q r inputs outputs h shown (λ c. bit x.takes c && bit x.here c) ins
      (taken_by_number x ends run start slowdown (q * slowdown + r) inputs outputs control some) t (omega (arith, l, within)) y))

  put_is : (u : ℕ) → u ≤ length rest → passing (λ k. bit x.enable (at k) && bit x.shows (at k)) u ≡ passing (later latency outs) (stepped u)
  put_is u within = counted (λ k. bit x.enable (at k) && bit x.shows (at k)) goes (later latency outs) u (λ t l.
      and_if (goes t) (bit x.shows (at t)) (later latency outs (stepped t))
      (λ y. by_step x g row ends run start slowdown q r inputs outputs h shown (bit x.shows) (later latency outs) control.shows t
      (omega (arith, l, within)) y))

  abbrev pops : ℕ → Bool
  pops k = is_transfer ends.sink (at k)

  abbrev puts : ℕ → Bool
  puts k = bit x.enable (at k) && bit x.shows (at k)

  balanced : (t : ℕ) → t < length rest → passing pops t + (one_if (bit x.one (at t)) + one_if (bit x.two (at t))) ≡ passing puts t
  balanced zero l =
      let one : bit x.one (at 0) ≡ false = h.empty (omega (arith, l)) in
      let two : bit x.two (at 0) ≡ false = none_second (bit x.one (at 0)) (bit x.two (at 0))
      (fair x g row ends run start slowdown q r inputs outputs h shown 0 l).second one in
      rw (one, two) refl
  balanced (suc t) l =
      let e : suc t ≡ t + 1 = omega arith in
      let before : passing pops t + (one_if (bit x.one (at t)) + one_if (bit x.two (at t))) ≡ passing puts t = balanced t (omega (arith, l)) in
      let next : IsAfter (queue_of x ends 0) (at t) (at (t + 1)) = (h.queue 0 h.any).after t (omega (arith, l)) in
      let one : one_if (bit x.one (at (suc t))) ≡ one_if (next_one (bit x.one (at t)) (bit x.two (at t)) (puts t) (pops t)) = ap
      (λ k. one_if (bit x.one (at k))) e ∙ ap one_if next.one in
      let two : one_if (bit x.two (at (suc t))) ≡ one_if (next_two (bit x.one (at t)) (bit x.two (at t)) (puts t) (pops t)) = ap
      (λ k. one_if (bit x.two (at k))) e ∙ ap one_if next.two in
      let step = moved (bit x.one (at t)) (bit x.two (at t)) (puts t) (pops t)
      (fair x g row ends run start slowdown q r inputs outputs h shown t (omega (arith, l))) in
      omega (arith, before, one, two, step)

  -- where there is room and the sink takes, all that was put in comes out
  pub given_is : (u : ℕ) → u < length rest → bit x.two (at u) ≡ false → bit ends.sink.ready (at u) ≡ true
      → passing pops (suc u) ≡ passing (later latency outs) (stepped u)
  given_is u l two takes =
      let pop : one_if (pops u) ≡ one_if (bit x.one (at u)) = ap one_if (pop_is x g row ends run start slowdown q r inputs outputs h shown u takes) ∙
      and_same (bit x.one (at u)) in
      let none : one_if (bit x.two (at u)) ≡ 0 = ap one_if two in
      let all : passing puts u ≡ passing (later latency outs) (stepped u) = put_is u (omega (arith, l)) in
      omega (arith, balanced u l, pop, none) ∙ all

  -- ---- flags, in each clock

  here_at : (t : ℕ) → t < length rest → goes t ≡ true → bit x.here (at t) ≡ real (stepped t / slowdown)
  here_at t l y =
      let s = step_at x g row ends run start slowdown q r inputs outputs h shown t l y in
      let e : stepped t / slowdown * slowdown + stepped t % slowdown ≡ stepped t = cut (stepped t) in
      sym (ap (bit x.here) s.1) ∙ (ap (λ k. bit x.here (unwrap_or (slice_get (steps x start run) k) no_clock)) (sym e)
      ∙ here_is x ends run start slowdown (q * slowdown + r) inputs outputs control (stepped t / slowdown) (stepped t % slowdown) (low (stepped t)) (rw e s.0))

  next_block : (n : ℕ) → n % slowdown ≡ slowdown - 1 → suc n / slowdown ≡ suc (n / slowdown)
  next_block n e =
      let wide : suc (n / slowdown) * slowdown ≡ n / slowdown * slowdown + slowdown = omega arith in
      let is : suc n ≡ suc (n / slowdown) * slowdown + 0 = omega (arith, wide, e, cut n, some) in
      ap (λ k. k / slowdown) is ∙ div-mul-add (suc (n / slowdown)) slowdown 0 some

  same_block : (n : ℕ) → n % slowdown < slowdown - 1 → suc n / slowdown ≡ n / slowdown
  same_block n e =
      let is : suc n ≡ n / slowdown * slowdown + suc (n % slowdown) = omega (arith, cut n) in
      ap (λ k. k / slowdown) is ∙ div-mul-add (n / slowdown) slowdown (suc (n % slowdown)) (omega (arith, e))

  one_step : (t : ℕ) → goes t ≡ true → stepped (suc t) ≡ suc (stepped t)
  one_step t y = (let e : one_if (goes t) ≡ 1 = ap one_if y in omega (arith, e))

  no_step : (t : ℕ) → goes t ≡ false → stepped (suc t) ≡ stepped t
  no_step t y = (let e : one_if (goes t) ≡ 0 = ap one_if y in omega (arith, e))

  flag_step : (t : ℕ) → suc t < length rest → ((i : ℕ) → i ≤ q → bit (row.flag (suc i)) (at t) ≡ reached real (suc i) (stepped t / slowdown)) → (j : ℕ) → j ≤ q
      → bit (row.flag (suc j)) (at (suc t)) ≡ reached real (suc j) (stepped (suc t) / slowdown)
  flag_step t l was j few = cases (goes t) refl
    where
      before : (i : ℕ) → i ≤ suc q → goes t ≡ true → bit (row.flag i) (at t) ≡ reached real i (stepped t / slowdown)
      before zero b y = ap (λ n. bit n (at t)) h.here ∙ (here_at t (omega (arith, l)) y ∙
          (sym (reached_on real 0 (stepped t / slowdown)) ∙ ap (reached real 0) (let e : 0 + stepped t / slowdown ≡ stepped t / slowdown = omega arith in e)))
      before (suc i) b y = was i (omega (arith, b))

      turned : goes t ≡ true → (v : Bool) → bit row.last (at t) ≡ v → (stepped t % slowdown == slowdown - 1) ≡ v
          → (if v then bit (row.flag j) (at t) else bit (row.flag (suc j)) (at t)) ≡ reached real (suc j) (suc (stepped t) / slowdown)
      turned y true e f =
          let last : stepped t % slowdown ≡ slowdown - 1 = eqb-true (stepped t % slowdown) (slowdown - 1) f in
          before j (omega (arith, few)) y ∙ (reached_suc real j (stepped t / slowdown) ∙ sym (ap (reached real (suc j)) (next_block (stepped t) last)))
      turned y false e f =
          let apart : stepped t % slowdown ≡ slowdown - 1 → ⊥ = λ z.
          (let b : true ≡ false = sym (eq-eqb (stepped t % slowdown) (slowdown - 1) z) ∙ f in absurd (grind (arith, b))) in
          let less : stepped t % slowdown < slowdown - 1 = elim (cases_lt (stepped t % slowdown) (slowdown - 1)) [
            | inl k ↦ k
            | inr k ↦ absurd
                (apart (omega (arith, k, low (stepped t))))
          ] in
          before (suc j) (omega (arith, few)) y ∙ sym (ap (reached real (suc j)) (same_block (stepped t) less))

      follows : bit (row.flag (suc j)) (at (suc t)) ≡ (if goes t then next_flag row j (at t) else bit (row.flag (suc j)) (at t))
      follows = (let e : suc t ≡ t + 1 = omega arith in ap (λ k. bit (row.flag (suc j)) (at k)) e ∙ (h.flag j few).each t (omega (arith, l)))

      cases : (v : Bool) → goes t ≡ v → bit (row.flag (suc j)) (at (suc t)) ≡ reached real (suc j) (stepped (suc t) / slowdown)
      cases true y =
          follows
          ∙ (ap (λ v. if v then next_flag row j (at t) else bit (row.flag (suc j)) (at t)) y
          ∙ (turned y (bit row.last (at t)) refl (sym (h.last t (omega (arith, l)))) ∙ sym (ap (λ k. reached real (suc j) (k / slowdown)) (one_step t y))))
      cases false y =
          follows
          ∙ (ap (λ v. if v then next_flag row j (at t) else bit (row.flag (suc j)) (at t)) y
          ∙ (was j few ∙ sym (ap (λ k. reached real (suc j) (k / slowdown)) (no_step t y))))

  flag_is : (t : ℕ) → t < length rest → (j : ℕ) → j ≤ q → bit (row.flag (suc j)) (at t) ≡ reached real (suc j) (stepped t / slowdown)
  flag_is zero l j few =
      let e : 0 / slowdown ≡ 0 = (let z : 0 ≡ 0 * slowdown + 0 = omega arith in ap (λ k. k / slowdown) z ∙ div-mul-add 0 slowdown 0 some) in
      h.clear j few (omega (arith, l)) ∙ sym (ap (reached real (suc j)) e ∙ reached_off real (suc j) 0 (omega arith))
  flag_is (suc t) l j few = flag_step t l (λ i b. flag_is t (omega (arith, l)) i b) j few

  -- inside a block the register says whether it is real
  current_step : (t : ℕ) → suc t < length rest → (0 < stepped t % slowdown → bit g.current (at t) ≡ real (stepped t / slowdown))
      → 0 < stepped (suc t) % slowdown → bit g.current (at (suc t)) ≡ real (stepped (suc t) / slowdown)
  current_step t l was inside = cases (goes t) refl
    where
      follows : bit g.current (at (suc t)) ≡ (if goes t then bit x.here (at t) else bit g.current (at t))
      follows = (let e : suc t ≡ t + 1 = omega arith in ap (λ k. bit g.current (at k)) e ∙ h.current.each t (omega (arith, l)))

      cases : (v : Bool) → goes t ≡ v → bit g.current (at (suc t)) ≡ real (stepped (suc t) / slowdown)
      cases true y =
          let n : ℕ = stepped (suc t) in
          let is : stepped t ≡ n / slowdown * slowdown + (n % slowdown - 1) = omega (arith, cut n, one_step t y, inside) in
          let same : stepped t / slowdown ≡ n / slowdown = ap (λ k. k / slowdown) is ∙
          div-mul-add (n / slowdown) slowdown (n % slowdown - 1) (omega (arith, low n)) in
          follows ∙ (ap (λ v. if v then bit x.here (at t) else bit g.current (at t)) y ∙ (here_at t (omega (arith, l)) y ∙ ap real same))
      cases false y =
          let same : stepped (suc t) ≡ stepped t = no_step t y in
          let here : 0 < stepped t % slowdown = subst (λ k. 0 < k % slowdown) same inside in
          follows ∙ (ap (λ v. if v then bit x.here (at t) else bit g.current (at t)) y ∙ (was here ∙ sym (ap (λ k. real (k / slowdown)) same)))

  current_is : (t : ℕ) → t < length rest → 0 < stepped t % slowdown → bit g.current (at t) ≡ real (stepped t / slowdown)
  current_is zero l inside =
      let z : 0 % slowdown ≡ 0 = (let e : 0 ≡ 0 * slowdown + 0 = omega arith in ap (λ k. k % slowdown) e ∙ mod-mul-add 0 slowdown 0 some) in
      absurd (omega (arith, z, inside))
  current_is (suc t) l inside = current_step t l (λ b. current_is t (omega (arith, l)) b) inside

  -- ---- a clock in which it stands still

  module _ (u : ℕ) (within : u < length rest) (two : bit x.two (at u) ≡ false) (off : goes u ≡ false) where
    waits : IsStill (bit g.first (at u)) (bit ends.source.valid (at u)) (bit g.busy (at u)) (bit x.takes (at u)) (bit g.current (at u))
    waits =
        let c : Clock = at u in
        let may : Bool = may_go (bit g.first c) (bit ends.source.valid c) (bit g.busy c) (bit x.takes c) (bit g.current c) in
        still (bit g.first c) (bit ends.source.valid c) (bit g.busy c) (bit x.takes c) (bit g.current c)
        ((λ i. sym (h.low u within) i || (not (sym two i) && may)) ∙ (sym (h.gates u within).enable ∙ off))

    -- in the first clock of a block nothing is to come any more
    first_still : stepped u % slowdown ≡ 0 → (v : ℕ) → v < stepped u → outs v ≡ true → latency + v < stepped u
    first_still z v before y = elim (cases_lt (latency + v) (stepped u)) [
      | inl l ↦ l
      | inr late ↦
          let b : ℕ = stepped u / slowdown in
          let m : ℕ = v / slowdown in
          let j : ℕ = b - suc m in
          let is : real m ≡ true = and_right (is_beat outputs (v % slowdown)) (real m) y in
          let live : is_beat outputs (v % slowdown) ≡ true = and_left (is_beat outputs (v % slowdown)) (real m) y in
          let less : m < b = elim (cases_lt m b) [
            | inl l ↦ l
            | inr far ↦ (let p : b * slowdown ≤ m * slowdown = product_le b m slowdown far in absurd (omega (arith, p, before, z, cut v, cut (stepped u))))
          ] in
          let e : suc j + m ≡ b = omega (arith, less) in
          let wide : (suc j + m) * slowdown ≡ suc j * slowdown + m * slowdown = omega arith in
          let all : suc j * slowdown + m * slowdown ≡ b * slowdown = sym wide ∙ ap (λ k. k * slowdown) e in
          let from : suc j * slowdown ≤ q * slowdown + r + v % slowdown = omega (arith, all, late, z, cut v, cut (stepped u)) in
          let few : j ≤ q = at_most j (v % slowdown) (low v) from in
          let flag : bit (row.flag (suc j)) (at u) ≡ true = flag_is u within j few ∙ (ap (reached real (suc j)) (sym e) ∙ (reached_on real (suc j) m ∙ is)) in
          let busy : bit g.busy (at u) ≡ true = h.busy u j (v % slowdown) within live from flag in
          let first : bit g.first (at u) ≡ true = h.first u within ∙ eq-eqb (stepped u % slowdown) 0 z in
          let bad : true ≡ false = sym busy ∙ waits.quiet first in
          absurd (grind (arith, bad))
    ]
      where
        at_most : (j c : ℕ) → c < slowdown → suc j * slowdown ≤ q * slowdown + r + c → j ≤ q
        at_most j c b from =
            let two_more : (q + 2) * slowdown ≡ q * slowdown + slowdown + slowdown = omega arith in
            let few : suc j * slowdown < (q + 2) * slowdown = omega (arith, two_more, from, b, small) in
            elim (cases_lt q j) [
              | inl far ↦ (let p : (q + 2) * slowdown ≤ suc j * slowdown = product_le (q + 2) (suc j) slowdown (omega (arith, far)) in
                  absurd (omega (arith, p, few)))
              | inr g ↦ g
            ]

    -- inside a block the source is asked, for a word that is not the first of a block
    asks_inside : 0 < stepped u % slowdown → (bit ends.source.ready (at u) ≡ true)
        × (passing (λ k. is_transfer ends.source (at k)) u % passing (is_beat inputs) slowdown ≡ passing (is_beat inputs) (stepped u % slowdown))
        × (0 < passing (is_beat inputs) (stepped u % slowdown))
    asks_inside inside =
        let n : ℕ = stepped u in
        let apart : (n % slowdown == 0) ≡ false = not_true (n % slowdown == 0) (λ e. absurd (omega (arith, eqb-true (n % slowdown) 0 e, inside))) in
        let first : bit g.first (at u) ≡ false = h.first u within ∙ apart in
        let takes : bit x.takes (at u) ≡ true = waits.wanted first in
        let current : bit g.current (at u) ≡ true = waits.real first in
        let live : is_beat inputs (n % slowdown) ≡ true = sym (h.takes u within) ∙ takes in
        let is : real (n / slowdown) ≡ true = sym (current_is u within inside) ∙ current in
        let many : passing (λ k. is_transfer ends.source (at k)) u ≡ passing real (n / slowdown) * passing (is_beat inputs) slowdown + passing (is_beat inputs)
        (n % slowdown) =
        taken_is u (omega (arith, within)) ∙ (ap (passing ins) (sym (cut n)) ∙
        before_clock (is_beat inputs) real slowdown (n / slowdown) (n % slowdown) (omega (arith, low n)) is) in
        let more : passing (is_beat inputs) 0 < passing (is_beat inputs) (n % slowdown) = passing_lt (is_beat inputs) 0 (n % slowdown) inside beat in
        let less : passing (is_beat inputs) (n % slowdown) < passing (is_beat inputs) slowdown = passing_lt (is_beat inputs) (n % slowdown) slowdown
        (low n) live in (
          (h.gates u within).ready ∙ (λ i. not (two i) && (takes i && (first i || current i))),
          ap (λ k. k % passing (is_beat inputs) slowdown) many ∙
              mod-mul-add (passing real (n / slowdown)) (passing (is_beat inputs) slowdown) (passing (is_beat inputs) (n % slowdown)) less,
          omega (arith, more),
        )

    -- so the results of all that was taken have been put in, unless the source stopped inside a block
    all_put : (k : ℕ) → ((passing (λ k. is_transfer ends.source (at k)) u % passing (is_beat inputs) slowdown ≡ 0 → ⊥) → bit ends.source.ready (at u) ≡ true
        → bit ends.source.valid (at u) ≡ true) → k * passing (is_beat inputs) slowdown ≤ passing ins (stepped u)
        → k * passing (is_beat outputs) slowdown ≤ passing (later latency outs) (stepped u)
    all_put k has taken = elim (cases_lt 0 (stepped u % slowdown)) [
      | inl inside ↦
          let a = asks_inside inside in
          let valid : bit ends.source.valid (at u) ≡ true = has (λ z. absurd (omega (arith, z, a.1, a.2))) a.0 in
          let bad : true ≡ false = sym valid ∙ waits.empty in
          absurd (grind (arith, bad))
      | inr none ↦
          let n : ℕ = stepped u in
          let z : n % slowdown ≡ 0 = omega (arith, none) in
          let b : ℕ = n / slowdown in
          let e : n ≡ b * slowdown = omega (arith, cut n, z) in
          let some_in : 0 < passing (is_beat inputs) slowdown = (let p : passing (is_beat inputs) 0 < passing (is_beat inputs) slowdown = passing_lt
          (is_beat inputs) 0 slowdown some beat in omega (arith, p)) in
          let whole : k * passing (is_beat outputs) slowdown ≤ passing outs (b * slowdown) = whole_results (is_beat inputs)
          (is_beat outputs) real slowdown k n b some_in (omega (arith, e)) taken in
          let here : passing outs n ≡ passing outs (b * slowdown) = ap (passing outs) e in
          let rest_none : passing outs n ≡ passing outs (n - latency) = none_between outs (n - latency) n (omega arith)
          (λ v p l. not_true (outs v) (λ y. absurd (omega (arith, first_still z v l y, p)))) in
          elim (cases_lt n latency) [
            | inl early ↦ (let c : passing outs (n - latency) ≡ 0 = (let d : n - latency ≡ 0 = omega (arith, early) in ap (passing outs) d) in
                omega (arith, whole, here, rest_none, c))
            | inr far ↦
                let c : passing (later latency outs) n ≡ passing outs
                (n - latency) = (let d : n ≡ latency + (n - latency) = omega (arith, far) in ap (passing (later latency outs)) d ∙
                passing_later latency outs (n - latency)) in
                omega (arith, whole, here, rest_none, c)
          ]
    ]

  -- ---- a row of clocks

  pub drains : (t k : ℕ) → t + (latency + slowdown) < length rest → k * passing (is_beat inputs) slowdown ≤ passing (λ k. is_transfer ends.source (at k)) t
      → ((u : ℕ) → t ≤ u → u ≤ t + (latency + slowdown) → bit ends.sink.ready (at u) ≡ true)
      → ((u : ℕ) → t ≤ u → u ≤ t + (latency + slowdown) → (passing (λ k. is_transfer ends.source (at k)) u % passing (is_beat inputs) slowdown ≡ 0 → ⊥)
      → bit ends.source.ready (at u) ≡ true → bit ends.source.valid (at u) ≡ true)
      → k * passing (is_beat outputs) slowdown ≤ passing pops (suc (t + (latency + slowdown)))
  drains t k within taken takes has =
      let first : k * passing (is_beat inputs) slowdown ≤ passing ins
      (stepped t) = (let e : passing (λ k. is_transfer ends.source (at k)) t ≡ passing ins (stepped t) = taken_is t (omega (arith, within)) in
      omega (arith, taken, e)) in
      let free : (u : ℕ) → t + 1 ≤ u → u ≤ t + (latency + slowdown) → bit x.two (at u) ≡ false = λ u a b.
      let e : u - 1 + 1 ≡ u = omega (arith, a) in
      ap (λ k. bit x.two (at k)) (sym e) ∙ room x g row ends run start slowdown q r inputs outputs h shown (u - 1) (omega (arith, a, b, within))
      (takes (u - 1) (omega (arith, a)) (omega (arith, b))) in
      let last : ℕ = t + (latency + slowdown) in
      let done : (u : ℕ) → t + 1 ≤ u → u ≤ last → k * passing (is_beat outputs) slowdown ≤ passing (later latency outs) (stepped u)
      → k * passing (is_beat outputs) slowdown ≤ passing pops (suc last) = λ u a b l.
      let given : passing pops (suc u) ≡ passing (later latency outs) (stepped u) = given_is u (omega (arith, b, within)) (free u a b)
      (takes u (omega (arith, a)) b) in
      let more : passing pops (suc u) ≤ passing pops (suc last) = passing_le pops (suc u) (suc last) (omega (arith, b)) in
      omega (arith, given, more, l) in
      elim (one_or_none (λ u. not (goes u)) (t + 1) (latency + slowdown - 1)) [
        | inl found ↦
            let u : ℕ = found.at in
            let a : t + 1 ≤ u = found.low in
            let b : u < t + 1 + (latency + slowdown - 1) = found.high in
            let to : u ≤ last = omega (arith, b, some) in
            let grown : stepped t ≤ stepped u = passing_le goes t u (omega (arith, a)) in
            let now : passing ins (stepped t) ≤ passing ins (stepped u) = passing_le ins (stepped t) (stepped u) grown in
            done u a to (all_put u (omega (arith, to, within)) (free u a to) (is_off (goes u) found.passes) k (has u (omega (arith, a)) to)
            (omega (arith, first, now)))
        | inr all ↦
            let on : (u : ℕ) → t + 1 ≤ u → u < t + 1 + (latency + slowdown - 1) → goes u ≡ true = λ u a b. is_on_at (goes u) (all u a b) in
            let count : stepped (t + 1 + (latency + slowdown - 1)) ≡ stepped
            (t + 1) + (latency + slowdown - 1) = counts_on x g row ends run start slowdown q r inputs outputs h shown (t + 1) (latency + slowdown - 1) on
            (latency + slowdown - 1) (omega arith) in
            let e : t + 1 + (latency + slowdown - 1) ≡ last = omega (arith, some) in
            let same : stepped last ≡ stepped (t + 1) + (latency + slowdown - 1) = ap stepped (sym e) ∙ count in
            let grown : stepped t ≤ stepped (t + 1) = passing_le goes t (t + 1) (omega arith) in
            let n : ℕ = stepped t in
            let b : ℕ = (n + (slowdown - 1)) / slowdown in
            let div : b * slowdown + (n + (slowdown - 1)) % slowdown ≡ n + (slowdown - 1) = cut (n + (slowdown - 1)) in
            let some_in : 0 < passing (is_beat inputs) slowdown = (let p : passing (is_beat inputs) 0 < passing (is_beat inputs) slowdown = passing_lt
            (is_beat inputs) 0 slowdown some beat in omega (arith, p)) in
            let whole : k * passing (is_beat outputs) slowdown ≤ passing outs (b * slowdown) = whole_results (is_beat inputs)
            (is_beat outputs) real slowdown k n b some_in (omega (arith, div, low (n + (slowdown - 1)), some)) first in
            let far : latency + b * slowdown ≤ stepped last = omega (arith, same, grown, div, some) in
            let later_on : passing (later latency outs) (latency + b * slowdown) ≤ passing (later latency outs) (stepped last) = passing_le
            (later latency outs) (latency + b * slowdown) (stepped last) far in
            let put : passing (later latency outs) (latency + b * slowdown) ≡ passing outs (b * slowdown) = passing_later latency outs (b * slowdown) in
            done last (omega (arith, some)) (omega arith) (omega (arith, whole, later_on, put))
      ]
    where
      is_off : (v : Bool) → not v ≡ true → v ≡ false
      is_off true e = (let b : false ≡ true = e in absurd (grind (arith, b)))
      is_off false e = refl

      is_on_at : (v : Bool) → not v ≡ false → v ≡ true
      is_on_at true e = refl
      is_on_at false e = (let b : true ≡ false = e in absurd (grind (arith, b)))
