-- A control that is wired and marked is driven.
use Rattle.std.proofs.Common.{ℕ, zero, suc, ◌≡◌, ◌+◌, ◌-◌, ◌*◌, ◌%◌, ◌<◌, ◌≤◌, inl, inr, List, length, length-drop, drop, Bool, true, false, arith, refl, ap, sym, ◌∙◌, subst}
use Rattle.std.specs.Prelude.{slice_get, unwrap_or, ◌&&◌, ◌||◌, ◌==◌, not, if◌then◌else◌}
use Rattle.std.proofs.lemmas.Bool.{cases_lt, eqb-true}
use Rattle.ae_netlist.proofs.OrElse.{or_drop}
use Rattle.ae_sttype.specs.StTree.{StTree}
use Rattle.ae_netlist.specs.Runs.{Clock, no_clock, word_at, IsReset}
use Rattle.ae_stream.specs.Queue.{IsFair, IsQueue, next_a, next_b, next_one, next_two}
use Rattle.ae_stream.specs.Streams.{Ends, bit, is_beat, is_transfer}
use Rattle.ae_stream.specs.Control.{Control, queue_of, steps_before, word_in}
use Rattle.ae_stream.specs.Gates.{Gates, HasGates, may_go}
use Rattle.ae_stream.specs.Driven.{IsDriven, IsRead, Row, next_flag}
use Rattle.ae_stream.specs.Wired.{AreQueued, FromEach, InEach, IsCleared, IsMarked, IsWired, is_put}
use Rattle.ae_seq.proofs.Judging.{left as both_left}

-- where two stand in the next clock, one does
second_has_first : (one two push pop : Bool) → next_two one two push pop ≡ true → next_one one two push pop ≡ true
second_has_first one true push pop h = refl
second_has_first one false true pop h = refl
second_has_first true false false pop h = (let e : false ≡ true = h in absurd (grind (arith, e)))
second_has_first false false false pop h = (let e : false ≡ true = h in absurd (grind (arith, e)))

no_room : (reset two go : Bool) → reset ≡ false → (shows : Bool) → ((reset || (not two && go)) && shows) ≡ true → two ≡ false
no_room false false go low shows h = refl
no_room false true go low shows h = (let e : false ≡ true = h in absurd (grind (arith, e)))
no_room true two go low shows h = (let e : true ≡ false = low in absurd (grind (arith, e)))

taken_or : (first wanted beat : Bool) → wanted ≡ beat → (first ≡ true → beat ≡ true) → (first || wanted) ≡ beat
taken_or true wanted beat e b = sym (b refl)
taken_or false wanted beat e b = e

module _ (x : Control) (g : Gates) (row : Row) (ends : Ends) (wanted wait : ℕ) (run : List Clock) (start slowdown q r : ℕ) (inputs outputs : List StTree)
    (any : 0 < ends.columns) (waits : (c : ℕ) → is_beat outputs c ≡ true → q * slowdown + r + c < suc wait * slowdown) (beat : is_beat inputs 0 ≡ true)
    (reset : IsReset run g.reset start) (w : IsWired x g row ends wanted q wait run)
    (words : AreQueued x ends run) (m : IsMarked x g row wanted run start slowdown r inputs outputs) where
  abbrev rest : List Clock
  rest = drop start run

  long : length rest ≡ length run - start
  long = length-drop start run

  at : (t : ℕ) → unwrap_or (slice_get rest t) no_clock ≡ unwrap_or (slice_get run (start + t)) no_clock
  at t = or_drop start run t no_clock

  -- what is so in each clock, and from each to the next, is so behind the reset
  each : (P : Clock → Type 0) → InEach P run → (t : ℕ) → t < length rest → P (unwrap_or (slice_get rest t) no_clock)
  each P f t l = subst P (sym (at t)) (f (start + t) (omega (arith, long)))

  from : (P : Clock → Clock → Type 0) → FromEach P run → (t : ℕ) → t + 1 < length rest
      → P (unwrap_or (slice_get rest t) no_clock) (unwrap_or (slice_get rest (t + 1)) no_clock)
  from P f t l =
      let e : start + (t + 1) ≡ start + t + 1 = omega arith in
      let next : unwrap_or (slice_get run (start + t + 1)) no_clock ≡ unwrap_or (slice_get rest (t + 1)) no_clock = ap
      (λ k. unwrap_or (slice_get run k) no_clock) (sym e) ∙ sym (at (t + 1)) in
      subst (λ c. P c (unwrap_or (slice_get rest (t + 1)) no_clock)) (sym (at t))
      (subst (λ c. P (unwrap_or (slice_get run (start + t)) no_clock) c) next (f (start + t) (omega (arith, long))))

  low : (t : ℕ) → t < length rest → bit g.reset (unwrap_or (slice_get rest t) no_clock) ≡ false
  unfolding word_at
  low t l = ap (bit g.reset) (at t) ∙ ap (λ k. k == 1) (reset.low (start + t) (omega arith) (omega (arith, long)))

  high : (t : ℕ) → t < start → t < length run → bit g.reset (unwrap_or (slice_get run t) no_clock) ≡ true
  unfolding word_at
  high t b l = ap (λ k. k == 1) (reset.high t b l)

  goes : (part makes : Clock → Bool) → IsCleared (bit g.reset) part makes run → (t : ℕ) → t + 1 < length rest
      → part (unwrap_or (slice_get rest (t + 1)) no_clock) ≡ makes (unwrap_or (slice_get rest t) no_clock)
  goes part makes f t l =
      from (λ c next. part next ≡ (if bit g.reset c then false else makes c)) f t l
      ∙ ap (λ v. if v then false else makes (unwrap_or (slice_get rest t) no_clock)) (low t (omega arith))

  -- the clock before the first one behind the reset is one of reset
  clear : (part makes : Clock → Bool) → IsCleared (bit g.reset) part makes run → 0 < length rest → part (unwrap_or (slice_get rest 0) no_clock) ≡ false
  clear part makes f l =
      let some : 1 ≤ start = reset.some in
      let e : start + 0 ≡ start - 1 + 1 = omega arith in
      ap part (at 0 ∙ ap (λ k. unwrap_or (slice_get run k) no_clock) e)
      ∙ (f (start - 1) (omega (arith, long))
      ∙ ap (λ v. if v then false else makes (unwrap_or (slice_get run (start - 1)) no_clock)) (high (start - 1) (omega arith) (omega (arith, long))))

  abbrev turned : ℕ → Clock → Bool
  turned j c = if bit x.enable c then next_flag row j c else bit (row.flag (suc j)) c

  abbrev ones : Clock → Bool
  ones c = next_one (bit x.one c) (bit x.two c) (is_put x c) (is_transfer ends.sink c)

  abbrev twos : Clock → Bool
  twos c = next_two (bit x.one c) (bit x.two c) (is_put x c) (is_transfer ends.sink c)

  fair : (t : ℕ) → t < length rest → IsFair (bit x.one (unwrap_or (slice_get rest t) no_clock)) (bit x.two (unwrap_or (slice_get rest t) no_clock))
      (is_put x (unwrap_or (slice_get rest t) no_clock))
      (is_transfer ends.sink (unwrap_or (slice_get rest t) no_clock))
  fair t l =
      let c : Clock = unwrap_or (slice_get rest t) no_clock in
      let gates : HasGates x g ends c = each (HasGates x g ends) w.gates t l in
      record {
        second = stands t l;
        room = λ h. no_room (bit g.reset c) (bit x.two c) (may_go (bit g.first c) (bit ends.source.valid c) (bit g.busy c) (bit x.takes c) (bit g.current c))
            (low t l) (bit x.shows c)
            (ap (λ v. v && bit x.shows c) (sym gates.enable) ∙ h);
        some = λ h. ap (λ n. bit n c) (sym w.valid) ∙ both_left (bit ends.sink.valid c) (bit ends.sink.ready c) h;
      }
    where
      stands : (t : ℕ) → t < length rest → bit x.two (unwrap_or (slice_get rest t) no_clock) ≡ true → bit x.one (unwrap_or (slice_get rest t) no_clock) ≡ true
      stands zero l h = (let e : false ≡ true = sym (clear (bit x.two) twos w.two l) ∙ h in absurd (grind (arith, e)))
      stands (suc t) l h =
          let e : suc t ≡ t + 1 = omega arith in
          let two : bit x.two (unwrap_or (slice_get rest (t + 1)) no_clock) ≡ twos (unwrap_or (slice_get rest t) no_clock) = goes (bit x.two) twos w.two t
          (omega arith) in
          let one : bit x.one (unwrap_or (slice_get rest (t + 1)) no_clock) ≡ ones (unwrap_or (slice_get rest t) no_clock) = goes (bit x.one) ones w.one t
          (omega arith) in
          let k : bit x.two (unwrap_or (slice_get rest (t + 1)) no_clock) ≡ true = ap (λ k. bit x.two (unwrap_or (slice_get rest k) no_clock)) (sym e) ∙ h in
          ap (λ k. bit x.one (unwrap_or (slice_get rest k) no_clock)) e ∙ (one ∙
          second_has_first (bit x.one (unwrap_or (slice_get rest t) no_clock)) (bit x.two (unwrap_or (slice_get rest t) no_clock))
          (is_put x (unwrap_or (slice_get rest t) no_clock))
          (is_transfer ends.sink (unwrap_or (slice_get rest t) no_clock)) (sym two ∙ k))

  queue : (k : ℕ) → k < ends.columns → IsQueue (queue_of x ends k) rest no_clock
  queue k b = record {
    fair = fair;
    after = λ t l. record {
      one = goes (bit x.one) ones w.one t l;
      two = goes (bit x.two) twos w.two t l;
      a = from (λ c next. word_in (ends.outs k) next ≡ next_a (bit x.one c) (bit x.two c) (is_transfer ends.sink c) (word_in (ends.outs k) c)
          (word_in (x.second k) c) (word_in (x.made k) c)) (words.shown k b) t l;
      b = from (λ c next. word_in (x.second k) next ≡ next_b (bit x.two c) (word_in (x.second k) c) (word_in (x.made k) c)) (words.second k b) t l;
    };
  }

  pub driven_by : IsDriven x g row ends run start slowdown q r inputs outputs
  driven_by = record {
    resets = λ t b l. (w.gates t l).enable ∙ ap (λ v. v || (not (bit x.two (unwrap_or (slice_get run t) no_clock)) && may_go
        (bit g.first (unwrap_or (slice_get run t) no_clock))
        (bit ends.source.valid (unwrap_or (slice_get run t) no_clock))
        (bit g.busy (unwrap_or (slice_get run t) no_clock)) (bit x.takes (unwrap_or (slice_get run t) no_clock))
        (bit g.current (unwrap_or (slice_get run t) no_clock)))) (high t b l);
    low = low;
    gates = each (HasGates x g ends) w.gates;
    current = record { each = from (λ c next. bit g.current next ≡ (if bit x.enable c then bit x.here c else bit g.current c)) w.current };
    flag = λ j few. record { each = goes (bit (row.flag (suc j))) (turned j) (w.flag j few) };
    here = w.here;
    clear = λ j few. clear (bit (row.flag (suc j))) (turned j) (w.flag j few);
    first = m.first;
    last = m.last;
    busy = λ t j c l y from. each (λ k. bit (row.flag (suc j)) k ≡ true → bit g.busy k ≡ true) (w.busy j (soon j c y from)) t l;
    takes = λ t l.
        each (λ c. bit x.takes c ≡ (bit g.first c || bit wanted c)) w.takes t l
        ∙ taken_or (bit g.first (unwrap_or (slice_get rest t) no_clock)) (bit wanted (unwrap_or (slice_get rest t) no_clock))
        (is_beat inputs (steps_before x start run t % slowdown))
        (m.wants t l) (λ h. (let z : steps_before x start run t % slowdown ≡ 0 = zero_of (steps_before x start run t % slowdown) (sym (m.first t l) ∙ h) in
        ap (is_beat inputs) z ∙ beat));
    late = m.late;
    behind = m.behind;
    shows = each (IsRead x row q) w.shows;
    any = any;
    queue = queue;
    empty = clear (bit x.one) ones w.one;
  }
    where
      zero_of : (n : ℕ) → (n == 0) ≡ true → n ≡ 0
      zero_of n h = eqb-true n 0 h

      soon : (j c : ℕ) → is_beat outputs c ≡ true → suc j * slowdown ≤ q * slowdown + r + c → j < wait
      soon j c y from = elim (cases_lt j wait) [
        | inl l ↦ l
        | inr far ↦
            let e : suc wait + (j - wait) ≡ suc j = omega (arith, far) in
            let wide : (suc wait + (j - wait)) * slowdown ≡ suc wait * slowdown + (j - wait) * slowdown = omega arith in
            let more : suc j * slowdown ≡ suc wait * slowdown + (j - wait) * slowdown = ap (λ k. k * slowdown) (sym e) ∙ wide in
            let below : q * slowdown + r + c < suc wait * slowdown = waits c y in
            absurd (omega (arith, more, below, from))
      ]
