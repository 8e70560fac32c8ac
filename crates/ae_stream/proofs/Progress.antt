-- A control whose registers take what they are to take goes on, as its ports tell.
use Rattle.std.specs.Prelude.{slice_get, unwrap_or}
use Rattle.std.proofs.Common.{ℕ, ◌≡◌, ◌+◌, ◌-◌, ◌*◌, ◌<◌, ◌≤◌, ◌%◌, List, length, length-drop, length-take, drop, take, suc, true, arith, ap, sym, ◌∙◌}
use Rattle.std.proofs.lemmas.Bool.{eq-eqb, eqb-true}
use Rattle.ae_netlist.proofs.OrElse.{or_drop, or_take}
use Rattle.ae_sttype.specs.StTree.{StTree}
use Rattle.ae_netlist.specs.Runs.{Clock, no_clock, word_at}
use Rattle.ae_stream.specs.Passing.{passing}
use Rattle.ae_stream.specs.Streams.{Channel, Ends, beats, bit, is_beat, is_transfer, transfers}
use Rattle.ae_stream.specs.Control.{Control}
use Rattle.ae_stream.specs.Gates.{Gates}
use Rattle.ae_stream.specs.Driven.{IsDriven, Row}
use Rattle.ae_stream.specs.Progress.{GoesOn, HasNext, passed_before}
use Rattle.ae_stream.proofs.Draining.{drains}
use Rattle.ae_stream.proofs.Parts.{passed_length}
use Rattle.ae_stream.proofs.Rate.{sink_in_step, source_in_step}
use Rattle.ae_stream.proofs.Stepping.{IsAmong, asked}

bit_on : (net : ℕ) (run : List Clock) (t : ℕ) → word_at run t net ≡ 1 → bit net (unwrap_or (slice_get run t) no_clock) ≡ true
unfolding word_at
bit_on net run t e = eq-eqb (word_at run t net) 1 e

word_on : (net : ℕ) (run : List Clock) (t : ℕ) → bit net (unwrap_or (slice_get run t) no_clock) ≡ true → word_at run t net ≡ 1
unfolding word_at
word_on net run t e = eqb-true (word_at run t net) 1 e

module _ (x : Control) (g : Gates) (row : Row) (ends : Ends) (run : List Clock) (start slowdown q r : ℕ) (inputs outputs : List StTree) (some : 0 < slowdown)
    (small : r < slowdown) (beat : is_beat inputs 0 ≡ true)
    (h : IsDriven x g row ends run start slowdown q r inputs outputs) (shown : ends.sink.valid ≡ x.one) where
  long : length (drop start run) ≡ length run - start
  long = length-drop start run

  behind : (t : ℕ) → unwrap_or (slice_get (drop start run) t) no_clock ≡ unwrap_or (slice_get run (start + t)) no_clock
  behind t = or_drop start run t no_clock

  -- a bit in a clock behind the reset
  bit_behind : (net t : ℕ) → word_at run (start + t) net ≡ 1 → bit net (unwrap_or (slice_get (drop start run) t) no_clock) ≡ true
  bit_behind net t e = ap (bit net) (behind t) ∙ bit_on net run (start + t) e

  is_asked : (t : ℕ) → start ≤ t → t + slowdown < length run → ((u : ℕ) → t ≤ u → u ≤ t + slowdown → word_at run u ends.sink.ready ≡ 1) → (u : ℕ) × (t ≤ u)
      × (u ≤ t + slowdown) × (word_at run u ends.source.ready ≡ 1)
  is_asked t from within takes =
      let found : IsAmong (λ u. bit ends.source.ready (unwrap_or (slice_get (drop start run) u) no_clock)) (t - start + 1) slowdown =
      asked x g row ends run start slowdown q r inputs outputs h shown some (t - start) (omega (arith, long, from, within))
      (λ u a b. bit_behind ends.sink.ready u (takes (start + u) (omega (arith, from, a)) (omega (arith, from, b)))) in
      let low : t - start + 1 ≤ found.at = found.low in
      let high : found.at < t - start + 1 + slowdown = found.high in (
        start + found.at,
        omega (arith, from, low),
        omega (arith, from, high),
        word_on ends.source.ready run (start + found.at) (ap (bit ends.source.ready) (sym (behind found.at)) ∙ found.passes),
      )

  -- the words that have passed are the clocks before in which they pass
  passed_is : (y : Channel) (t : ℕ) → start + t ≤ length run
      → passed_before y start run (start + t) ≡ passing (λ k. is_transfer y (unwrap_or (slice_get (drop start run) k) no_clock)) t
  unfolding transfers
  passed_is y t within =
      let part : List Clock = drop start (take (start + t) run) in
      let cut : length (take (start + t) run) ≡ start + t = omega (arith, length-take (start + t) run, within) in
      let size : length part ≡ t = omega (arith, length-drop start (take (start + t) run), cut) in
      let same : (k : ℕ) → k < length part → is_transfer y (unwrap_or (slice_get part k) no_clock) ≡ is_transfer y
      (unwrap_or (slice_get (drop start run) k) no_clock) = λ k l.
      ap (is_transfer y) (or_drop start (take (start + t) run) k no_clock ∙
      (or_take (start + t) run (start + k) no_clock (omega (arith, size, l)) ∙ sym (behind k))) in
      passed_length (is_transfer y) (λ k. is_transfer y (unwrap_or (slice_get (drop start run) k) no_clock)) part no_clock same ∙
      ap (passing (λ k. is_transfer y (unwrap_or (slice_get (drop start run) k) no_clock))) size

  has_drained : (t k : ℕ) → start ≤ t → t + (q * slowdown + r + slowdown) < length run → k * beats inputs slowdown ≤ passed_before ends.source start run t
      → ((u : ℕ) → t ≤ u → u ≤ t + (q * slowdown + r + slowdown) → (word_at run u ends.sink.ready ≡ 1) × HasNext ends run start (beats inputs slowdown) u)
      → k * beats outputs slowdown ≤ passed_before ends.sink start run (t + (q * slowdown + r + slowdown) + 1)
  has_drained t k from within taken both =
      let v : ℕ = t - start in
      let wide : ℕ = q * slowdown + r + slowdown in
      let e : start + v ≡ t = omega (arith, from) in
      let first : passed_before ends.source start run t ≡ passing (λ k. is_transfer ends.source (unwrap_or (slice_get (drop start run) k) no_clock)) v = ap
      (passed_before ends.source start run) (sym e) ∙ passed_is ends.source v (omega (arith, e, within)) in
      let f : start + suc (v + wide) ≡ t + wide + 1 = omega (arith, from) in
      let last : passed_before ends.sink start run (t + wide + 1) ≡ passing (λ k. is_transfer ends.sink (unwrap_or (slice_get (drop start run) k) no_clock))
      (suc (v + wide)) =
      ap (passed_before ends.sink start run) (sym f) ∙ passed_is ends.sink (suc (v + wide)) (omega (arith, f, within)) in
      let all : k * beats outputs slowdown ≤ passing (λ k. is_transfer ends.sink (unwrap_or (slice_get (drop start run) k) no_clock)) (suc (v + wide)) =
      drains x g row ends run start slowdown q r inputs outputs h shown some small beat v k (omega (arith, long, e, within)) (omega (arith, taken, first))
      (λ u a b. bit_behind ends.sink.ready u (both (start + u) (omega (arith, e, a)) (omega (arith, e, b))).0)
      (λ u a b inside asks.
      let at : passed_before ends.source start run (start + u) ≡ passing
      (λ k. is_transfer ends.source (unwrap_or (slice_get (drop start run) k) no_clock)) u = passed_is ends.source u (omega (arith, e, b, within)) in
      bit_behind ends.source.valid u
      ((both (start + u) (omega (arith, e, a)) (omega (arith, e, b))).1 (λ z. inside (ap (λ n. n % beats inputs slowdown) (sym at) ∙ z))
      (word_on ends.source.ready run (start + u) (ap (bit ends.source.ready) (sym (behind u)) ∙ asks)))) in
      omega (arith, all, last)

  pub goes_on : GoesOn ends run start slowdown (q * slowdown + r) inputs outputs
  goes_on = record {
    asked = record { asked = is_asked };
    in_step = record {
      source = λ c within both.
          ap (bit ends.source.ready) (sym (behind c))
          ∙ source_in_step x g row ends run start slowdown q r inputs outputs h shown some small c (omega (arith, long, within))
          (λ u l. bit_behind ends.source.valid u (both u l).0) (λ u l. bit_behind ends.sink.ready u (both u l).1);
      sink = λ c within both.
          ap (bit ends.sink.valid) (sym (behind c))
          ∙ sink_in_step x g row ends run start slowdown q r inputs outputs h shown some small c (omega (arith, long, within))
          (λ u l. bit_behind ends.source.valid u (both u l).0) (λ u l. bit_behind ends.sink.ready u (both u l).1);
    };
    drains = record { drains = has_drained };
  }
