-- What a control says at its ports is settled by the clocks before.
use Rattle.std.proofs.Common.{ℕ, zero, suc, ◌≡◌, ◌+◌, ◌-◌, ◌%◌, ◌<◌, ◌≤◌, List, length, drop, take, Bool, true, false, arith, refl, ap, sym, ◌∙◌}
use Rattle.std.specs.Prelude.{slice_get, unwrap_or, ◌&&◌, ◌||◌, ◌==◌, not, if◌then◌else◌}
use Rattle.std.proofs.lemmas.List.{length-drop}
use Rattle.ae_netlist.proofs.OrElse.{or_drop, or_take}
use Rattle.ae_sttype.specs.StTree.{StTree}
use Rattle.ae_netlist.specs.Runs.{Clock, no_clock, word_at}
use Rattle.ae_stream.specs.Passing.{one_if, passing}
use Rattle.ae_stream.specs.Queue.{next_a, next_one, next_two}
use Rattle.ae_stream.specs.Streams.{Ends, bit, is_beat, is_transfer}
use Rattle.ae_stream.specs.Control.{BySteps, Control, steps_before, word_in}
use Rattle.ae_stream.specs.Gates.{Gates}
use Rattle.ae_stream.specs.Driven.{Row}
use Rattle.ae_stream.specs.Wired.{FromEach, is_put}
use Rattle.ae_stream.specs.Paths.{HasNoPaths, IsComplete}

passing_same : (p q : ℕ → Bool) (n : ℕ) → ((k : ℕ) → k < n → p k ≡ q k) → passing p n ≡ passing q n
passing_same p q zero h = refl
passing_same p q (suc n) h = ap (λ k. k + one_if (p n)) (passing_same p q n (λ k l. h k (omega arith))) ∙ ap (λ v. passing q n + one_if v) (h n (omega arith))

-- two bits that are 1 in the same case are the same
same_bits : (v w : ℕ) → v < 2 → w < 2 → (v == 1) ≡ (w == 1) → v ≡ w
same_bits zero zero a b e = refl
same_bits zero (suc zero) a b e = (let f : false ≡ true = e in absurd (grind (arith, f)))
same_bits zero (suc (suc w)) a b e = absurd (omega arith)
same_bits (suc zero) zero a b e = (let f : true ≡ false = e in absurd (grind (arith, f)))
same_bits (suc zero) (suc zero) a b e = refl
same_bits (suc zero) (suc (suc w)) a b e = absurd (omega arith)
same_bits (suc (suc v)) w a b e = absurd (omega arith)

module _ (x : Control) (g : Gates) (row : Row) (ends : Ends) (wanted wait : ℕ) (a b : List Clock) (start slowdown q r : ℕ) (inputs outputs : List StTree)
    (some : 1 ≤ start)
    (ha : IsComplete x g row ends wanted q wait a start slowdown r inputs outputs)
    (hb : IsComplete x g row ends wanted q wait b start slowdown r inputs outputs) where
  module _ (t : ℕ) (from : start ≤ t) (la : t < length a) (lb : t < length b) (same : take t a ≡ take t b) where
    abbrev here : Clock
    here = unwrap_or (slice_get a t) no_clock

    abbrev there : Clock
    there = unwrap_or (slice_get b t) no_clock

    before : (k : ℕ) → k < t → unwrap_or (slice_get a k) no_clock ≡ unwrap_or (slice_get b k) no_clock
    before k l = sym (or_take t a k no_clock l) ∙ (ap (λ c. unwrap_or (slice_get c k) no_clock) same ∙ or_take t b k no_clock l)

    -- what is made of the clock before
    from_last : {A : Type 0} (part f : Clock → A) → FromEach (λ c next. part next ≡ f c) a → FromEach (λ c next. part next ≡ f c) b → part here ≡ part there
    from_last part f fa fb =
        let e : t - 1 + 1 ≡ t = omega (arith, some, from) in
        ap (λ k. part (unwrap_or (slice_get a k) no_clock)) (sym e)
        ∙ (fa (t - 1) (omega (arith, e, la))
        ∙ (ap f (before (t - 1) (omega (arith, e)))
        ∙ (sym (fb (t - 1) (omega (arith, e, lb)))
        ∙ ap (λ k. part (unwrap_or (slice_get b k) no_clock)) e)))

    abbrev ones : Clock → Bool
    ones c = next_one (bit x.one c) (bit x.two c) (is_put x c) (is_transfer ends.sink c)

    abbrev twos : Clock → Bool
    twos c = next_two (bit x.one c) (bit x.two c) (is_put x c) (is_transfer ends.sink c)

    one_same : bit x.one here ≡ bit x.one there
    one_same = from_last (bit x.one) (λ c. if bit g.reset c then false else ones c) ha.wired.one hb.wired.one

    two_same : bit x.two here ≡ bit x.two there
    two_same = from_last (bit x.two) (λ c. if bit g.reset c then false else twos c) ha.wired.two hb.wired.two

    current_same : bit g.current here ≡ bit g.current there
    current_same = from_last (bit g.current) (λ c. if bit x.enable c then bit x.here c else bit g.current c) ha.wired.current hb.wired.current

    word_same : (k : ℕ) → k < ends.columns → word_in (ends.outs k) here ≡ word_in (ends.outs k) there
    word_same k l =
        from_last (word_in (ends.outs k)) (λ c. next_a (bit x.one c) (bit x.two c) (is_transfer ends.sink c) (word_in (ends.outs k) c) (word_in (x.second k) c)
        (word_in (x.made k) c))
        (ha.queued.shown k l) (hb.queued.shown k l)

    -- as many steps before
    back : start + (t - start) ≡ t
    back = omega (arith, from)

    steps_same : steps_before x start a (t - start) ≡ steps_before x start b (t - start)
    steps_same = passing_same (λ k. bit x.enable (unwrap_or (slice_get (drop start a) k) no_clock))
        (λ k. bit x.enable (unwrap_or (slice_get (drop start b) k) no_clock)) (t - start)
        (λ k l. ap (bit x.enable) (or_drop start a k no_clock ∙ (before (start + k) (omega (arith, l, from)) ∙ sym (or_drop start b k no_clock))))

    mark_same : (y : ℕ) (number : ℕ → Bool) → BySteps x start a (bit y) number → BySteps x start b (bit y) number → bit y here ≡ bit y there
    mark_same y number fa fb =
        ap (λ k. bit y (unwrap_or (slice_get a k) no_clock)) (sym back)
        ∙ (ap (bit y) (sym (or_drop start a (t - start) no_clock))
        ∙ (fa (t - start) (omega (arith, length-drop start a, from, la))
        ∙ (ap number steps_same
        ∙ (sym (fb (t - start) (omega (arith, length-drop start b, from, lb)))
        ∙ (ap (bit y) (or_drop start b (t - start) no_clock)
        ∙ ap (λ k. bit y (unwrap_or (slice_get b k) no_clock)) back)))))

    first_same : bit g.first here ≡ bit g.first there
    first_same = mark_same g.first (λ n. n % slowdown == 0) ha.marked.first hb.marked.first

    takes_same : bit x.takes here ≡ bit x.takes there
    takes_same =
        ha.wired.takes t la
        ∙ (ap (λ v. v || bit wanted here) first_same
        ∙ (ap (λ v. bit g.first there || v) (mark_same wanted (λ n. is_beat inputs (n % slowdown)) ha.marked.wants hb.marked.wants)
        ∙ sym (hb.wired.takes t lb)))

    asks_same : bit ends.source.ready here ≡ bit ends.source.ready there
    asks_same =
        (ha.wired.gates t la).ready
        ∙ (ap (λ v. not v && (bit x.takes here && (bit g.first here || bit g.current here))) two_same
        ∙ (ap (λ v. not (bit x.two there) && (v && (bit g.first here || bit g.current here))) takes_same
        ∙ (ap (λ v. not (bit x.two there) && (bit x.takes there && (v || bit g.current here))) first_same
        ∙ (ap (λ v. not (bit x.two there) && (bit x.takes there && (bit g.first there || v))) current_same
        ∙ sym (hb.wired.gates t lb).ready))))

  pub has_no_paths : HasNoPaths ends a b start
  unfolding word_at
  has_no_paths = record {
    asks = λ t from la lb same.
        same_bits (word_at a t ends.source.ready) (word_at b t ends.source.ready) (ha.asks t la) (hb.asks t lb) (asks_same t from la lb same);
    stands = λ t from la lb same.
        same_bits (word_at a t ends.sink.valid) (word_at b t ends.sink.valid) (ha.stands t la) (hb.stands t lb)
        (ap (λ k. bit k (unwrap_or (slice_get a t) no_clock)) ha.wired.valid ∙
        (one_same t from la lb same ∙ ap (λ k. bit k (unwrap_or (slice_get b t) no_clock)) (sym ha.wired.valid)));
    words = λ k l t from la lb same. word_same t from la lb same k l;
  }
