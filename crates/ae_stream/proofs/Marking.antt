-- Nets that have certain words in every reset run have those of the number of steps before in each clock behind the reset.
use Rattle.std.specs.Prelude.{slice_get, unwrap_or}
use Rattle.std.proofs.Common.{get_or, ℕ, zero, suc, ◌≡◌, ◌+◌, ◌-◌, ◌<◌, ◌≤◌, ◌++◌, List, [], ◌∷◌, length, length-append, length-drop, length-take, map, take, drop, Bool, true, cond, arith, refl, ap, sym, ◌∙◌}
use Rattle.std.specs.List.{filter}
use Rattle.std.proofs.lemmas.List.{get_or-append_right, get_or_push, length-map}
use Rattle.std.proofs.lemmas.Option.{unwrap_or-slice_get}
use Rattle.ae_netlist.proofs.OrElse.{or_append_left, or_drop, or_map, or_take, shaped_at}
use Rattle.ae_netlist.specs.Circuit.{Circuit, IsFormed}
use Rattle.ae_netlist.specs.Runs.{Clock, no_clock, word_at, HasWords, InEveryResetRun, IsReset, IsRun, IsShaped}
use Rattle.ae_netlist.proofs.Growing.{extends_refl}
use Rattle.ae_stall.specs.Held.{IsHeld, inner_clock, seen_part, until, without_inputs}
use Rattle.ae_stall.specs.Images.{placed}
use Rattle.ae_stall.proofs.Lists.{IsFound, all_until, without_inputs_at}
use Rattle.ae_stream.specs.Passing.{passing}
use Rattle.ae_stream.specs.Streams.{bit}
use Rattle.ae_stream.specs.Control.{Control, steps_before, word_in}
use Rattle.ae_stream.proofs.Parts.{passed_length}

-- where the first elements pass, those that pass up to one behind them are these and those that pass among the others
until_behind : {X : Type 0} (pass : X → Bool) (start t : ℕ) (xs : List X) (d : X)
    → ((k : ℕ) → k < start → k < length xs → pass (unwrap_or (slice_get xs k) d) ≡ true)
    → start + t < length xs → until pass (start + t) xs d ≡ take start xs ++ until pass t (drop start xs) d
until_behind pass zero t xs d h l = (let e : 0 + t ≡ t = omega arith in rw e refl)
until_behind pass (suc start) t [] d h l = absurd (omega arith)
until_behind {X = X} pass (suc start) t (x ∷ xs) d h l =
    let rest : until pass (start + t) xs d ≡ take start xs
    ++ until pass t (drop start xs) d = until_behind pass start t xs d (λ k a b. h (suc k) (omega arith) (omega arith)) (omega arith) in
    let e : suc start + t ≡ suc (start + t) = omega arith in
    let on : pass x ≡ true = h 0 (omega arith) (omega arith) in
    ap (λ k. until pass k (x ∷ xs) d) e
    ∙ (ap (λ v. cond {A = List X} v (x ∷ filter pass (take (start + t) xs)) (filter pass (take (start + t) xs)) ++ get_or xs (start + t) d ∷ [])
    on
    ∙ ap (λ ys. x ∷ ys) rest)

-- the last of them stands behind those before it that pass
until_last : {X : Type 0} (pass : X → Bool) (t : ℕ) (xs : List X) (d : X) → t < length xs
    → (length (until pass t xs d) ≡ passing (λ k. pass (unwrap_or (slice_get xs k) d)) t + 1)
    × (unwrap_or (slice_get (until pass t xs d) (passing (λ k. pass (unwrap_or (slice_get xs k) d)) t)) d ≡ unwrap_or (slice_get xs t) d)
until_last {X = X} pass t xs d l =
    let cut : length (take t xs) ≡ t = omega (arith, length-take t xs, l) in
    let many : length (filter pass (take t xs)) ≡ passing (λ k. pass (unwrap_or (slice_get xs k) d)) t =
    passed_length pass (λ k. pass (unwrap_or (slice_get xs k) d)) (take t xs) d (λ k b. ap pass (or_take t xs k d (omega (arith, b, cut)))) ∙
    ap (passing (λ k. pass (unwrap_or (slice_get xs k) d))) cut in (
      length-append (filter pass (take t xs)) (get_or xs t d ∷ []) ∙ omega (arith, many),
      unwrap_or-slice_get (until pass t xs d) (passing (λ k. pass (unwrap_or (slice_get xs k) d)) t) d
          ∙ (get_or_push (filter pass (take t xs)) (get_or xs t d) d (passing (λ k. pass (unwrap_or (slice_get xs k) d)) t) many
          ∙ sym (unwrap_or-slice_get xs t d)),
    )

module _ (x : Control) (marked copied new : Circuit) (formed : IsFormed marked.cells) (some : 0 < length marked.cells)
    (held : IsHeld 2 x.enable marked copied new)
    (longer : length marked.cells + 2 ≤ length copied.cells) (run : List Clock) (start : ℕ) (r : IsRun new.cells run) (reset : IsReset run 0 start)
    (on : (t : ℕ) → t < start → t < length run → bit x.enable (unwrap_or (slice_get run t) no_clock) ≡ true) where
  -- ---- the clocks that are seen up to one behind the reset

  module _ (t : ℕ) (within : t < length (drop start run)) where
    size : length (drop start run) ≡ length run - start
    size = length-drop start run

    abbrev chosen : List Clock
    chosen = until (bit x.enable) (start + t) run no_clock

    abbrev later : List Clock
    later = until (bit x.enable) t (drop start run) no_clock

    abbrev part : List Clock
    part = map (inner_clock 2 (length marked.cells)) chosen

    is_run : IsRun marked.cells part
    unfolding seen_part
    is_run = held.sees run r (start + t) (omega (arith, size, within))

    joined : chosen ≡ take start run ++ later
    joined = until_behind (bit x.enable) start t run no_clock on (omega (arith, size, within))

    firsts : length (take start run) ≡ start
    firsts = omega (arith, length-take start run, size, within)

    long : length chosen ≡ start + length later
    long = ap length joined ∙ (length-append (take start run) later ∙ omega (arith, firsts))

    -- the word of a net there is that of its place in a clock of the run
    word : (k i y : ℕ) → k < length chosen → i < length run → unwrap_or (slice_get chosen k) no_clock ≡ unwrap_or (slice_get run i) no_clock
        → y < length marked.cells
        → word_at part k y ≡ word_at run i (placed 2 y)
    unfolding word_at
    word k i y l b e n =
        let s : IsShaped new.cells (unwrap_or (slice_get run i) no_clock) = shaped_at r i b in
        ap (word_in y) (or_map (inner_clock 2 (length marked.cells)) chosen k no_clock no_clock l ∙ ap (inner_clock 2 (length marked.cells)) e)
        ∙ (unwrap_or-slice_get (without_inputs 2 (length marked.cells) (unwrap_or (slice_get run i) no_clock).words) y 0
        ∙ (without_inputs_at 2 (length marked.cells) (unwrap_or (slice_get run i) no_clock).words y 0 n (omega (arith, s.words, held.longer, longer))
        ∙ sym (unwrap_or-slice_get (unwrap_or (slice_get run i) no_clock).words (placed 2 y) 0)))

    first_at : (k : ℕ) → k < start → unwrap_or (slice_get chosen k) no_clock ≡ unwrap_or (slice_get run k) no_clock
    first_at k l = ap (λ c. unwrap_or (slice_get c k) no_clock) joined ∙
        (or_append_left (take start run) later no_clock k (omega (arith, firsts, l)) ∙ or_take start run k no_clock l)

    later_at : (k : ℕ) → unwrap_or (slice_get chosen (start + k)) no_clock ≡ unwrap_or (slice_get later k) no_clock
    later_at k =
        let e : start + k - start ≡ k = omega arith in
        ap (λ c. unwrap_or (slice_get c (start + k)) no_clock) joined ∙
        (unwrap_or-slice_get (take start run ++ later) (start + k) no_clock ∙
        (get_or-append_right (take start run) later start (start + k) no_clock firsts (omega arith) ∙
        (sym (unwrap_or-slice_get later (start + k - start) no_clock) ∙
        ap (λ i. unwrap_or (slice_get later i) no_clock) e)))

    resets : IsReset part 0 start
    resets = record {
      some = reset.some;
      high = λ k a b.
          let l : k < length chosen = omega (arith, b, length-map chosen (inner_clock 2 (length marked.cells))) in
          word k k 0 l (omega (arith, a, size, within)) (first_at k a) some ∙ reset.high k a (omega (arith, a, size, within));
      low = λ k a b.
          let l : k < length chosen = omega (arith, b, length-map chosen (inner_clock 2 (length marked.cells))) in
          let e : start + (k - start) ≡ k = omega (arith, a) in
          let found : IsFound (drop start run) no_clock (get_or later (k - start) no_clock) = (all_until (bit x.enable) t
          (drop start run) no_clock within).found (k - start) (omega (arith, long, l, a)) in
          let inside : found.at < length (drop start run) = found.within in
          let is : unwrap_or (slice_get chosen k) no_clock ≡ unwrap_or (slice_get run (start + found.at)) no_clock = ap
          (λ i. unwrap_or (slice_get chosen i) no_clock) (sym e) ∙
          (later_at (k - start) ∙ (unwrap_or-slice_get later (k - start) no_clock ∙ (sym found.is
          ∙ (sym (unwrap_or-slice_get (drop start run) found.at no_clock) ∙ or_drop start run found.at no_clock)))) in
          word k (start + found.at) 0 l (omega (arith, inside, size)) is some ∙ reset.low (start + found.at) (omega arith) (omega (arith, inside, size));
    }

    pub seen : (y : ℕ) (f : ℕ → ℕ) → y < length marked.cells → InEveryResetRun marked.cells 0 (λ run start. HasWords run start y f)
        → word_in (placed 2 y) (unwrap_or (slice_get (drop start run) t) no_clock) ≡ f (steps_before x start run t)
    unfolding word_at
    seen y f b words =
        let n : ℕ = steps_before x start run t in
        let last = until_last (bit x.enable) t (drop start run) no_clock within in
        let far : start + n < length chosen = omega (arith, long, last.0) in
        let is : unwrap_or (slice_get chosen (start + n)) no_clock ≡ unwrap_or (slice_get run (start + t)) no_clock = later_at n ∙
        (last.1 ∙ or_drop start run t no_clock) in
        ap (word_in (placed 2 y)) (or_drop start run t no_clock)
        ∙ (sym (word (start + n) (start + t) y far (omega (arith, size, within)) is b)
        ∙ words marked.cells (extends_refl marked.cells) part is_run start resets n
        (omega (arith, far, length-map chosen (inner_clock 2 (length marked.cells)))))

  pub marks_seen : (y : ℕ) (f : ℕ → ℕ) → y < length marked.cells → InEveryResetRun marked.cells 0 (λ run start. HasWords run start y f)
      → (t : ℕ) → t < length (drop start run) → word_in (placed 2 y) (unwrap_or (slice_get (drop start run) t) no_clock) ≡ f (steps_before x start run t)
  marks_seen y f b words t l = seen t l y f b words
