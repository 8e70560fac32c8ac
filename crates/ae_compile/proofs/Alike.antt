-- Lines, sums and words are those of what is shown in the clocks that count.
use Rattle.std.proofs.Common.{ℕ, zero, suc, Bool, true, false, if◌then◌else◌, flat_map, ◌≡◌, ◌+◌, ◌<◌, ◌≤◌, List, [], ◌∷◌, ◌++◌, length, arith, refl, ap, sym, ◌∙◌}
use Rattle.std.specs.List.{filter, range_with_len, sum}
use Rattle.std.proofs.lemmas.List.Concat.{flat_map-cons}
use Rattle.ae_sttype.specs.StTree.{StTree}
use Rattle.ae_play.specs.Lines.{clock_line, clock_lines}
use Rattle.ae_play.specs.Sums.{AreSums, all_stand, valid_words}
use Rattle.ae_play.specs.Words.{port_words}
use Rattle.ae_play.specs.declared.sums.Sums.{Sums}

pub lines_alike : (slowdown latency : ℕ) (outs : List StTree) (f g : ℕ → List ℕ) (k : ℕ) → ((c : ℕ) → c < k → f c ≡ g c)
    → clock_lines slowdown latency outs f k ≡ clock_lines slowdown latency outs g k
lines_alike slowdown latency outs f g zero h = refl
lines_alike slowdown latency outs f g (suc k) h =
    λ i. lines_alike slowdown latency outs f g k (λ c below. h c (omega (arith, below))) i ++ clock_line slowdown latency outs k (h k (omega arith) i)

abbrev AreBelow : (k : ℕ) → List ℕ → Type 0
AreBelow k [] = Unit {0}
AreBelow k (c ∷ ks) = (c < k) × AreBelow k ks

flat_alike : (f g : ℕ → List ℕ) (ks : List ℕ) (k : ℕ) → AreBelow k ks → ((c : ℕ) → c < k → f c ≡ g c) → flat_map f ks ≡ flat_map g ks
flat_alike f g [] k small h = refl
flat_alike f g (c ∷ ks) k small h = flat_map-cons f c ks ∙ (λ i. h c small.0 i ++ flat_alike f g ks k small.1 h i) ∙ sym (flat_map-cons g c ks)

range_small : (a n k : ℕ) → a + n ≤ k → AreBelow k (range_with_len a n)
range_small a zero k h = tt
range_small a (suc n) k h = (omega arith, range_small (a + 1) n k (omega arith))

kept_small : (test : ℕ → Bool) (ks : List ℕ) (k : ℕ) → AreBelow k ks → AreBelow k (filter test ks)
kept_small test [] k h = tt
kept_small test (c ∷ ks) k h = by (test c) (kept_small test ks k h.1)
  where
    by : (b : Bool) → AreBelow k (filter test ks) → AreBelow k (if b then c ∷ filter test ks else filter test ks)
    by true rest = (h.0, rest)
    by false rest = rest

pub sums_alike : (slowdown latency : ℕ) (outs : List StTree) (f g : ℕ → List ℕ) (k : ℕ) (sums : Sums) → ((c : ℕ) → c < k → f c ≡ g c)
    → AreSums slowdown latency outs f k sums → AreSums slowdown latency outs g k sums
sums_alike slowdown latency outs f g k sums h s =
    let small = range_small 0 k k (omega arith) in
    let valid : valid_words slowdown latency outs f k ≡ valid_words slowdown latency outs g k =
    flat_alike f g (filter (all_stand slowdown latency outs) (range_with_len 0 k)) k
    (kept_small (all_stand slowdown latency outs) (range_with_len 0 k) k small) h in
    record {
      valid = s.valid ∙ ap length valid;
      valid_sum = s.valid_sum ∙ ap sum valid;
      whole_sum = s.whole_sum ∙ ap sum (flat_alike f g (range_with_len 0 k) k small h);
    }

pub words_alike : (given taken f g : ℕ → List ℕ) (k : ℕ) → ((c : ℕ) → c < k → given c ≡ taken c) → ((c : ℕ) → c < k → f c ≡ g c)
    → port_words given f k ≡ port_words taken g k
words_alike given taken f g k h e =
    flat_alike (λ c. given c ++ f c) (λ c. taken c ++ g c) (range_with_len 0 k) k (range_small 0 k k (omega arith)) (λ c below i. h c below i ++ e c below i)
