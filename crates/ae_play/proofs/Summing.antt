-- The sums of the words of a run, clock by clock.
use Rattle.std.proofs.Common.{ℕ, zero, suc, ◌≡◌, ◌+◌, ◌≤◌, Bool, true, false, ◌&&◌, if◌then◌else◌, List, [], ◌∷◌, ◌++◌, length, length-append, flat_map, arith, refl, ap, sym, ◌∙◌, subst}
use Rattle.std.specs.List.{filter, list_all, range_with_len, sum}
use Rattle.std.proofs.lemmas.Grind.{flat_map-append}
use Rattle.std.proofs.lemmas.List.{append-nil}
use Rattle.std.proofs.lemmas.List.Elements.{filter-append}
use Rattle.std.proofs.lemmas.List.Sums.{sum_by-append}
use Rattle.ae_sttype.specs.StTree.{StTree}
use Rattle.ae_layout.proofs.PieceLemmas.{joined_next, until_more}
use Rattle.ae_play.specs.Keeps.{Keeps}
use Rattle.ae_play.specs.Sums.{AreSums, all_stand, valid_words, words_until}
use Rattle.ae_play.specs.WordSums.{AreWithClock}
use Rattle.ae_play.specs.declared.sums.Sums.{Sums}

-- ---- the words of one clock more

only : (shown : ℕ → List ℕ) (c : ℕ) → flat_map shown (c ∷ []) ≡ shown c
only shown c = append-nil (shown c)

pub words_next : (shown : ℕ → List ℕ) (c : ℕ) → words_until shown (c + 1) ≡ words_until shown c ++ shown c
words_next shown c = joined_next shown c

abbrev taken : (stands : Bool) → List ℕ → List ℕ
taken b ws = if b then ws else []

kept : (test : ℕ → Bool) (shown : ℕ → List ℕ) (c : ℕ) (b : Bool) → test c ≡ b → flat_map shown (filter test (c ∷ [])) ≡ taken b (shown c)
kept test shown c true e = rw (e) (only shown c)
kept test shown c false e = rw (e) refl

valid_next : (slowdown latency : ℕ) (outs : List StTree) (shown : ℕ → List ℕ) (c : ℕ) (b : Bool) → b ≡ all_stand slowdown latency outs c
    → valid_words slowdown latency outs shown (c + 1) ≡ valid_words slowdown latency outs shown c ++ taken b (shown c)
valid_next slowdown latency outs shown c b e =
    let test = all_stand slowdown latency outs in
    ap (λ ks. flat_map shown (filter test ks)) (until_more c)
    ∙ ap (flat_map shown) (filter-append test (range_with_len 0 c) (c ∷ []))
    ∙ flat_map-append shown (filter test (range_with_len 0 c)) (filter test (c ∷ []))
    ∙ ap (λ ws. valid_words slowdown latency outs shown c ++ ws) (kept test shown c b (sym e))

sum-append : (xs ys : List ℕ) → sum (xs ++ ys) ≡ sum xs + sum ys
sum-append xs ys = sum_by-append (λ (w : ℕ). w) xs ys

-- ---- the sum of words

length-taken : (b : Bool) (ws : List ℕ) → length (taken b ws) ≡ (if b then length ws else 0)
length-taken true ws = refl
length-taken false ws = refl

sum-taken : (b : Bool) (ws : List ℕ) → sum (taken b ws) ≡ (if b then sum ws else 0)
sum-taken true ws = refl
sum-taken false ws = refl

at_most : (b : Bool) (n : ℕ) → (if b then n else 0) ≤ n
at_most true n = omega arith
at_most false n = omega arith

summed : (slowdown latency : ℕ) (outs : List StTree) (shown : ℕ → List ℕ) (c : ℕ) (sums sums' : Sums) → AreSums slowdown latency outs shown c sums
    → AreWithClock (all_stand slowdown latency outs c) (shown c) sums sums' → AreSums slowdown latency outs shown (c + 1) sums'
summed slowdown latency outs shown c sums sums' s w =
    let b = all_stand slowdown latency outs c in
    let valid = valid_next slowdown latency outs shown c b refl in
    let before = valid_words slowdown latency outs shown c in
    record {
      valid = w.valid ∙ (λ i. s.valid i + (if b then length (shown c) else 0)) ∙
          sym (ap length valid ∙ length-append before (taken b (shown c)) ∙ ap (λ k. length before + k) (length-taken b (shown c)));
      valid_sum = w.valid_sum ∙ (λ i. s.valid_sum i + (if b then sum (shown c) else 0)) ∙
          sym (ap sum valid ∙ sum-append before (taken b (shown c)) ∙ ap (λ k. sum before + k) (sum-taken b (shown c)));
      whole_sum = w.whole_sum ∙ (λ i. s.whole_sum i + sum (shown c)) ∙ sym (ap sum (words_next shown c) ∙ sum-append (words_until shown c) (shown c));
    }

pub none_summed : (slowdown latency : ℕ) (outs : List StTree) (shown : ℕ → List ℕ)
    → AreSums slowdown latency outs shown 0 (record { valid = 0; valid_sum = 0; whole_sum = 0 })
none_summed slowdown latency outs shown = record { valid = refl; valid_sum = refl; whole_sum = refl }

-- the sums of all clocks
pub sums_kept : (slowdown latency : ℕ) (outs : List StTree) (row shown : ℕ → List ℕ) (first : Sums) (n : ℕ) (last : Sums)
    → Keeps (λ c r ws old new. AreWithClock (all_stand slowdown latency outs c) ws old new) row shown first n last
    → AreSums slowdown latency outs shown 0 first → AreSums slowdown latency outs shown n last
sums_kept slowdown latency outs row shown first zero last k none = subst (AreSums slowdown latency outs shown 0) (sym k) none
sums_kept slowdown latency outs row shown first (suc c) last k none =
    let next : c + 1 ≡ suc c = omega arith in
    subst (λ m. AreSums slowdown latency outs shown m last) next
    (summed slowdown latency outs shown c k.0 last (sums_kept slowdown latency outs row shown first c k.0 k.1 none) k.2)

pub one_not : (test : StTree → Bool) (s : StTree) (ss rest all : List StTree) → ss ≡ s ∷ rest → test s ≡ false → list_all test ss ≡ list_all test all
    → false ≡ list_all test all
one_not test s ss rest all is not was = (λ i. sym not i && list_all test rest) ∙ sym (ap (list_all test) is) ∙ was

pub one_more : (test : StTree → Bool) (s : StTree) (ss rest all : List StTree) → ss ≡ s ∷ rest → test s ≡ true → list_all test ss ≡ list_all test all
    → list_all test rest ≡ list_all test all
one_more test s ss rest all is so was = (λ i. sym so i && list_all test rest) ∙ sym (ap (list_all test) is) ∙ was
