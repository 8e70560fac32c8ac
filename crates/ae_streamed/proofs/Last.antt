-- The last clock of a block in which an element of a layout stands.
use Rattle.std.proofs.Common.{ℕ, zero, suc, ◌≡◌, ◌+◌, ◌-◌, ◌*◌, ◌/◌, ◌%◌, ◌<◌, ◌≤◌, max, inl, inr, Bool, true, false, List, [], ◌∷◌, ◌++◌, length, length-append, map, Some, slice_get, arith, refl, sym, ap, ◌∙◌, subst}
use Rattle.std.specs.Prelude.{◌||◌, ◌&&◌, ◌==◌, nat_lt}
use Rattle.std.proofs.lemmas.Bool.{cases_lt, eqb-true}
use Rattle.std.proofs.lemmas.Nat.{div-add-mod', div_below, mod-mul-add, mul-le}
use Rattle.std.proofs.lemmas.Option.{slice_get-get_or}
use Rattle.ae_word.specs.AtomTree.{AtomTree}
use Rattle.ae_sttype.specs.declared.st_type.StType.{StType}
use Rattle.ae_sttype.specs.StTree.{StTree, atom, tseq, sseq, st_tree, time}
use Rattle.ae_sttype.specs.Size.{HasLengths, IsInSize}
use Rattle.ae_sttype.specs.Slots.{slots}
use Rattle.ae_sttype.proofs.Bounds.{time_pos}
use Rattle.ae_stream.specs.Streams.{in_clock, is_beat}
use Rattle.ae_streamed.specs.Beats.{AreLayouts, IsLastBeat}
use Rattle.ae_streamed.proofs.Beats.{both_true, in_slots_across, in_slots_later, is_lt, live_of}
use Rattle.ae_streamed.proofs.Bits.{beat_more}
use Rattle.ae_streamed.proofs.Within.{slot_in}
use Rattle.ae_stream.proofs.Flags.{lt_is}

-- of one layout
pub record IsLastIn (s : StTree) (clock : ℕ) : Type 0 where
  pub stands : in_clock (slots s) clock ≡ true
  pub greatest : (c : ℕ) → in_clock (slots s) c ≡ true → c ≤ clock

or_none : (a : Bool) → (a || false) ≡ a
or_none true = refl
or_none false = refl

pub clock_below : (s : StTree) (c : ℕ) → HasLengths s → in_clock (slots s) c ≡ true → c < time s
clock_below s c h stands =
    let at = live_of s c stands in
    let found : slice_get (slots s) at.0 ≡ Some at.1 = slice_get-get_or (slots s) at.0 at.1 at.2 ∙ ap Some at.3 in
    omega (arith, (slot_in s h at.0 at.1 found).0, at.4)

last_atom : (a : AtomTree) → IsLastIn (atom a) 0
last_atom a = record { stands = refl; greatest = λ c h. (let e : 0 ≡ c = eqb-true 0 c (sym (or_none (0 == c)) ∙ h) in omega (arith, e)) }

last_tseq : (n i : ℕ) (t : StTree) (clock : ℕ) → HasLengths (tseq n i t) → IsLastIn t clock → IsLastIn (tseq n i t) ((n - 1) * time t + clock)
last_tseq n i t clock h last =
    let k : ℕ = time t in
    let x : ℕ = (n - 1) * k + clock in
    let some : 0 < k = time_pos t h.1 in
    let low : clock < k = clock_below t clock h.1 last.stands in
    let many : n - 1 + 1 ≡ n = omega (arith, h.0) in
    let whole : (n - 1 + 1) * k ≡ n * k = ap (λ v. v * k) many in
    let below : x < n * k = omega (arith, whole, low) in
    record {
      stands = in_slots_later n i t x h ∙ (ap (λ b. b && in_clock (slots t) (x % k)) (lt_is x (n * k) below) ∙
          (ap (in_clock (slots t)) (mod-mul-add (n - 1) k clock low) ∙ last.stands));
      greatest = λ c stands.
          let b = both_true (nat_lt c (n * k)) (in_clock (slots t) (c % k)) (sym (in_slots_later n i t c h) ∙ stands) in
          let copy : c / k < n = div_below c k n some (is_lt c (n * k) b.0) in
          let row : c / k * k ≤ (n - 1) * k = mul-le (c / k) k (n - 1) k (omega (arith, copy)) (omega arith) in
          omega (arith, div-add-mod' c k, last.greatest (c % k) b.1, row);
    }

last_sseq : (n : ℕ) (t : StTree) (clock : ℕ) → HasLengths (sseq n t) → IsLastIn t clock → IsLastIn (sseq n t) clock
last_sseq n t clock h last = record {
  stands = in_slots_across n t clock h ∙ last.stands;
  greatest = λ c stands. last.greatest c (sym (in_slots_across n t c h) ∙ stands);
}

-- where the layout is one of these
pub in_atom : (s : StTree) (a : AtomTree) → s ≡ atom a → IsLastIn s 0
in_atom s a is = subst (λ v. IsLastIn v 0) (sym is) (last_atom a)

pub in_tseq : (s : StTree) (n i : ℕ) (t : StTree) (clock : ℕ) → s ≡ tseq n i t → HasLengths s → IsLastIn t clock → IsLastIn s ((n - 1) * time t + clock)
in_tseq s n i t clock is h last = subst (λ v. IsLastIn v ((n - 1) * time t + clock)) (sym is) (last_tseq n i t clock (subst HasLengths is h) last)

pub in_sseq : (s : StTree) (n : ℕ) (t : StTree) (clock : ℕ) → s ≡ sseq n t → HasLengths s → IsLastIn t clock → IsLastIn s clock
in_sseq s n t clock is h last = subst (λ v. IsLastIn v clock) (sym is) (last_sseq n t clock (subst HasLengths is h) last)

-- of a list of one layout
pub of_one : (s : StTree) (clock : ℕ) → IsLastBeat (s ∷ []) clock → IsLastIn s clock
of_one s clock h = record { stands = sym (or_none (in_clock (slots s) clock)) ∙ h.stands; greatest = λ c e. h.greatest c (or_none (in_clock (slots s) c) ∙ e) }

pub one_of : (s : StTree) (clock : ℕ) → IsLastIn s clock → IsLastBeat (s ∷ []) clock
one_of s clock h = record { stands = or_none (in_clock (slots s) clock) ∙ h.stands; greatest = λ c e. h.greatest c (sym (or_none (in_clock (slots s) c)) ∙ e) }

-- what the last clock of a layout in time asks for
pub record AreShort (n span clock : ℕ) : Type 0 where
  pub some : 1 ≤ n
  pub before : (n - 1) * span ≤ 4096
  pub all : (n - 1) * span + clock ≤ 4096

pub short : (s t : StTree) (n i span clock : ℕ) → s ≡ tseq n i t → span ≡ time t → IsInSize s → IsLastBeat (t ∷ []) clock → AreShort n span clock
short s t n i span clock is same size last =
    let whole : IsInSize (tseq n i t) = subst IsInSize is size in
    let some : 0 < n = whole.lengths.0 in
    let low : clock < time t = clock_below t clock whole.lengths.1 (of_one t clock last).stands in
    let many : n - 1 + 1 ≡ n = omega arith in
    let rows : (n - 1 + 1) * time t ≡ n * time t = ap (λ v. v * time t) many in
    let few : (n + i) * time t ≤ 4096 = whole.in_time in
    rw same (record { some = some; before = omega (arith, rows); all = omega (arith, rows) })

-- ---- of some layouts

-- the last clock of the first so many, 0 where there is none
pub record IsLastOf (layouts : List StTree) (clock : ℕ) : Type 0 where
  pub stands : 0 < length layouts → is_beat layouts clock ≡ true
  pub greatest : (c : ℕ) → is_beat layouts c ≡ true → c ≤ clock
  pub none : length layouts ≡ 0 → clock ≡ 0

pub last_none : IsLastOf [] 0
last_none = record { stands = λ l. absurd (omega arith); greatest = λ c h. (let e : false ≡ true = h in cc); none = λ e. refl }

either_true : (a b : Bool) (P : Type 0) → (a ≡ true → P) → (b ≡ true → P) → (a || b) ≡ true → P
either_true true b P f g h = f refl
either_true false b P f g h = g h

right_true : (a b : Bool) → b ≡ true → (a || b) ≡ true
right_true true b h = refl
right_true false b h = h

left_true : (a b : Bool) → a ≡ true → (a || b) ≡ true
left_true true b h = refl
left_true false b h = (let e : false ≡ true = h in absurd (grind (arith, e)))

pub last_more : (layouts : List StTree) (s : StTree) (clock one : ℕ) → IsLastOf layouts clock → IsLastIn s one → IsLastOf (layouts ++ s ∷ []) (max clock one)
last_more layouts s clock one h last = record {
  stands = λ some. sym (beat_more layouts s (max clock one)) ∙ elim (cases_lt clock one) [
    | inl less ↦
        let e : max clock one ≡ one = omega (arith, less) in
        right_true (is_beat layouts (max clock one)) (in_clock (slots s) (max clock one)) (ap (in_clock (slots s)) e ∙ last.stands)
    | inr more ↦
        let e : max clock one ≡ clock = omega (arith, more) in
        by (length layouts) refl more e
  ];
  greatest = λ c stands. either_true (is_beat layouts c) (in_clock (slots s) c) (c ≤ max clock one) (λ b. omega (arith, h.greatest c b))
      (λ b. omega (arith, last.greatest c b)) (beat_more layouts s c ∙ stands);
  none = λ e. absurd (omega (arith, length-append layouts (s ∷ []), e));
}
  where
    by : (k : ℕ) → length layouts ≡ k → one ≤ clock → max clock one ≡ clock → (is_beat layouts (max clock one) || in_clock (slots s) (max clock one)) ≡ true
    by zero is more e =
        let z : max clock one ≡ one = omega (arith, h.none is, more) in
        right_true (is_beat layouts (max clock one)) (in_clock (slots s) (max clock one)) (ap (in_clock (slots s)) z ∙ last.stands)
    by (suc k) is more e = left_true (is_beat layouts (max clock one)) (in_clock (slots s) (max clock one))
        (ap (is_beat layouts) e ∙ h.stands (omega (arith, is)))

pub last_is : (layouts : List StType) (slowdown clock : ℕ) → AreLayouts slowdown layouts → IsLastOf (map st_tree layouts) clock
    → IsLastBeat (map st_tree layouts) clock
last_is [] slowdown clock h last = absurd (omega (arith, h.some))
last_is (x ∷ xs) slowdown clock h last = record { stands = last.stands (omega arith); greatest = last.greatest }

-- no element of such layouts stands behind the block
pub beat_below : (layouts : List StType) (slowdown c : ℕ)
    → ((k : ℕ) (layout : StType) → slice_get layouts k ≡ Some layout → HasLengths (st_tree layout) × (time (st_tree layout) ≡ slowdown))
    → is_beat (map st_tree layouts) c ≡ true → c < slowdown
beat_below [] slowdown c h stands = (let e : false ≡ true = stands in cc)
beat_below (x ∷ xs) slowdown c h stands =
    either_true (in_clock (slots (st_tree x)) c) (is_beat (map st_tree xs) c) (c < slowdown)
    (λ b. omega (arith, clock_below (st_tree x) c (h 0 x refl).0 b, (h 0 x refl).1))
    (λ b. beat_below xs slowdown c (λ k layout found. h (suc k) layout found) b) stands
