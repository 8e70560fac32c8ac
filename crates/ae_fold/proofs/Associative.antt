-- The operators of a fold are associative on words that fit, so a fold may be cut anywhere.
use Rattle.std.proofs.Common.{ℕ, ℤ, zero, suc, ◌≡◌, ◌+◌, ◌-◌, ◌*◌, ◌/◌, ◌%◌, ◌^◌, ◌<◌, ◌≤◌, max, arith, refl, sym, ap, ◌∙◌, inl, inr, Bool, true, false, int_lt}
use Rattle.std.specs.Int.{bit_at, int_min, int_max}
use Rattle.std.specs.Int.Bits.{bit_or, xor_assoc}
use Rattle.std.proofs.Math.Nat.{add_assoc, mul_assoc, add-mod-mod, mod-add-mod}
use Rattle.std.proofs.lemmas.Int.{ints, clamps}
use Rattle.std.proofs.lemmas.Nat.{mul-mod_first, mul-mod_second, and_assoc}
use Rattle.std.proofs.lemmas.Nat.Bits.{bit_at_or, same_from_bits}
use Rattle.std.proofs.lemmas.Bool.{cases_eq}
use Rattle.ae_word.specs.declared.op.WordOp.{WordOp}
use Rattle.ae_word.specs.declared.op.WordOp.TheVariants.{Add, Mul, And, Or, Xor, Min, Max, SMin, SMax}
use Rattle.ae_word.specs.WordTable.{OperandsFit, code, result_width_of, signed_value}
use Rattle.ae_word.proofs.Signed.{code-min_first, code-min_second, code-max_first, code-max_second}
use Rattle.ae_netlist.proofs.Fits.{word_fits}
use Rattle.ae_ops.specs.Folds.{IsFold, combine, fold_to}
use Rattle.ae_fold.specs.Folding.{Fit}

or_assoc : (a b c : ℕ) → bit_or (bit_or a b) c ≡ bit_or a (bit_or b c)
or_assoc a b c = same_from_bits _ _ (λ i.
    let l : bit_at (bit_or (bit_or a b) c) i ≡ max (max (bit_at a i) (bit_at b i)) (bit_at c i) = bit_at_or (bit_or a b) c i ∙
    ap (λ n. max n (bit_at c i)) (bit_at_or a b i) in
    let r : bit_at (bit_or a (bit_or b c)) i ≡ max (bit_at a i) (max (bit_at b i) (bit_at c i)) = bit_at_or a (bit_or b c) i ∙
    ap (max (bit_at a i)) (bit_at_or b c i) in
    l ∙ max_assoc (bit_at a i) (bit_at b i) (bit_at c i) ∙ sym r)
  where
    max_assoc : (x y z : ℕ) → max (max x y) z ≡ max x (max y z)
    max_assoc x y z = omega arith

-- ---- signed words

least_by : (v : Bool) (w a b : ℕ) → a < 2 ^ w → b < 2 ^ w → int_lt (signed_value w b) (signed_value w a) ≡ v
    → signed_value w (code w (int_min (signed_value w a) (signed_value w b))) ≡ int_min (signed_value w a) (signed_value w b)
least_by true w a b la lb is = ap (signed_value w) (code-min_second w a b lb is) ∙ rw is refl
least_by false w a b la lb is = ap (signed_value w) (code-min_first w a b la is) ∙ rw is refl

greatest_by : (v : Bool) (w a b : ℕ) → a < 2 ^ w → b < 2 ^ w → int_lt (signed_value w b) (signed_value w a) ≡ v
    → signed_value w (code w (int_max (signed_value w a) (signed_value w b))) ≡ int_max (signed_value w a) (signed_value w b)
greatest_by true w a b la lb is = ap (signed_value w) (code-max_first w a b la is) ∙ rw is refl
greatest_by false w a b la lb is = ap (signed_value w) (code-max_second w a b lb is) ∙ rw is refl

int_min_assoc : (a b c : ℤ) → int_min (int_min a b) c ≡ int_min a (int_min b c)
int_min_assoc a b c = omega (arith, ints, clamps)

int_max_assoc : (a b c : ℤ) → int_max (int_max a b) c ≡ int_max a (int_max b c)
int_max_assoc a b c = omega (arith, ints, clamps)

least_assoc : (w a b c : ℕ) → a < 2 ^ w → b < 2 ^ w → c < 2 ^ w → combine SMin w (combine SMin w a b) c ≡ combine SMin w a (combine SMin w b c)
least_assoc w a b c la lb lc =
    let x = signed_value w a in
    let y = signed_value w b in
    let z = signed_value w c in
    let l : signed_value w (code w (int_min x y)) ≡ int_min x y = least_by (int_lt y x) w a b la lb refl in
    let r : signed_value w (code w (int_min y z)) ≡ int_min y z = least_by (int_lt z y) w b c lb lc refl in
    ap (λ v. code w (int_min v z)) l ∙ ap (code w) (int_min_assoc x y z) ∙ sym (ap (λ v. code w (int_min x v)) r)

greatest_assoc : (w a b c : ℕ) → a < 2 ^ w → b < 2 ^ w → c < 2 ^ w → combine SMax w (combine SMax w a b) c ≡ combine SMax w a (combine SMax w b c)
greatest_assoc w a b c la lb lc =
    let x = signed_value w a in
    let y = signed_value w b in
    let z = signed_value w c in
    let l : signed_value w (code w (int_max x y)) ≡ int_max x y = greatest_by (int_lt y x) w a b la lb refl in
    let r : signed_value w (code w (int_max y z)) ≡ int_max y z = greatest_by (int_lt z y) w b c lb lc refl in
    ap (λ v. code w (int_max v z)) l ∙ ap (code w) (int_max_assoc x y z) ∙ sym (ap (λ v. code w (int_max x v)) r)

-- ---- all of them

pub combine_assoc : (op : WordOp) (w a b c : ℕ) → IsFold op → a < 2 ^ w → b < 2 ^ w → c < 2 ^ w
    → combine op w (combine op w a b) c ≡ combine op w a (combine op w b c)
combine_assoc Add w a b c f la lb lc = mod-add-mod (a + b) (2 ^ w) c ∙ ap (λ n. n % 2 ^ w) (add_assoc a b c) ∙ sym (add-mod-mod a (b + c) (2 ^ w))
combine_assoc Mul w a b c f la lb lc = mul-mod_first (a * b) c (2 ^ w) ∙ ap (λ n. n % 2 ^ w) (mul_assoc a b c) ∙ sym (mul-mod_second a (b * c) (2 ^ w))
combine_assoc And w a b c f la lb lc = and_assoc c a b
combine_assoc Or w a b c f la lb lc = or_assoc a b c
combine_assoc Xor w a b c f la lb lc = xor_assoc a b c
combine_assoc Min w a b c f la lb lc = omega arith
combine_assoc Max w a b c f la lb lc = omega arith
combine_assoc SMin w a b c f la lb lc = least_assoc w a b c la lb lc
combine_assoc SMax w a b c f la lb lc = greatest_assoc w a b c la lb lc
combine_assoc _ w a b c f la lb lc = absurd f

operands : (op : WordOp) (w a b : ℕ) → IsFold op → a < 2 ^ w → b < 2 ^ w → OperandsFit op w a b a × (result_width_of op w ≡ w)
operands Add w a b f la lb = ((la, lb), refl)
operands Mul w a b f la lb = ((la, lb), refl)
operands And w a b f la lb = ((la, lb), refl)
operands Or w a b f la lb = ((la, lb), refl)
operands Xor w a b f la lb = ((la, lb), refl)
operands Min w a b f la lb = ((la, lb), refl)
operands Max w a b f la lb = ((la, lb), refl)
operands SMin w a b f la lb = ((la, lb), refl)
operands SMax w a b f la lb = ((la, lb), refl)
operands _ w a b f la lb = absurd f

pub combine_fits : (op : WordOp) (w a b : ℕ) → IsFold op → a < 2 ^ w → b < 2 ^ w → combine op w a b < 2 ^ w
combine_fits op w a b f la lb = let o = operands op w a b f la lb in rw o.1 at (word_fits op w a b a o.0)

pub fold_zero : (op : WordOp) (w : ℕ) (f : ℕ → ℕ) → fold_to op w f 0 ≡ f 0
unfolding fold_to
fold_zero op w f = refl

pub fold_suc : (op : WordOp) (w : ℕ) (f : ℕ → ℕ) (n : ℕ) → fold_to op w f (suc n) ≡ combine op w (fold_to op w f n) (f (suc n))
unfolding fold_to
fold_suc op w f n = refl

-- a fold reads its words up to the last alone
pub fold_same : (op : WordOp) (w : ℕ) (f g : ℕ → ℕ) (n : ℕ) → ((i : ℕ) → i ≤ n → f i ≡ g i) → fold_to op w f n ≡ fold_to op w g n
unfolding fold_to
fold_same op w f g zero h = h 0 (omega arith)
fold_same op w f g (suc n) h =
    let before : fold_to op w f n ≡ fold_to op w g n = fold_same op w f g n (λ i l. h i (omega arith)) in
    let last : f (suc n) ≡ g (suc n) = h (suc n) (omega arith) in
    rw (before, last) refl

pub fit_less : {w : ℕ} {f : ℕ → ℕ} (m n : ℕ) → m ≤ n → Fit w f n → Fit w f m
fit_less m n l h = record { each = λ i li. h.each i (omega arith) }

pub fold_fits : (op : WordOp) (w : ℕ) (f : ℕ → ℕ) (n : ℕ) → IsFold op → Fit w f n → fold_to op w f n < 2 ^ w
unfolding fold_to
fold_fits op w f zero ok h = h.each 0 (omega arith)
fold_fits op w f (suc n) ok h = combine_fits op w _ _ ok (fold_fits op w f n ok (fit_less n (suc n) (omega arith) h)) (h.each (suc n) (omega arith))

-- the fold of the first m + 1 words, and then of n + 1 more
pub fold_cut : (op : WordOp) (w : ℕ) (f : ℕ → ℕ) (m n : ℕ) → IsFold op → Fit w f (suc (m + n))
    → fold_to op w f (suc (m + n)) ≡ combine op w (fold_to op w f m) (fold_to op w (λ i. f (suc (m + i))) n)
unfolding fold_to
fold_cut op w f m zero ok h =
    let e : m + 0 ≡ m = omega arith in
    rw e refl
fold_cut op w f m (suc n) ok h =
    let e : m + suc n ≡ suc (m + n) = omega arith in
    let below : Fit w f (suc (m + n)) = record { each = λ i li. h.each i (omega arith) } in
    let tail : Fit w (λ i. f (suc (m + i))) n = record { each = λ i li. h.each (suc (m + i)) (omega arith) } in
    rw (e, fold_cut op w f m n ok below)
    (combine_assoc op w _ _ _ ok (fold_fits op w f m ok (record { each = λ i li. h.each i (omega arith) })) (fold_fits op w (λ i. f (suc (m + i))) n ok tail)
    (h.each (suc (suc (m + n))) (omega arith)))

-- pairs of neighbours, of which the last may be alone, fold to the same
even_pairs : (op : WordOp) (w : ℕ) (f g : ℕ → ℕ) (n m : ℕ) → IsFold op → Fit w f (n - 1)
    → ((i : ℕ) → 2 * i + 1 < n → g i ≡ combine op w (f (2 * i)) (f (2 * i + 1))) → 2 * m + 1 < n
    → fold_to op w g m ≡ fold_to op w f (2 * m + 1)
even_pairs op w f g n zero ok fit both l = fold_zero op w g ∙ both 0 (omega arith) ∙ sym (fold_suc op w f 0 ∙ ap (λ v. combine op w v (f 1)) (fold_zero op w f))
even_pairs op w f g n (suc m) ok fit both l =
    let before : fold_to op w g m ≡ fold_to op w f (2 * m + 1) = even_pairs op w f g n m ok fit both (omega arith) in
    let pair : g (suc m) ≡ combine op w (f (2 * suc m)) (f (2 * suc m + 1)) = both (suc m) l in
    let p0 : 2 * suc m ≡ suc (2 * m + 1) = omega arith in
    let p1 : 2 * suc m + 1 ≡ suc (suc (2 * m + 1)) = omega arith in
    let last : fold_to op w f (suc (suc (2 * m + 1))) ≡ combine op w (combine op w (fold_to op w f (2 * m + 1)) (f (suc (2 * m + 1))))
    (f (suc (suc (2 * m + 1)))) =
    fold_suc op w f (suc (2 * m + 1)) ∙ ap (λ v. combine op w v (f (suc (suc (2 * m + 1))))) (fold_suc op w f (2 * m + 1)) in
    fold_suc op w g m
    ∙ rw (pair, before, p1, p0, last)
    (sym (combine_assoc op w _ _ _ ok (fold_fits op w f (2 * m + 1) ok (fit_less (2 * m + 1) (n - 1) (omega arith) fit))
    (fit.each (suc (2 * m + 1)) (omega arith)) (fit.each (suc (suc (2 * m + 1))) (omega arith))))

odd_pairs : (op : WordOp) (w : ℕ) (f g : ℕ → ℕ) (n m : ℕ) → IsFold op → Fit w f (n - 1)
    → ((i : ℕ) → 2 * i + 1 < n → g i ≡ combine op w (f (2 * i)) (f (2 * i + 1)))
    → ((i : ℕ) → 2 * i + 1 ≡ n → g i ≡ f (2 * i)) → 2 * m + 1 ≡ n → fold_to op w g m ≡ fold_to op w f (2 * m)
odd_pairs op w f g n zero ok fit both one h = fold_zero op w g ∙ one 0 h ∙ sym (fold_zero op w f)
odd_pairs op w f g n (suc m) ok fit both one h =
    let before : fold_to op w g m ≡ fold_to op w f (2 * m + 1) = even_pairs op w f g n m ok fit both (omega arith) in
    let last : g (suc m) ≡ f (2 * suc m) = one (suc m) h in
    let p : 2 * suc m ≡ suc (2 * m + 1) = omega arith in
    fold_suc op w g m ∙ rw (last, before, p) (sym (fold_suc op w f (2 * m + 1)))

pub pairs_fold : (op : WordOp) (w : ℕ) (f g : ℕ → ℕ) (n : ℕ) → IsFold op → Fit w f (n - 1)
    → ((i : ℕ) → 2 * i + 1 < n → g i ≡ combine op w (f (2 * i)) (f (2 * i + 1)))
    → ((i : ℕ) → 2 * i + 1 ≡ n → g i ≡ f (2 * i)) → 1 ≤ n → fold_to op w g ((n + 1) / 2 - 1) ≡ fold_to op w f (n - 1)
pairs_fold op w f g n ok fit both one some =
    let m : ℕ = (n + 1) / 2 - 1 in
    elim (cases_eq (n % 2) 0) [
      | inl e ↦
          let last : n - 1 ≡ 2 * m + 1 = omega arith in
          rw last (even_pairs op w f g n m ok fit both (omega arith))
      | inr e ↦
          let last : n - 1 ≡ 2 * m = omega arith in
          rw last (odd_pairs op w f g n m ok fit both one (omega arith))
    ]
