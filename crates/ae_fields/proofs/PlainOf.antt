-- The number that bytes write, as a function of them.
use Rattle.std.proofs.Common.{◌≡◌, ℕ, ◌^◌, ◌<◌, ◌≤◌, Bool, true, false, List, Option, Some, None, MatchOption, if◌then◌else◌, refl, sym, ap, ◌∙◌, arith}
use Rattle.std.proofs.lemmas.Bool.{leb-true, le-leb}
use Rattle.std.proofs.lemmas.Fmt.{digits_value-decimal}
use Rattle.std.proofs.lemmas.Slice.Eq.{bytes_eq-Decides}
use Rattle.std.specs.Fmt.{decimal}
use Rattle.std.specs.Str.{bytes_eq}
use Rattle.std.specs.Str.Parse.{digits_value}
use Rattle.ae_fields.specs.Number.{is_plain, plain_of}
use Rattle.ae_fields.proofs.PlainLemmas.{own}
use Rattle.ae_seq.proofs.Judging.{left as and-first, right as and-second}
use Rattle.ae_fields.proofs.PartLemmas.{and-both}

pub same-bytes : (xs ys : List ℕ) → bytes_eq xs ys ≡ true → xs ≡ ys
same-bytes xs ys = (bytes_eq-Decides xs ys).0

pub bytes-same : (xs ys : List ℕ) → xs ≡ ys → bytes_eq xs ys ≡ true
bytes-same xs ys = (bytes_eq-Decides xs ys).1

pub plain-some : (low high n : ℕ) (ds : List ℕ) → low ≤ n → n ≤ high → high < 2 ^ 64 → ds ≡ decimal n → plain_of low high ds ≡ Some n
plain-some low high n ds a b small e =
    let v : digits_value 10 ds ≡ n = ap (digits_value 10) e ∙ digits_value-decimal own n (omega arith) in
    let t : is_plain low high ds ≡ true = and-both _ _ (and-both _ _ (bytes-same ds _ (e ∙ ap decimal (sym v))) (le-leb low _ (omega arith)))
    (le-leb _ high (omega arith)) in
    ap (λ b. if b then Some (digits_value 10 ds) else None) t ∙ ap (λ x. Some x) v

pub plain-none : (low high : ℕ) (ds : List ℕ) → ((n : ℕ) → low ≤ n → n ≤ high → ds ≡ decimal n → ⊥) → plain_of low high ds ≡ None
plain-none low high ds none = by (is_plain low high ds) refl
  where
    by : (b : Bool) → is_plain low high ds ≡ b → (if b then Some (digits_value 10 ds) else None) ≡ None
    by false h = refl
    by true h =
        let ab = and-first _ _ h in
        absurd (none (digits_value 10 ds) (leb-true low _ (and-second (bytes_eq ds (decimal (digits_value 10 ds))) _ ab)) (leb-true _ high (and-second _ _ h))
        (same-bytes ds _ (and-first _ _ ab)))

pub plain-answer : (low high : ℕ) (ds : List ℕ) (o : Option ℕ) → high < 2 ^ 64
    → MatchOption o ((n : ℕ) → low ≤ n → n ≤ high → ds ≡ decimal n → ⊥) (λ n. (low ≤ n) × (n ≤ high) × (ds ≡ decimal n)) → o ≡ plain_of low high ds
plain-answer low high ds None small m = sym (plain-none low high ds m)
plain-answer low high ds (Some n) small m = sym (plain-some low high n ds m.0 m.1 small m.2)
