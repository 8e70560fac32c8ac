-- Records of plain fields, in which nothing needs quotes.
use Rattle.std.proofs.Common.{◌≡◌, ℕ, ◌<◌, ◌^◌, true, List, [], ◌∷◌, ◌++◌, refl, ap, sym, ◌∙◌, append_assoc, arith}
use Rattle.std.specs.Fmt.{decimal}
use Rattle.std.specs.Char.{is_ascii_digit}
use Rattle.std.specs.Str.{all_ascii_digits}
use Rattle.std.proofs.lemmas.Bool.Decides.{nat_tests}
use Rattle.std.proofs.lemmas.Fmt.{digits_decimal}
use Rattle.ae_fields.proofs.PlainLemmas.{own}
use Rattle.ae_seq.specs.Formed.{is_name_byte, all_name_bytes}
use Rattle.ae_jobs.specs.CostTables.{comma_line, more_fields}
use Rattle.ae_seq.proofs.Judging.{left as both_left, right as both_right}

-- a number in decimal is plain
digit_name : (d : ℕ) → is_ascii_digit d ≡ true → is_name_byte d ≡ true
digit_name d h = grind (arith, nat_tests)

digits_plain : (ds : List ℕ) → all_ascii_digits ds ≡ true → all_name_bytes ds ≡ true
digits_plain [] h = refl
digits_plain (d ∷ ds) h =
    rw (digit_name d (both_left (is_ascii_digit d) (all_ascii_digits ds) h)) (digits_plain ds (both_right (is_ascii_digit d) (all_ascii_digits ds) h))

pub decimal_plain : (n : ℕ) → n < 2 ^ 64 → all_name_bytes (decimal n) ≡ true
decimal_plain n h = digits_plain (decimal n) (digits_decimal own n h)

-- what is written so far with the rest of a record behind it
pub field_next : (out now next told field : List ℕ) (fs : List (List ℕ)) → next ≡ now ++ 44 ∷ told → told ≡ field → next ++ more_fields fs ≡ out → now
    ++ more_fields (field ∷ fs) ≡ out
field_next out now next told field fs e is h =
    sym (append_assoc now (44 ∷ field) (more_fields fs)) ∙ (ap (λ xs. xs ++ more_fields fs) (sym (e ∙ ap (λ xs. now ++ 44 ∷ xs) is)) ∙ h)

pub field_first : (out now next told field : List ℕ) (fs : List (List ℕ)) → next ≡ now ++ told → told ≡ field → next ++ more_fields fs ≡ out → now
    ++ comma_line (field ∷ fs) ≡ out
field_first out now next told field fs e is h =
    sym (append_assoc now field (more_fields fs)) ∙ (ap (λ xs. xs ++ more_fields fs) (sym (e ∙ ap (λ xs. now ++ xs) is)) ∙ h)
