-- Decimal numbers.
use Rattle.std.specs.Prelude.{ℕ, ◌^◌, Bool, ◌&&◌, nat_le, nat_lt, List, length, Option, Some, None, if◌then◌else◌}
use Rattle.std.specs.Fmt.{decimal}
use Rattle.std.specs.Str.{all_ascii_digits, bytes_eq}
use Rattle.std.specs.Str.Parse.{digits_value}

-- 1 to 20 digits
abbrev pub is_numeral : List ℕ → Bool
is_numeral ds = nat_le 1 (length ds) && nat_le (length ds) 20 && all_ascii_digits ds

-- the number that a numeral writes, below 2 ^ 64
abbrev pub numeral_value : List ℕ → Option ℕ
numeral_value ds =
    if is_numeral ds then (if nat_lt (digits_value 10 ds) (2 ^ 64) then Some (digits_value 10 ds) else None) else None

-- the number from `low` to `high` that the bytes write without leading zeros
abbrev pub is_plain : (low high : ℕ) → List ℕ → Bool
is_plain low high ds =
    bytes_eq ds (decimal (digits_value 10 ds)) && nat_le low (digits_value 10 ds) && nat_le (digits_value 10 ds) high

abbrev pub plain_of : (low high : ℕ) → List ℕ → Option ℕ
plain_of low high ds = if is_plain low high ds then Some (digits_value 10 ds) else None
