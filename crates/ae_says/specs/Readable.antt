-- Texts whose lines are within the limits of what is read.
use Rattle.std.specs.Prelude.{◌≡◌, ℕ, ◌+◌, ◌^◌, ◌<◌, ◌≤◌, false, true, IsTrue, List, [], ◌∷◌, Some, slice_get}
use Rattle.std.specs.Str.{all_ascii_digits}
use Rattle.std.specs.Str.Parse.{digits_value}
use Rattle.ae_fields.specs.Cleaned.{all_printed}
use Rattle.ae_fields.specs.Cut.{fields, said}
use Rattle.ae_fields.specs.Number.{is_numeral}
use Rattle.ae_fields.specs.Parts.{is_mark}

-- line n, up to its comment: it has the bytes that may stand there, is among the first 4,096 if it says something, and its
-- numbers have at most 20 digits and are below 2 to the 64
pub record IsReadable (n : ℕ) (l : List ℕ) : Type 0 where
  pub printed : all_printed l ≡ true
  pub early : (f : List ℕ) (fs : List (List ℕ)) → fields l ≡ f ∷ fs → n ≤ 4096
  pub small : (k : ℕ) (f : List ℕ) → slice_get (fields l) k ≡ Some f → all_ascii_digits f ≡ true
      → IsTrue (is_numeral f) × (digits_value 10 f < 2 ^ 64)

-- the lines from number n on, up to the first `%%`
abbrev pub AreReadable : (n : ℕ) → List (List ℕ) → Type 0
AreReadable n [] = Unit {0}
AreReadable n (l ∷ ls) = is_mark (fields (said l)) ≡ false → IsReadable n (said l) × AreReadable (n + 1) ls
