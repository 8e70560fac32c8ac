-- Rows of words, and where one is not right.
use Rattle.std.specs.Prelude.{ℕ, ◌+◌, ◌^◌, Bool, ◌&&◌, nat_lt, if◌then◌else◌, List, [], ◌∷◌, ◌++◌, map, Option, Some, None}
use Rattle.std.specs.Str.Parse.{digits_value}
use Rattle.ae_fields.specs.Cut.{lines, fields, said}
use Rattle.ae_fields.specs.Number.{is_numeral}

-- a line that says something is a row
abbrev pub with_row : List (List ℕ) → List (List (List ℕ)) → List (List (List ℕ))
with_row [] rs = rs
with_row (f ∷ fs) rs = (f ∷ fs) ∷ rs

-- the rows of some lines, as lists of fields
abbrev pub rows_of : List (List ℕ) → List (List (List ℕ))
rows_of [] = []
rows_of (l ∷ ls) = with_row (fields (said l)) (rows_of ls)

abbrev pub rows : List ℕ → List (List (List ℕ))
rows text = rows_of (lines text)

-- a field is right in a column of this width: 1 to 20 digits whose value is below 2 ^ width
abbrev pub is_right : (width : ℕ) → List ℕ → Bool
is_right width f = is_numeral f && nat_lt (digits_value 10 f) (2 ^ width)

-- the first column from number k on that is not right: a field that is not, a column without a field, or a field too many
abbrev pub wrong_column : (k : ℕ) → (widths : List ℕ) → List (List ℕ) → Option ℕ
wrong_column k [] [] = None
wrong_column k [] (f ∷ fs) = Some k
wrong_column k (w ∷ ws) [] = Some k
wrong_column k (w ∷ ws) (f ∷ fs) = if is_right w f then wrong_column (k + 1) ws fs else Some k

-- the row with number n is wrong in a column, or a later one is
abbrev pub wrong_row : (n : ℕ) → Option ℕ → Option (ℕ × ℕ) → Option (ℕ × ℕ)
wrong_row n (Some c) later = Some (n, c)
wrong_row n None later = later

-- the first row from number n on that is not right, and its first column that is not right
abbrev pub bad_row : (n : ℕ) → (widths : List ℕ) → List (List (List ℕ)) → Option (ℕ × ℕ)
bad_row n widths [] = None
bad_row n widths (r ∷ rs) = wrong_row n (wrong_column 1 widths r) (bad_row (n + 1) widths rs)

-- the words of a row, of some rows
abbrev pub row_words : List (List ℕ) → List ℕ
row_words fs = map (digits_value 10) fs

abbrev pub words_in : List (List (List ℕ)) → List ℕ
words_in [] = []
words_in (r ∷ rs) = row_words r ++ words_in rs
