-- A text cut at its first `%%` line.
use Rattle.std.specs.Prelude.{◌≡◌, ◌≤◌, ℕ, Bool, true, false, not, ◌||◌, nat_eq, List, [], ◌∷◌, ◌++◌, length, take, drop, codes}
use Rattle.std.specs.Str.{bytes_eq}
use Rattle.std.specs.List.{list_all}
use Rattle.ae_fields.specs.Cut.{lines, fields, said}

-- the fields of a line that says `%%` alone
abbrev pub is_mark : List (List ℕ) → Bool
is_mark [] = false
is_mark (f ∷ []) = bytes_eq f (codes "%%")
is_mark (f ∷ g ∷ fs) = false

-- no line says so
abbrev pub no_mark : List (List ℕ) → Bool
no_mark ls = list_all (λ l. not (is_mark (fields (said l)))) ls

-- bytes that end in LF, or none
abbrev pub whole_lines : List ℕ → Bool
whole_lines [] = true
whole_lines (b ∷ []) = nat_eq b 10
whole_lines (b ∷ c ∷ bs) = whole_lines (c ∷ bs)

-- no line is `%%`, and the program part is the whole text
abbrev pub HasNoMark : (text : List ℕ) (end : ℕ) → Type 0
HasNoMark text end = (no_mark (lines text) ≡ true) × (end ≡ length text)

-- the bytes before `end` are whole lines without a mark, those from `end` to `start` the line `%%` with its LF, if it has one
pub record IsSplit (text : List ℕ) (end start : ℕ) : Type 0 where
  pub line : List ℕ
  pub end_in : end ≤ start
  pub start_in : start ≤ length text
  pub cut : lines text ≡ lines (take end text) ++ line ∷ lines (drop start text)
  pub mark : is_mark (fields (said line)) ≡ true
  pub first : no_mark (lines (take end text)) ≡ true
  pub whole : whole_lines (take end text) ≡ true
  pub line_ends : (whole_lines (take start text) || nat_eq start (length text)) ≡ true
