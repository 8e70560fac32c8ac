-- A text cut into lines, and bytes cut at a mark.
use Rattle.std.specs.Prelude.{◌≡◌, ◌++◌, Bool, true, false, not, ◌&&◌, ◌||◌, ℕ, nat_eq, if◌then◌else◌, List, [], ◌∷◌}

-- a byte at the head of the first of some pieces
abbrev pub put : ℕ → List (List ℕ) → List (List ℕ)
put b [] = (b ∷ []) ∷ []
put b (l ∷ ls) = (b ∷ l) ∷ ls

-- bytes at the head of the first of some pieces
abbrev pub put_all : List ℕ → List (List ℕ) → List (List ℕ)
put_all [] ls = ls
put_all (x ∷ xs) ls = put x (put_all xs ls)

-- the lines of a text: each LF ends one, and a last one opens no other
abbrev pub lines : List ℕ → List (List ℕ)
lines [] = []
lines (b ∷ bs) = if nat_eq b 10 then [] ∷ lines bs else put b (lines bs)

-- no byte is the mark
abbrev pub free : (mark : ℕ) → List ℕ → Bool
free mark [] = true
free mark (b ∷ bs) = not (nat_eq b mark) && free mark bs

-- a text is its first line with its LF and what follows it, or that line alone
pub data IsFirstLine (text line after : List ℕ) : Type 0 where
  ended : text ≡ line ++ 10 ∷ after → free 10 line ≡ true → IsFirstLine text line after
  alone : text ≡ line → after ≡ [] → IsFirstLine text line after

-- the pieces between the marks in some bytes, one more than there are marks
abbrev pub pieces : (mark : ℕ) → List ℕ → List (List ℕ)
pieces mark [] = [] ∷ []
pieces mark (b ∷ bs) = if nat_eq b mark then [] ∷ pieces mark bs else put b (pieces mark bs)

-- space and tab
abbrev pub is_gap : ℕ → Bool
is_gap b = nat_eq b 32 || nat_eq b 9

-- a byte that begins a field, or goes on with the first one
abbrev pub fielded : ℕ → Bool → List (List ℕ) → List (List ℕ)
fielded b true [] = (b ∷ []) ∷ []
fielded b true (f ∷ fs) = (b ∷ f) ∷ fs
fielded b false fs = (b ∷ []) ∷ fs

-- whether bytes begin with one of a field
abbrev pub goes_on : List ℕ → Bool
goes_on [] = false
goes_on (b ∷ bs) = not (is_gap b)

-- the fields: the longest pieces without a blank
abbrev pub fields : List ℕ → List (List ℕ)
fields [] = []
fields (b ∷ bs) = if is_gap b then fields bs else fielded b (goes_on bs) (fields bs)

-- what stands in a line before the comment, and before a CR that ends the line
abbrev pub said : List ℕ → List ℕ
said [] = []
said (b ∷ []) = if nat_eq b 13 || nat_eq b 35 then [] else b ∷ []
said (b ∷ c ∷ bs) = if nat_eq b 35 then [] else b ∷ said (c ∷ bs)

-- a piece without a blank
abbrev pub no_blank : List ℕ → Bool
no_blank [] = true
no_blank (b ∷ bs) = not (is_gap b) && no_blank bs
