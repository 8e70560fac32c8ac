-- The tokens of a module's text, by the lexical rules of IEEE 1364-2001, narrowed to the profile.
use Rattle.std.specs.Prelude.{◌≡◌, ℕ, ◌^◌, List, [], ◌∷◌, ◌++◌, Bool, true, false, not, ◌&&◌, ◌||◌, Option, Some, None, IsSome, ◌<◌, length, drop, if◌then◌else◌, ◌==◌, nat_lt, nat_le, codes, bytes_eq, filter}
use Rattle.std.specs.List.{list_all, list_any, starts_with}
use Rattle.std.specs.Prelude.{nat_eq, option_map, min}
use Rattle.std.specs.Char.{is_ascii_alphabetic, is_ascii_digit, digit_value}
use Rattle.std.specs.Str.Parse.{digits_value}
use Rattle.ae_vtoken.specs.declared.token.Key.{Key}
use Rattle.ae_vtoken.specs.declared.token.Sign.{Sign}
use Rattle.ae_vtoken.specs.Tables.{signs, keys, unused_0, unused_1, unused_2, unused_3, unused_4, unused_5, unused_6, unused_7, unused_8, unused_9}

-- a token
pub data TokenTree : Type 0 where
  Name : (n : List ℕ) → TokenTree
  -- a reserved word that a rule uses
  Word : (k : Key) → TokenTree
  -- a reserved word that no rule uses
  Unused : TokenTree
  -- the text `0` alone
  Zero : TokenTree
  -- any other decimal number, one above 2 ^ 32 - 1 as that
  Decimal : (n : ℕ) → TokenTree
  -- a sized constant; where its value does not fit, or its size is above 64, both numbers are 0
  Sized : (size value : ℕ) (fits : Bool) → TokenTree
  Mark : (s : Sign) → TokenTree

-- the entry beside a key that is these bytes
abbrev pub look_up : {X : Type 0} → List ℕ → List (List ℕ × X) → Option X
look_up bs [] = None
look_up bs (e ∷ es) = if bytes_eq bs e.0 then Some e.1 else look_up bs es

-- whether a word is reserved and in no rule
abbrev pub is_unused : List ℕ → Bool
is_unused bs =
    list_any (bytes_eq bs) unused_0 || (list_any
    (bytes_eq bs) unused_1 || (list_any (bytes_eq bs)
    unused_2 || (list_any (bytes_eq bs) unused_3 || (list_any
    (bytes_eq bs) unused_4 || (list_any (bytes_eq bs)
    unused_5 || (list_any (bytes_eq bs) unused_6 || (list_any
    (bytes_eq bs) unused_7 || (list_any (bytes_eq bs) unused_8 || (list_any (bytes_eq bs) unused_9)))))))))

-- space, tab, CR, LF and form feed
abbrev pub is_blank : ℕ → Bool
is_blank b = (b == 32) || (b == 9) || (b == 13) || (b == 10) || (b == 12)

-- what begins a name, and what goes on with it
abbrev pub is_word_start : ℕ → Bool
is_word_start b = is_ascii_alphabetic b || (b == 95)

abbrev pub is_word_byte : ℕ → Bool
is_word_byte b = is_word_start b || is_ascii_digit b || (b == 36)

-- where in a gap a text begins; a block comment keeps the text from its slash on
pub data Place : Type 0 where
  Between : Place
  InLine : Place
  Opened : (from : List ℕ) → Place
  InBlock : (from : List ℕ) → Place
  Closing : Place

-- the text after the blanks and comments that it begins with; a block comment without an end is none
abbrev pub after_gap : Place → List ℕ → List ℕ
after_gap Between [] = []
after_gap InLine [] = []
after_gap (Opened from) [] = from
after_gap (InBlock from) [] = from
after_gap Closing [] = []
after_gap Between (b ∷ bs) =
    if is_blank b then after_gap Between bs
    else (if starts_with nat_eq (b ∷ bs) (codes "//") then after_gap InLine bs
    else (if starts_with nat_eq (b ∷ bs) (codes "/*") then after_gap (Opened (b ∷ bs)) bs
    else b ∷ bs))
after_gap InLine (b ∷ bs) = if b == 10 then after_gap Between bs else after_gap InLine bs
after_gap (Opened from) (b ∷ bs) = after_gap (InBlock from) bs
after_gap (InBlock from) (b ∷ bs) =
    if starts_with nat_eq (b ∷ bs) (codes "*/") then after_gap Closing bs
    else after_gap (InBlock from) bs
after_gap Closing (b ∷ bs) = after_gap Between bs

-- a word: a reserved one, or a name
abbrev pub word_of : List ℕ → Option Key → TokenTree
word_of bs (Some k) = Word k
word_of bs None = if is_unused bs then Unused else Name bs

-- the base that a letter names, or 0
abbrev pub base_of : ℕ → ℕ
base_of b =
    if (b == 98) || (b == 66) then 2
    else (if (b == 111) || (b == 79) then 8
    else (if (b == 100) || (b == 68) then 10
    else (if (b == 104) || (b == 72) then 16
    else 0)))

-- one or more digits, with _ between and after them
abbrev pub are_digits : ℕ → List ℕ → Bool
are_digits base [] = false
are_digits base (d ∷ ds) = nat_lt (digit_value d) base && list_all (λ c. (c == 95) || nat_lt (digit_value c) base) ds

-- a constant of a size and a value
abbrev pub constant : ℕ → ℕ → TokenTree
constant size value = if nat_le size 64 && nat_lt value (2 ^ size) then Sized size value true else Sized 0 0 false

-- a size, and what stands after the quote
abbrev pub sized_of : List ℕ → List ℕ → Option TokenTree
sized_of size [] = None
sized_of size (b ∷ ds) =
    if not (starts_with nat_eq size (codes "0")) && are_digits (base_of b) ds
    then Some (constant (digits_value 10 size) (digits_value (base_of b) (filter (λ c. not (c == 95)) ds)))
    else None

-- a decimal, where only the spelling 0 is the token 0
abbrev pub decimal_of : List ℕ → TokenTree
decimal_of ds = if bytes_eq ds (codes "0") then Zero else Decimal (min (digits_value 10 ds) 4294967295)

-- digits so far, and what stands after them
abbrev pub number_from : List ℕ → List ℕ → Option TokenTree
number_from ds [] = Some (decimal_of ds)
number_from ds (c ∷ cs) =
    if is_ascii_digit c then number_from (ds ++ c ∷ []) cs
    else (if c == 39 then sized_of ds cs else None)

-- the token that a piece of text is, if it is one
unfoldable pub token_of : List ℕ → Option TokenTree
token_of [] = None
token_of (b ∷ bs) =
    if is_word_start b then (if list_all is_word_byte bs then Some (word_of (b ∷ bs) (look_up (b ∷ bs) keys)) else None)
    else (if is_ascii_digit b then number_from (b ∷ []) bs
    else option_map Mark (look_up (b ∷ bs) signs))

-- no longer piece is a token, where rest stands behind the piece
abbrev pub IsLongest : List ℕ → List ℕ → Type 0
IsLongest piece rest = (more after : List ℕ) → rest ≡ more ++ after → IsSome (token_of (piece ++ more)) → more ≡ []

-- the text begins with this piece, which is the token t, behind blanks and comments
pub record BeginsWith (text piece rest : List ℕ) (t : TokenTree) : Type 0 where
  pub parts : after_gap Between text ≡ piece ++ rest
  pub token : token_of piece ≡ Some t
  pub longest : IsLongest piece rest

-- the tokens of the text, all of it
pub data AreTokens : List ℕ → List TokenTree → Type 0 where
  No_more : (text : List ℕ) → after_gap Between text ≡ [] → AreTokens text []
  Then : (text piece rest : List ℕ) (t : TokenTree) (ts : List TokenTree) → BeginsWith text piece rest t
      → AreTokens rest ts → AreTokens text (t ∷ ts)

-- no token begins here
abbrev pub NoToken : List ℕ → Type 0
NoToken text = (piece rest : List ℕ) → text ≡ piece ++ rest → token_of piece ≡ None

-- the text from the first byte on that is in no blank, comment or token
pub data Stuck : List ℕ → List ℕ → Type 0 where
  Here : (text : List ℕ) (b : ℕ) (bs : List ℕ) → after_gap Between text ≡ b ∷ bs → NoToken (b ∷ bs)
      → Stuck text (b ∷ bs)
  Later : (text piece rest bad : List ℕ) (t : TokenTree) → BeginsWith text piece rest t → Stuck rest bad
      → Stuck text bad

-- the place of that byte
pub record IsBadToken (text : List ℕ) (at : ℕ) : Type 0 where
  pub within : at < length text
  pub stuck : Stuck text (drop at text)
