-- Which token stands in front of others.
use Rattle.std.specs.Prelude.{ℕ, List, [], ◌∷◌, Bool, false, Option, Some, None, nat_eq, if◌then◌else◌}
use Rattle.ae_vtoken.specs.Tokens.{TokenTree, Name, Word, Zero, Decimal, Mark}
use Rattle.ae_vtoken.specs.declared.token.Key.{Key}
use Rattle.ae_vtoken.specs.declared.token.Key.TheVariants as k
use Rattle.ae_vtoken.specs.declared.token.Sign.{Sign}
use Rattle.ae_vtoken.specs.declared.token.Sign.TheVariants as s

infixl 10 ◌>>=◌
abbrev pub ◌>>=◌ : {A B : Type 0} → Option A → (A → Option B) → Option B
None >>= f = None
(Some x) >>= f = f x

-- the place of a sign in the table of signs
abbrev pub sign_number : Sign → ℕ
sign_number s.Open = 0
sign_number s.Close = 1
sign_number s.OpenBracket = 2
sign_number s.CloseBracket = 3
sign_number s.OpenBrace = 4
sign_number s.CloseBrace = 5
sign_number s.Comma = 6
sign_number s.Semicolon = 7
sign_number s.Colon = 8
sign_number s.Question = 9
sign_number s.At = 10
sign_number s.Equals = 11
sign_number s.Plus = 12
sign_number s.Minus = 13
sign_number s.Star = 14
sign_number s.Amp = 15
sign_number s.Bar = 16
sign_number s.Caret = 17
sign_number s.Tilde = 18
sign_number s.Bang = 19
sign_number s.Less = 20
sign_number s.Greater = 21
sign_number s.AtMost = 22
sign_number s.AtLeast = 23
sign_number s.Same = 24
sign_number s.Differs = 25
sign_number s.BothAmp = 26
sign_number s.BothBar = 27
sign_number s.ShiftLeft = 28
sign_number s.ShiftRight = 29
sign_number s.XnorLeft = 30
sign_number s.XnorRight = 31

-- the place of a word in the table of words
abbrev pub key_number : Key → ℕ
key_number k.Module = 0
key_number k.EndModule = 1
key_number k.Input = 2
key_number k.Output = 3
key_number k.Wire = 4
key_number k.Reg = 5
key_number k.Assign = 6
key_number k.Always = 7
key_number k.Posedge = 8
key_number k.If = 9
key_number k.Else = 10
key_number k.Begin = 11
key_number k.End = 12

abbrev pub is_mark : Sign → TokenTree → Bool
is_mark s (Mark t) = nat_eq (sign_number s) (sign_number t)
is_mark s _ = false

abbrev pub is_word : Key → TokenTree → Bool
is_word k (Word l) = nat_eq (key_number k) (key_number l)
is_word k _ = false

-- whether a token is this sign, or this word, where there is one
abbrev pub is_mark_first : Sign → Option TokenTree → Bool
is_mark_first s None = false
is_mark_first s (Some t) = is_mark s t

abbrev pub is_word_first : Key → Option TokenTree → Bool
is_word_first k None = false
is_word_first k (Some t) = is_word k t

-- the tokens behind this sign, if it stands in front
abbrev pub after_mark : Sign → List TokenTree → Option (List TokenTree)
after_mark s [] = None
after_mark s (t ∷ ts) = if is_mark s t then Some ts else None

-- the tokens behind this word, if it stands in front
abbrev pub after_word : Key → List TokenTree → Option (List TokenTree)
after_word k [] = None
after_word k (t ∷ ts) = if is_word k t then Some ts else None

abbrev pub name_of_token : TokenTree → Option (List ℕ)
name_of_token (Name n) = Some n
name_of_token _ = None

abbrev pub name_of_first : Option TokenTree → Option (List ℕ)
name_of_first None = None
name_of_first (Some t) = name_of_token t

-- a name in front, and the tokens behind it
abbrev pub first_name : List TokenTree → Option (List ℕ × List TokenTree)
first_name [] = None
first_name (t ∷ ts) = name_of_token t >>= λ n. Some (n, ts)

abbrev pub number_of_token : TokenTree → Option ℕ
number_of_token Zero = Some 0
number_of_token (Decimal n) = Some n
number_of_token _ = None

abbrev pub number_of_first : Option TokenTree → Option ℕ
number_of_first None = None
number_of_first (Some t) = number_of_token t

-- a decimal number in front, and the tokens behind it
abbrev pub first_number : List TokenTree → Option (ℕ × List TokenTree)
first_number [] = None
first_number (t ∷ ts) = number_of_token t >>= λ n. Some (n, ts)
