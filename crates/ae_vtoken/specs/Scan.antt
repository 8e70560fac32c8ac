-- What a pass over a text reads, and what it answers.
use Rattle.std.specs.Prelude.{◌≡◌, ℕ, ◌+◌, ◌-◌, ◌<◌, ◌≤◌, List, ◌++◌, Bool, true, false, ◌||◌, ◌==◌, Option, Some, None, take, drop, length, get_or, nat_le, nat_lt, if◌then◌else◌}
use Rattle.std.specs.Char.{digit_value}
use Rattle.ae_vtoken.specs.Tokens as t
use Rattle.ae_vtoken.specs.Tokens.{TokenTree, token_of, sized_of, base_of, IsLongest, AreTokens, Stuck, look_up}
use Rattle.ae_vtoken.specs.Tables.{signs}
use Rattle.ae_vtoken.specs.declared.token.Sign.{Sign}
use Rattle.ae_vtoken.specs.declared.token.Token.{Token}
use Rattle.ae_vtoken.specs.declared.token.Token.TheVariants.{Name, Word, Unused, Zero, Decimal, Sized, Mark}

-- the token of the code
abbrev pub token_view : Token → TokenTree
token_view (Name n) = t.Name n.now
token_view (Word k) = t.Word k
token_view Unused = t.Unused
token_view Zero = t.Zero
token_view (Decimal n) = t.Decimal n
token_view (Sized value size fits) = t.Sized size value fits
token_view (Mark s) = t.Mark s

-- from one place to another there stands this token, and no longer one
pub record TokenAt (text : List ℕ) (from to : ℕ) (t : TokenTree) : Type 0 where
  pub past : from < to
  pub within : to ≤ length text
  pub token : token_of (take (to - from) (drop from text)) ≡ Some t
  pub longest : IsLongest (take (to - from) (drop from text)) (drop to text)

-- up to this place the text is these tokens
pub record ReadTo (text : List ℕ) (i : ℕ) (ts : List TokenTree) : Type 0 where
  pub within : i ≤ length text
  pub more : (us : List TokenTree) → AreTokens (drop i text) us → AreTokens text (ts ++ us)
  pub stuck : (bad : List ℕ) → Stuck (drop i text) bad → Stuck text bad

-- the sign that the first n bytes are, if there are so many
unfoldable pub sign_in_front : ℕ → List ℕ → Option Sign
sign_in_front n text = if nat_le n (length text) then look_up (take n text) signs else None

-- what goes on with the digits of a constant
abbrev pub is_based : ℕ → ℕ → Bool
is_based base c = (c == 95) || nat_lt (digit_value c) base

-- what stands behind the quote makes no constant of this size
abbrev pub NoSized : List ℕ → List ℕ → Type 0
NoSized size rest = (ds after : List ℕ) → rest ≡ ds ++ after → sized_of size ds ≡ None

-- a size from here to the quote, and a base and a digit of it behind
pub record IsSizedAt (text : List ℕ) (from quote : ℕ) : Type 0 where
  pub past : from < quote
  pub within : quote + 2 < length text
  pub mark : get_or text quote 0 ≡ 39
  pub size : (get_or text from 0 == 48) ≡ false
  pub digit : nat_lt (digit_value (get_or text (quote + 2) 0)) (base_of (get_or text (quote + 1) 0)) ≡ true
