-- The tokens of a text as a function of it: one after the other, each the longest.
use Rattle.std.specs.Prelude.{◌≡◌, ℕ, zero, suc, List, [], ◌∷◌, Option, Some, None, Result, Ok, Err, length, take, drop}
use Rattle.ae_vtoken.specs.Tokens.{TokenTree, Unused, token_of, after_gap, Between, AreTokens, IsBadToken}
use Rattle.ae_vtoken.specs.declared.cursor.BadToken.{BadToken}

abbrev pub by_piece : List ℕ → TokenTree × List ℕ → Option TokenTree → TokenTree × List ℕ
by_piece rest shorter (Some t) = (t, rest)
by_piece rest shorter None = shorter

-- the longest token of at most so many bytes at the front of a text, and what stands behind it
abbrev pub longest : ℕ → List ℕ → TokenTree × List ℕ
longest zero text = (Unused, [])
longest (suc n) text = by_piece (drop (suc n) text) (longest n text) (token_of (take (suc n) text))

-- the first token of a text behind its gap, and what stands behind it; an unused word where there is none
unfoldable pub front : List ℕ → TokenTree × List ℕ
front text = longest (length (after_gap Between text)) (after_gap Between text)

-- so many tokens at the front of a text
abbrev pub tokens_of : ℕ → List ℕ → List TokenTree
tokens_of zero text = []
tokens_of (suc n) text = (front text).0 ∷ tokens_of n (front text).1

-- the text has so many tokens
abbrev pub HasTokens : List ℕ → ℕ → Type 0
HasTokens text n = (ts : List TokenTree) × AreTokens text ts × (length ts ≡ n)

-- the fault is the first bad byte
abbrev pub FaultIs : {X : Type 0} → List ℕ → Result X BadToken → Type 0
FaultIs text (Ok x) = Unit {0}
FaultIs text (Err e) = IsBadToken text e.at

-- the answer is these tokens
abbrev pub GivesTokens : {X : Type 0} → (X → List TokenTree) → List TokenTree → Result X BadToken → Type 0
GivesTokens view ts (Ok x) = view x ≡ ts
GivesTokens view ts (Err e) = ⊥

-- the answer is this place
abbrev pub GivesPlace : {X : Type 0} → ℕ → Result X BadToken → Type 0
GivesPlace at (Ok x) = ⊥
GivesPlace at (Err e) = e.at ≡ at
