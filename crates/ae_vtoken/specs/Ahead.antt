-- The tokens that are still to be read.
use Rattle.std.specs.Prelude.{ℕ, zero, suc, List, [], ◌∷◌, drop}
use Rattle.ae_vtoken.specs.Tokens.{TokenTree}
use Rattle.ae_vtoken.specs.Scan.{token_view}
use Rattle.ae_vtoken.specs.Front.{tokens_of}
use Rattle.ae_vtoken.specs.declared.cursor.Tokens.{Tokens}

-- so many tokens, of which the first is this one and the others stand in front of the text
abbrev pub from_first : ℕ → TokenTree → List ℕ → List TokenTree
from_first zero t text = []
from_first (suc n) t text = t ∷ tokens_of n text

abbrev pub ahead : Tokens → List TokenTree
ahead ts = from_first ts.left (token_view ts.first) (drop ts.past ts.text.now)
