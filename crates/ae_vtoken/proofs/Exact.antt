-- What an answer says of every list of tokens and of every place.
use Rattle.std.proofs.Common.{ℕ, List, Result, Ok, Err, refl}
use Rattle.std.specs.Prelude.{IfOk}
use Rattle.ae_vtoken.specs.Tokens.{TokenTree, AreTokens, IsBadToken}
use Rattle.ae_vtoken.specs.Front.{FaultIs, GivesTokens, GivesPlace}
use Rattle.ae_vtoken.specs.declared.cursor.BadToken.{BadToken}
use Rattle.ae_vtoken.proofs.OneList.{one_list, not_both, one_place}

pub gives_tokens : {X : Type 0} (view : X → List TokenTree) (text : List ℕ) (ts : List TokenTree) (r : Result X BadToken)
    → IfOk r (λ x. AreTokens text (view x)) → FaultIs text r → AreTokens text ts → GivesTokens view ts r
gives_tokens view text ts (Ok x) ok fault are = one_list (view x) ts text text refl ok are
gives_tokens view text ts (Err e) ok fault are = not_both text ts e.at are fault

pub gives_place : {X : Type 0} (view : X → List TokenTree) (text : List ℕ) (at : ℕ) (r : Result X BadToken) → IfOk r (λ x. AreTokens text (view x))
    → FaultIs text r → IsBadToken text at → GivesPlace at r
gives_place view text at (Ok x) ok fault bad = not_both text (view x) at ok bad
gives_place view text at (Err e) ok fault bad = one_place text e.at at fault bad
