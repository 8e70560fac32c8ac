-- Tests of the first token.
use Rattle.std.proofs.Common.{◌≡◌, List, [], ◌∷◌, Some, None, refl, drop}
use Rattle.std.specs.Prelude.{slice_get, if◌then◌else◌}
use Rattle.ae_vtoken.specs.Tokens.{TokenTree}
use Rattle.ae_vread.specs.ItemReading.{after_zero, is_zero_first}

pub zero_first : (ts : List TokenTree) → after_zero ts ≡ (if is_zero_first (slice_get ts 0) then Some (drop 1 ts) else None)
zero_first [] = refl
zero_first (t ∷ ts) = refl
