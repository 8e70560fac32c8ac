-- Lists of which most items are missing: those that are there stand in a list of their own, in any order, and each place of an
-- index says where.
use Rattle.std.specs.Prelude.{ℕ, ◌≡◌, ◌<◌, ◌≤◌, ◌⊎◌, zero, suc, List, [], ◌∷◌, length, Option, Some, None, replicate, slice_get}

-- the item that a place of the index says
abbrev pub kept_item : {A : Type 0} → List A → Option ℕ → Option A
kept_item kept None = None
kept_item kept (Some k) = slice_get kept k

-- so many places; those behind the index are missing
abbrev pub sparse : {A : Type 0} → ℕ → List (Option ℕ) → List A → List (Option A)
sparse zero index kept = []
sparse (suc n) [] kept = None ∷ sparse n [] kept
sparse (suc n) (k ∷ ks) kept = kept_item kept k ∷ sparse n ks kept

-- how many places are not missing
abbrev pub present : List (Option ℕ) → ℕ
present [] = 0
present (None ∷ ks) = present ks
present (Some k ∷ ks) = suc (present ks)

-- the index is empty or has all places, and says another item at each that is not missing
pub record IsIndex (count : ℕ) (index : List (Option ℕ)) (items : ℕ) : Type 0 where
  pub long : (index ≡ []) ⊎ (length index ≡ count)
  pub below : (p k : ℕ) → slice_get index p ≡ Some (Some k) → k < items
  pub apart : (p q k : ℕ) → slice_get index p ≡ Some (Some k) → slice_get index q ≡ Some (Some k) → p ≡ q
  pub few : items ≤ present index

-- the same index, or one with all places where none was there
abbrev pub IsFilled : ℕ → (old new : List (Option ℕ)) → Type 0
IsFilled count old new = (new ≡ old) ⊎ ((old ≡ []) × (new ≡ replicate count None))
