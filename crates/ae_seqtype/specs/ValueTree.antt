-- Values as nested lists and pairs of words, and their words in row-major order.
use Rattle.std.specs.Prelude.{◌≡◌, ℕ, zero, suc, ◌^◌, ◌<◌, List, [], ◌∷◌, ◌++◌, take, drop, map, slice_get, unwrap_or, Option, Some, None, nat_lt, if◌then◌else◌, Bool, true, false, ◌&&◌}
use Rattle.ae_word.specs.AtomTree.{AtomTree, WordKind, word, pair, atom_words}
use Rattle.ae_seqtype.specs.SeqTree.{SeqTree, atom, seq, words, kinds}

-- a value: a word with its kind, a pair of values, or a list of values (its end, or one more)
pub data ValueTree : Type 0 where
  number : (kind : WordKind) (code : ℕ) → ValueTree
  both : (first second : ValueTree) → ValueTree
  end : ValueTree
  more : (first rest : ValueTree) → ValueTree

-- a list of values as a value, and back
abbrev pub listed : List ValueTree → ValueTree
listed [] = end
listed (x ∷ xs) = more x (listed xs)

abbrev pub elements : ValueTree → List ValueTree
elements (more x xs) = x ∷ elements xs
elements _ = []

-- the words of a value in row-major order
abbrev pub flat : ValueTree → List ℕ
flat (number k n) = n ∷ []
flat (both a b) = flat a ++ flat b
flat end = []
flat (more x xs) = flat x ++ flat xs

-- the same value with each word 0
abbrev pub zeroed : ValueTree → ValueTree
zeroed (number k n) = number k 0
zeroed (both a b) = both (zeroed a) (zeroed b)
zeroed end = end
zeroed (more x xs) = more (zeroed x) (zeroed xs)

-- so many pieces of a length, from the front
abbrev pub cut : {A : Type 0} → ℕ → ℕ → List A → List (List A)
cut zero k ws = []
cut (suc n) k ws = take k ws ∷ cut n k (drop k ws)

-- the value of a type that has these words; there is one for each atom, so the default is not read
abbrev pub atom_value : AtomTree → List ℕ → ValueTree
atom_value (word k) ws = number k (unwrap_or (slice_get ws 0) 0)
atom_value (pair a b) ws = both (atom_value a (take (atom_words a) ws)) (atom_value b (drop (atom_words a) ws))

abbrev pub value_of : SeqTree → List ℕ → ValueTree
value_of (atom a) ws = atom_value a ws
value_of (seq n t) ws = listed (map (value_of t) (cut n (words t) ws))

-- the words are as many as the kinds, and each is below 2 to its width
abbrev pub FitKinds : List ℕ → List WordKind → Type 0
FitKinds [] [] = Unit {0}
FitKinds (x ∷ ws) (k ∷ ks) = (x < 2 ^ k.width) × FitKinds ws ks
FitKinds _ _ = ⊥

-- the same as a test
abbrev pub fit_kinds : List ℕ → List WordKind → Bool
fit_kinds [] [] = true
fit_kinds (x ∷ ws) (k ∷ ks) = nat_lt x (2 ^ k.width) && fit_kinds ws ks
fit_kinds _ _ = false

-- the words are those of a value of the type
abbrev pub Fit : SeqTree → List ℕ → Type 0
Fit t ws = FitKinds ws (kinds t)

-- the words are those of this value of the type
pub record Stands (t : SeqTree) (ws : List ℕ) (v : ValueTree) : Type 0 where
  pub fits : FitKinds ws (kinds t)
  pub value : value_of t ws ≡ v

-- what is left after a word for each kind, if each fits
abbrev pub after : List WordKind → List ℕ → Option (List ℕ)
after [] ws = Some ws
after (k ∷ ks) [] = None
after (k ∷ ks) (x ∷ ws) = if nat_lt x (2 ^ k.width) then after ks ws else None
