-- How an atom is written.
use Rattle.std.specs.Prelude.{ℕ, Bool, true, false, List, [], ◌∷◌, ◌++◌}
use Rattle.std.specs.Fmt.{decimal}
use Rattle.ae_word.specs.AtomTree.{AtomTree, word, pair}

-- `u` or `i`
abbrev pub kind_letter : Bool → ℕ
kind_letter false = 117
kind_letter true = 105

-- a word as `u8` or `i8`, a pair as `(A,B)`
abbrev pub atom_text : AtomTree → List ℕ
atom_text (word k) = kind_letter k.signed ∷ decimal k.width
atom_text (pair a b) = 40 ∷ atom_text a ++ 44 ∷ atom_text b ++ 41 ∷ []
