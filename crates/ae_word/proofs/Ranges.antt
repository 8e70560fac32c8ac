-- The widths of the words of an atom in size.
use Rattle.std.proofs.Common.{◌≡◌, ℕ, zero, suc, ◌≤◌, Bool, true, false, ◌&&◌, List, [], ◌∷◌, ◌++◌, Some, slice_get, arith, refl}
use Rattle.std.specs.Prelude.{IsTrue}
use Rattle.std.proofs.lemmas.Bool.Decides.{nat_tests}
use Rattle.ae_word.specs.AtomTree.{AtomTree, WordKind, word, pair, atom_kinds, atom_in_size, widths_in_range}
use Rattle.ae_word.specs.Widths.{IsWidth}

both : (a b : Bool) → (a && b) ≡ true → (a ≡ true) × (b ≡ true)
both true b h = (refl, h)
both false b h = cc

abbrev AllWidths : List WordKind → Type 0
AllWidths [] = Unit {0}
AllWidths (k ∷ ks) = IsWidth k.width × AllWidths ks

all_both : (ks ls : List WordKind) → AllWidths ks → AllWidths ls → AllWidths (ks ++ ls)
all_both [] ls h g = g
all_both (k ∷ ks) ls h g = (h.0, all_both ks ls h.1 g)

all_widths : (a : AtomTree) → IsTrue (widths_in_range a) → AllWidths (atom_kinds a)
all_widths (word k) h =
    let low : 1 ≤ k.width = grind (arith, nat_tests) in
    let high : k.width ≤ 64 = grind (arith, nat_tests) in
    ((low, high), tt)
all_widths (pair a b) h =
    let r = both (widths_in_range a) (widths_in_range b) h in
    all_both (atom_kinds a) (atom_kinds b) (all_widths a r.0) (all_widths b r.1)

width_in : (ks : List WordKind) (i : ℕ) (k : WordKind) → AllWidths ks → slice_get ks i ≡ Some k → IsWidth k.width
width_in [] i k h e = cc
width_in (l ∷ ks) zero k h e = let same : l ≡ k = cc in rw (← same) h.0
width_in (l ∷ ks) (suc i) k h e = width_in ks i k h.1 e

-- the width of a word of an atom in size
pub width_there : (a : AtomTree) (i : ℕ) (k : WordKind) → IsTrue (atom_in_size a) → slice_get (atom_kinds a) i ≡ Some k → IsWidth k.width
width_there a i k h e =
    let r : IsTrue (widths_in_range a) = grind (arith, nat_tests) in
    width_in (atom_kinds a) i k (all_widths a r) e
