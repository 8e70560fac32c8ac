-- How many words a type has.
use Rattle.std.proofs.Common.{◌≡◌, ℕ, zero, suc, ◌*◌, ◌≤◌, List, length, arith, ap, ◌∙◌, length-append, IsTrue, Some}
use Rattle.std.proofs.Math.Nat.{mul-le-mul_left}
use Rattle.std.proofs.lemmas.Bool.Decides.{nat_tests}
use Rattle.ae_word.specs.AtomTree.{AtomTree, word, pair, atom_words, pair_depth}
use Rattle.ae_word.proofs.Sizes.{atom_words-small, length-atom_kinds}
use Rattle.ae_seqtype.specs.SeqTree.{in_size, parts_in_size, few, SeqTree, atom, seq, kinds, words, atoms, repeated}

pub length-repeated : {A : Type 0} (n : ℕ) (xs : List A) → length (repeated n xs) ≡ n * length xs
length-repeated zero xs = omega arith
length-repeated (suc n) xs = omega (arith, length-append xs (repeated n xs), length-repeated n xs)

-- a type has a kind for each word
pub length-kinds : (t : SeqTree) → length (kinds t) ≡ words t
length-kinds (atom a) = length-atom_kinds a
length-kinds (seq n t) = length-repeated n (kinds t) ∙ ap (λ k. n * k) (length-kinds t)

-- an atom of a type whose parts are in size has few words
pub few-atom_words : (a : AtomTree) → IsTrue (parts_in_size (atom a)) → Some (atom_words a) ≡ few (atom_words a)
few-atom_words a h =
    let deep : pair_depth a ≤ 6 = grind (arith, nat_tests) in
    let small = atom_words-small a deep in
    grind (arith, nat_tests)

-- an atom has a word
pub one-atom_words : (a : AtomTree) → 1 ≤ atom_words a
one-atom_words (word k) = omega arith
one-atom_words (pair a b) = omega (arith, one-atom_words a, one-atom_words b)

-- there are no more atoms than words
pub atoms-le-words : (t : SeqTree) → atoms t ≤ words t
atoms-le-words (atom a) = one-atom_words a
atoms-le-words (seq n t) = mul-le-mul_left n (atoms-le-words t)

-- a type in size has few atoms
pub few-atoms : (t : SeqTree) → IsTrue (in_size t) → atoms t ≤ 16384
few-atoms t h =
    let small : words t ≤ 16384 = grind (arith, nat_tests) in
    omega (arith, atoms-le-words t)
