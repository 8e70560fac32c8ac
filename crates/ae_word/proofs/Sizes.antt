-- How many words an atom has.
use Rattle.std.proofs.Common.{◌≡◌, ℕ, ◌+◌, ◌*◌, ◌^◌, ◌<◌, ◌≤◌, max, length, arith, length-append, add-one}
use Rattle.std.proofs.Math.Nat.{pow-le-pow_right, le-max_left, le-max_right, pow-suc}
use Rattle.ae_word.specs.AtomTree.{AtomTree, word, pair, atom_words, atom_kinds, pair_depth}

pow-max : (a b c d : ℕ) → a ≤ 2 ^ c → b ≤ 2 ^ d → a + b ≤ 2 ^ (max c d + 1)
pow-max a b c d h k =
    let one : 0 < 2 = omega arith in
    let left = pow-le-pow_right one (le-max_left c d) in
    let right = pow-le-pow_right one (le-max_right c d) in
    let twice : 2 ^ (max c d + 1) ≡ 2 ^ max c d * 2 = rw add-one (pow-suc 2 (max c d)) in
    omega arith

-- an atom has at most 2 to its depth words
pub atom_words-bound : (a : AtomTree) → atom_words a ≤ 2 ^ pair_depth a
atom_words-bound (word k) = omega arith
atom_words-bound (pair a b) = pow-max _ _ _ _ (atom_words-bound a) (atom_words-bound b)

-- one that nests at most 6 deep has at most 64
pub atom_words-small : (a : AtomTree) → pair_depth a ≤ 6 → atom_words a ≤ 64
atom_words-small a h =
    let one : 0 < 2 = omega arith in
    omega (arith, atom_words-bound a, pow-le-pow_right one h)

-- an atom has a kind for each word
pub length-atom_kinds : (a : AtomTree) → length (atom_kinds a) ≡ atom_words a
length-atom_kinds (word k) = omega arith
length-atom_kinds (pair a b) = omega (arith, length-append (atom_kinds a) (atom_kinds b), length-atom_kinds a, length-atom_kinds b)
