-- Bounds on the atoms of types in size.
use Rattle.std.proofs.Common.{ℕ, ◌*◌, ◌<◌, ◌≤◌, arith, IsTrue}
use Rattle.std.proofs.Math.Nat.{mul-le-mul_left}
use Rattle.std.proofs.lemmas.Bool.Decides.{nat_tests}
use Rattle.ae_seqtype.specs.SeqTree.{SeqTree, seq, atoms, words, in_size}
use Rattle.ae_seqtype.proofs.Sizes.{atoms-le-words}

pub le-times : (n a b : ℕ) → 0 < n → a ≤ b → a ≤ n * b
le-times n a b p h = grind arith

pub few_atoms : (n : ℕ) (t : SeqTree) → IsTrue (in_size (seq n t)) → atoms t ≤ 16384
few_atoms n t h =
    let some : 0 < n = grind (arith, nat_tests) in
    let few : n * words t ≤ 16384 = grind (arith, nat_tests) in
    let e = le-times n (atoms t) (words t) some (atoms-le-words t) in
    omega (arith, e, few)

pub shift_fits : (k n : ℕ) (t : SeqTree) → IsTrue (in_size (seq n t)) → k ≤ 4096 → k * atoms t ≤ 67108864
shift_fits k n t h p = let e = few_atoms n t h in let f = mul-le-mul_left k e in omega (arith, f, p)
