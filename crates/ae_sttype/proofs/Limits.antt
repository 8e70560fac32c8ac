-- Numbers within a limit.
use Rattle.std.proofs.Common.{◌≡◌, ℕ, ◌*◌, Some, ap, sym, ◌∙◌, arith}
use Rattle.ae_sttype.specs.StTree.{StTree, sseq, st_atoms, element_words}
use Rattle.ae_sttype.specs.Size.{at_most}

-- the number that is within it
pub at_most-some : (m n b : ℕ) → at_most m n ≡ Some b → n ≡ b
at_most-some m n b e = grind arith

pub at_most_product : (m n t w b : ℕ) → at_most m (t * w) ≡ Some b → at_most m (n * b) ≡ at_most m (n * t * w)
at_most_product m n t w b e =
    let same : t * w ≡ b = at_most-some m (t * w) b e in
    ap (at_most m) (ap (λ x. n * x) (sym same) ∙ (let assoc : n * (t * w) ≡ n * t * w = omega arith in assoc))

pub few_in_sseq : (s t : StTree) (n a b m : ℕ) → s ≡ sseq n t → a ≡ n → Some b ≡ at_most m (st_atoms t * element_words t)
    → at_most m (a * b) ≡ at_most m (st_atoms s * element_words s)
few_in_sseq s t n a b m is same e = rw (is, same) (at_most_product m n (st_atoms t) (element_words t) b (sym e))
