-- Bytes cut at their only mark.
use Rattle.std.proofs.Common.{◌≡◌, ℕ, ◌≤◌, Bool, true, false, nat_eq, List, [], ◌∷◌, length, Option, Some, None, is_some, MatchOption, if◌then◌else◌, refl, sym, ap, ◌∙◌, arith}
use Rattle.std.specs.Borrow.{Bor}
use Rattle.ae_fields.specs.Cut.{pieces, put}
use Rattle.ae_fields.specs.Grammar.{two_of}

length-put : (b : ℕ) (ps : List (List ℕ)) → 1 ≤ length (put b ps)
length-put b [] = omega arith
length-put b (p ∷ ps) = omega arith

pub some-piece : (mark : ℕ) (bs : List ℕ) → 1 ≤ length (pieces mark bs)
some-piece mark [] = omega arith
some-piece mark (b ∷ bs) = by (nat_eq b mark)
  where
    by : (t : Bool) → 1 ≤ length (if t then [] ∷ pieces mark bs else put b (pieces mark bs))
    by true = omega arith
    by false = length-put b (pieces mark bs)

two-three : (a b : List ℕ) (ps : List (List ℕ)) → 1 ≤ length ps → None ≡ two_of (a ∷ b ∷ ps)
two-three a b [] h = absurd (omega arith)
two-three a b (p ∷ ps) h = refl

abbrev pieces_left : ℕ → Option (Bor (List ℕ)) → List (List ℕ)
pieces_left mark None = []
pieces_left mark (Some r) = pieces mark r.now

-- a mark behind the second piece
pub too-many : (ps : List (List ℕ)) (a b : List ℕ) (o : Option (Bor (List ℕ))) (mark : ℕ) (rest : List ℕ)
    → MatchOption o (pieces mark rest ≡ b ∷ []) (λ r. pieces mark rest ≡ b ∷ pieces mark r.now) → is_some o ≡ true → ps ≡ a ∷ pieces mark rest
    → None ≡ two_of ps
too-many ps a b None mark rest m some e = absurd cc
too-many ps a b (Some r) mark rest m some e = two-three a b (pieces mark r.now) (some-piece mark r.now) ∙ sym (ap two_of (e ∙ ap (λ qs. a ∷ qs) m))

pub with-rest : (ps : List (List ℕ)) (a : List ℕ) (o : Option (Bor (List ℕ))) (mark : ℕ) (rest : Bor (List ℕ))
    → MatchOption o (ps ≡ a ∷ []) (λ r. ps ≡ a ∷ pieces mark r.now) → o ≡ Some rest → ps ≡ a ∷ pieces mark rest.now
with-rest ps a None mark rest m e = absurd cc
with-rest ps a (Some r) mark rest m e = m ∙ ap (λ o. a ∷ pieces_left mark o) e
