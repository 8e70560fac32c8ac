use Rattle.std.proofs.Common.{◌≡◌, ◌≢◌, ℕ, Bool, true, false, ◌&&◌, ◌==◌, List, [], ◌∷◌, length, refl, arith}
use Rattle.ae_seq.specs.Formed.{same_bytes}
use Rattle.ae_seq.proofs.formed.same_bytes.Goals as goal

and-false : (a b : Bool) → false ≡ b → false ≡ (a && b)
and-false true b h = h
and-false false b h = refl

-- lists of different lengths are not the same
lengths : (xs ys : List ℕ) → length xs ≢ length ys → false ≡ same_bytes xs ys
lengths [] [] h = absurd (h refl)
lengths [] (y ∷ ys) h = refl
lengths (x ∷ xs) [] h = refl
lengths (x ∷ xs) (y ∷ ys) h = and-false (x == y) _ (lengths xs ys (λ e. h (omega (arith, e))))

pub returns-then-first-second : goal.returns-then-first-second
returns-then-first-second c = lengths c.args.first.now c.args.second.now c.if-first-second.true
