-- The fixed words of a line fit the layout of its type.
use Rattle.std.proofs.Common.{◌≡◌, ℕ, zero, suc, ◌*◌, ◌<◌, ◌^◌, List, [], ◌∷◌, length, Some, slice_get, IsTrue, refl, ap, sym, ◌∙◌, arith, mul_assoc}
use Rattle.std.proofs.lemmas.Bool.Decides.{nat_tests}
use Rattle.std.proofs.lemmas.Option.{none-some, same_Some, slice_get_within}
use Rattle.ae_word.specs.AtomTree.{WordKind, atom_words}
use Rattle.ae_seqtype.specs.SeqTree.{SeqTree, atom, seq, atoms, atom_of, words, kinds}
use Rattle.ae_seqtype.specs.ValueTree.{fit_kinds}
use Rattle.ae_seqtype.proofs.Sizes.{length-kinds}
use Rattle.ae_eval.proofs.Combining.{kind-place}
use Rattle.ae_sttype.specs.StTree.{StTree}
use Rattle.ae_rewrite.specs.Sound.{FixedFits}
use Rattle.ae_rewrite.proofs.Laid.{Laid}

words_atoms : (t : SeqTree) → words t ≡ atoms t * atom_words (atom_of t)
words_atoms (atom a) = omega arith
words_atoms (seq n t) = ap (λ x. n * x) (words_atoms t) ∙ sym (mul_assoc n (atoms t) (atom_words (atom_of t)))

long_as : (ws : List ℕ) (ks : List WordKind) → IsTrue (fit_kinds ws ks) → length ws ≡ length ks
long_as [] [] h = refl
long_as [] (k ∷ ks) h = cc
long_as (x ∷ ws) [] h = cc
long_as (x ∷ ws) (k ∷ ks) h = let rest : IsTrue (fit_kinds ws ks) = grind (arith, nat_tests) in omega (arith, long_as ws ks rest)

small_at : (ws : List ℕ) (ks : List WordKind) → IsTrue (fit_kinds ws ks) → (o x : ℕ) (k : WordKind) → slice_get ws o ≡ Some x → slice_get ks o ≡ Some k
    → x < 2 ^ k.width
small_at [] ks h o x k f g = absurd (none-some x f)
small_at (y ∷ ws) [] h o x k f g = absurd (none-some k g)
small_at (y ∷ ws) (l ∷ ks) h zero x k f g =
    let a : y ≡ x = same_Some y x f in
    let b : l ≡ k = same_Some l k g in
    rw (← a, ← b) (grind (arith, nat_tests))
small_at (y ∷ ws) (l ∷ ks) h (suc o) x k f g = small_at ws ks (grind (arith, nat_tests)) o x k f g

pub fixed_fits : (t : SeqTree) (budget : ℕ) (s : StTree) (ws : List ℕ) → Laid t budget s → IsTrue (fit_kinds ws (kinds t)) → FixedFits s ws
fixed_fits t budget s ws l h =
    let long : length ws ≡ words t = long_as ws (kinds t) h ∙ length-kinds t in
    record {
      long = rw (l.atoms, l.atom) (long ∙ words_atoms t);
      fits = λ o w k f g.
          let below : o < words t = omega (arith, slice_get_within ws o w f, long) in
          small_at ws (kinds t) h o w k f (sym (kind-place t o (atom_words (atom_of t)) below refl) ∙ (rw l.atom at g));
    }
