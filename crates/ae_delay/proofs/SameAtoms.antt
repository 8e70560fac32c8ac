-- Atoms that are told to be the same are.
use Rattle.std.proofs.Common.{ℕ, ◌≡◌, ◌==◌, ◌∙◌, Bool, true, false, refl, ap}
use Rattle.std.proofs.lemmas.Bool.{eqb-true}
use Rattle.ae_word.specs.AtomTree.{AtomTree, WordKind, word, pair, same_atom, same_kind, same_sign}
use Rattle.ae_moves.proofs.Held.{both}

sign_is : (a b : Bool) → same_sign a b ≡ true → a ≡ b
sign_is true true h = refl
sign_is true false h = cc
sign_is false true h = cc
sign_is false false h = refl

kind_is : (k l : WordKind) → same_kind k l ≡ true → k ≡ l
kind_is k l h =
    let r = both (same_sign k.signed l.signed) (k.width == l.width) h in
    let w : k.width ≡ l.width = eqb-true k.width l.width r.1 in
    ap (λ (b : Bool). let x : WordKind = record { signed = b; width = k.width } in x) (sign_is k.signed l.signed r.0)
    ∙ ap (λ (v : ℕ). let x : WordKind = record { signed = l.signed; width = v } in x) w

pub atom_is : (a b : AtomTree) → same_atom a b ≡ true → a ≡ b
atom_is (word k) (word l) h = ap word (kind_is k l h)
atom_is (word k) (pair c d) h = cc
atom_is (pair a b) (word l) h = cc
atom_is (pair a b) (pair c d) h =
    let r = both (same_atom a c) (same_atom b d) h in
    ap (λ x. pair x b) (atom_is a c r.0) ∙ ap (λ y. pair c y) (atom_is b d r.1)
