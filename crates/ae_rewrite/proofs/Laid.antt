-- What every layout has: all its clocks, the atoms of the type, and its size.
use Rattle.std.proofs.Common.{◌≡◌, ℕ, ◌+◌, ◌-◌, ◌*◌, ◌/◌, ◌%◌, ◌<◌, ◌≤◌, refl, ap, sym, ◌∙◌, arith, mul_assoc, inl, inr, Option, Some, None, cond, IsTrue}
use Rattle.std.specs.Option.{option_map}
use Rattle.std.proofs.lemmas.Bool.{eq-eqb, ne_eqb, cases_eq}
use Rattle.std.proofs.lemmas.Bool.Decides.{nat_tests}
use Rattle.std.proofs.lemmas.Option.{same_Some, none-some, option_and_then_some}
use Rattle.ae_word.specs.AtomTree.{AtomTree, atom_words, atom_in_size}
use Rattle.ae_seqtype.specs.SeqTree.{SeqTree, atom, seq, atoms, words, atom_of, depth, in_size, parts_in_size}
use Rattle.ae_sttype.specs.StTree.{StTree, atom as st_atom, tseq, time, st_atoms, st_depth, element_atom}
use Rattle.ae_sttype.specs.Size.{HasLengths, IsInSize}
use Rattle.ae_rewrite.specs.declared.cases.Case.{Case}
use Rattle.ae_rewrite.specs.declared.cases.Case.TheVariants.{Parallel, Spread, Grouped, Padded, Folded}
use Rattle.ae_rewrite.specs.LayoutRule.{case_of, inner_of, arranged, lay_of}
use Rattle.ae_rewrite.proofs.Applies.{Applies, applies, whole, quotient_pos, inner_pos}

pub record Laid (t : SeqTree) (clocks : ℕ) (s : StTree) : Type 0 where
  pub lengths : HasLengths s
  pub time : time s ≡ clocks
  pub atoms : st_atoms s ≡ atoms t
  pub atom : element_atom s ≡ atom_of t
  pub deep : st_depth s ≤ 2 * depth t + 1

-- ---- one case

time_of : (n clocks : ℕ) (c : Case) (t : StTree) → 0 < n → 0 < clocks → Applies n clocks c → time t ≡ inner_of n clocks c
    → time (arranged n clocks c t) ≡ clocks
time_of n clocks Parallel t p q h is = is ∙ sym h
time_of n clocks Spread t p q h is = ap (λ x. (n + 0) * x) is ∙ omega (arith, whole clocks n p h)
time_of n clocks Grouped t p q h is = ap (λ x. (clocks + 0) * x) is ∙ omega arith
time_of n clocks Padded t p q h is = ap (λ x. (n + (clocks - n)) * x) is ∙ omega arith
time_of n clocks (Folded d) t p q h is = ap (λ x. (d + (clocks - d)) * x) is ∙ omega (arith, h.2)

groups : (d n m : ℕ) → 0 < d → n % d ≡ 0 → d * (n / d * m) ≡ n * m
groups d n m p h = sym (mul_assoc d (n / d) m) ∙ ap (λ x. x * m) (whole n d p h)

laid_by_case : (n clocks : ℕ) (c : Case) (t : SeqTree) (s : StTree) → 0 < n → 0 < clocks → Applies n clocks c →
    Laid t (inner_of n clocks c) s → Laid (seq n t) clocks (arranged n clocks c s)
laid_by_case n clocks Parallel t s p q h l = record {
  lengths = (p, l.lengths);
  time = time_of n clocks Parallel s p q h l.time;
  atoms = ap (λ x. n * x) l.atoms;
  atom = l.atom;
  deep = omega (arith, l.deep);
}
laid_by_case n clocks Spread t s p q h l = record {
  lengths = (p, l.lengths);
  time = time_of n clocks Spread s p q h l.time;
  atoms = ap (λ x. n * x) l.atoms;
  atom = l.atom;
  deep = omega (arith, l.deep);
}
laid_by_case n clocks Grouped t s p q h l = record {
  lengths = (q, (quotient_pos n clocks p q h, l.lengths));
  time = time_of n clocks Grouped s p q h l.time;
  atoms = groups clocks n (st_atoms s) q h ∙ ap (λ x. n * x) l.atoms;
  atom = l.atom;
  deep = omega (arith, l.deep);
}
laid_by_case n clocks Padded t s p q h l = record {
  lengths = (p, l.lengths);
  time = time_of n clocks Padded s p q h l.time;
  atoms = ap (λ x. n * x) l.atoms;
  atom = l.atom;
  deep = omega (arith, l.deep);
}
laid_by_case n clocks (Folded d) t s p q h l =
    let b : 0 < d = omega (arith, h.0) in
    record {
      lengths = (b, (quotient_pos n d p b h.1, l.lengths));
      time = time_of n clocks (Folded d) s p q h l.time;
      atoms = groups d n (st_atoms s) b h.1 ∙ ap (λ x. n * x) l.atoms;
      atom = l.atom;
      deep = omega (arith, l.deep);
    }

-- ---- every layout

laid_atom : (a : AtomTree) (clocks : ℕ) (s : StTree) → 0 < clocks → IsTrue (atom_in_size a) → lay_of (atom a) clocks ≡ Some s → Laid (atom a) clocks s
laid_atom a clocks s p h is = elim (cases_eq clocks 1) [
  | inl e ↦ rw (← same_Some _ _ (sym (ap (λ b. Some (cond b (st_atom a) (tseq 1 (clocks - 1) (st_atom a)))) (eq-eqb clocks 1 e)) ∙ is))
      (record { lengths = h; time = sym e; atoms = refl; atom = refl; deep = omega arith })
  | inr ne ↦ rw (← same_Some _ _ (sym (ap (λ b. Some (cond b (st_atom a) (tseq 1 (clocks - 1) (st_atom a)))) (ne_eqb clocks 1 ne)) ∙ is))
      (record { lengths = (omega arith, h); time = omega arith; atoms = refl; atom = refl; deep = omega arith })
]

laid_seq : (n clocks : ℕ) (c : Case) (t : SeqTree) (s : StTree)
    (part : (x : StTree) → lay_of t (inner_of n clocks c) ≡ Some x → Laid t (inner_of n clocks c) x) →
    0 < n → 0 < clocks → Applies n clocks c → (o : Option StTree) → lay_of t (inner_of n clocks c) ≡ o → option_map (arranged n clocks c) o ≡ Some s
    → Laid (seq n t) clocks s
laid_seq n clocks c t s part p q h None e m = absurd (none-some s m)
laid_seq n clocks c t s part p q h (Some x) e m = rw (← same_Some _ _ m) (laid_by_case n clocks c t x p q h (part x e))

-- a sequence has an element, and its element's parts are in size
parts : (n : ℕ) (t : SeqTree) → IsTrue (parts_in_size (seq n t)) → (0 < n) × IsTrue (parts_in_size t)
parts n t h = let p : 0 < n = grind (arith, nat_tests) in let q : IsTrue (parts_in_size t) = grind (arith, nat_tests) in (p, q)

pub laid : (t : SeqTree) (clocks : ℕ) (s : StTree) → IsTrue (parts_in_size t) → 0 < clocks → lay_of t clocks ≡ Some s → Laid t clocks s
laid (atom a) clocks s h p is = laid_atom a clocks s p h is
laid (seq n t) clocks s h p is =
    let sized = parts n t h in
    option_and_then_some (λ c. option_map (arranged n clocks c) (lay_of t (inner_of n clocks c))) (case_of n clocks) s is
    (λ c at some.
    let a = applies n clocks c p at in
    laid_seq n clocks c t s (λ x e. laid t (inner_of n clocks c) x sized.1 (inner_pos n clocks c sized.0 p a) e) sized.0 p a
    (lay_of t (inner_of n clocks c)) refl some)

atoms-words : (t : SeqTree) → atoms t * atom_words (atom_of t) ≡ words t
atoms-words (atom a) = omega arith
atoms-words (seq n t) = mul_assoc n (atoms t) (atom_words (atom_of t)) ∙ ap (λ x. n * x) (atoms-words t)

pub laid_whole : (t : SeqTree) (clocks : ℕ) (s : StTree) → IsTrue (in_size t) → 0 < clocks → lay_of t clocks ≡ Some s → Laid t clocks s
laid_whole t clocks s h p is = let sized : IsTrue (parts_in_size t) = grind (arith, nat_tests) in laid t clocks s sized p is

pub laid_in_size : (t : SeqTree) (clocks : ℕ) (s : StTree) → IsTrue (in_size t) → 0 < clocks → clocks ≤ 4096 → lay_of t clocks ≡ Some s → IsInSize s
laid_in_size t clocks s h p q is =
    let deep : depth t ≤ 6 = grind (arith, nat_tests) in
    let few : words t ≤ 16384 = grind (arith, nat_tests) in
    let l = laid_whole t clocks s h p is in
    record {
      lengths = l.lengths;
      in_time = rw l.time q;
      in_words = rw (l.atoms, l.atom, atoms-words t) few;
      in_depth = omega (arith, l.deep, deep);
    }
