-- One mark more, and marks where there are more cells.
use Rattle.std.proofs.Common.{ℕ, ◌≡◌, ◌+◌, ◌≤◌, inl, inr, List, [], ◌∷◌, ◌++◌, arith, refl, sym, subst}
use Rattle.std.proofs.lemmas.List.{length_push}
use Rattle.std.proofs.lemmas.Option.{none-some}
use Rattle.ae_netlist.proofs.Gets.{get_push_cases}
use Rattle.ae_tidy.specs.Places.{AreMarks}

pub no_marks : (cells : ℕ) → AreMarks cells 0 []
no_marks cells = record {
  long = refl;
  within = λ i m e. absurd (none-some m e);
  rising = λ i j m n h e f. absurd (none-some m e);
}

pub marks_later : (c d count : ℕ) (marks : List ℕ) → c ≤ d → AreMarks c count marks → AreMarks d count marks
marks_later c d count marks h a = record {
  long = a.long;
  within = λ i m e. omega (arith, h, a.within i m e);
  rising = a.rising;
}

-- a mark at the end of the cells
pub marks_more : (c d count j : ℕ) (marks more : List ℕ) → c ≤ d → more ≡ marks ++ c ∷ [] → AreMarks c (count + j) marks → AreMarks d (count + (j + 1)) more
marks_more c d count j marks more h is a = subst (AreMarks d (count + (j + 1))) (sym is) (record {
  long = omega (arith, length_push marks c, a.long);
  within = λ i m e. elim (get_push_cases marks c i m e) [
    | inl there ↦ omega (arith, h, a.within i m there.0)
    | inr last ↦ omega (arith, h, last.1)
  ];
  rising = λ i k m n below e f. elim (get_push_cases marks c k n f) [
    | inl there ↦ elim (get_push_cases marks c i m e) [
      | inl early ↦ a.rising i k m n below early.0 there.0
      | inr last ↦ absurd (let e : ⊥ = omega (arith, below, last.0, there.1) in e)
    ]
    | inr last ↦ elim (get_push_cases marks c i m e) [
      | inl early ↦ (let l = a.within i m early.0 in omega (arith, l, last.1))
      | inr same ↦ omega (arith, same.1, last.1)
    ]
  ];
})
