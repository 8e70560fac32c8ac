-- The line of each cell, found from the last note back.
use Rattle.std.proofs.Common.{◌≡◌, ℕ, zero, suc, ◌+◌, ◌<◌, ◌≤◌, inl, inr, List, [], ◌∷◌, ◌++◌, length, map, take, drop, get_or, Bool, true, false, Option, Some, None, refl, sym, ap, ◌∙◌, arith}
use Rattle.std.specs.Prelude.{reverse, find, min, nat_le, nat_lt, cond}
use Rattle.std.specs.Option.{option_or}
use Rattle.std.proofs.Math.Seq.{drop-cons, take-append_seam}
use Rattle.std.proofs.lemmas.Bool.{cases_Bool, cond-true, cond-false, le-leb, leb-true, ltb-true, false_from_ne_true}
use Rattle.std.proofs.lemmas.Bool.Decides.{nat_tests}
use Rattle.std.proofs.lemmas.List.{reverse-append, drop_all}
use Rattle.std.proofs.lemmas.List.Folds.{find-append}
use Rattle.ae_verilog.specs.Notes.{NoteTree, line_in, line_of, lines_of, table_line}

pub not_less : (a b : ℕ) → nat_lt a b ≡ false → b ≤ a
not_less a b h = grind (arith, nat_tests)

-- the last of these notes whose cell is at most a net
abbrev pub last_at : ℕ → List NoteTree → Option NoteTree
last_at k notes = find (λ (n : NoteTree). nat_le n.cell k) (reverse notes)

-- one note in front is the last where no other is
last_more : (k : ℕ) (n : NoteTree) (notes : List NoteTree) → last_at k (n ∷ notes) ≡ option_or (last_at k notes) (cond (nat_le n.cell k) (Some n) None)
last_more k n notes =
    let p : NoteTree → Bool = λ (m : NoteTree). nat_le m.cell k in
    ap (find p) (reverse-append (n ∷ []) notes) ∙ find-append p (reverse notes) (n ∷ [])

module _ {X : Type 0} (g : X → NoteTree) (notes : List X) where
  abbrev rest : ℕ → List NoteTree
  rest left = map g (drop left notes)

  -- the lines of the cells from one on, where the notes from another on are read
  pub record AreTold (table : List ℕ) (count first left : ℕ) : Type 0 where
    pub found : (k : ℕ) → first ≤ k → k < count → (n : NoteTree) × (last_at k (rest left) ≡ Some n) × (get_or table k 0 ≡ n.line)
    pub none : (k : ℕ) → k < first → last_at k (rest left) ≡ None
    pub zero : (k : ℕ) → k < first → get_or table k 0 ≡ 0

  pub none_told : (table : List ℕ) (count left : ℕ) → length notes ≤ left → ((k : ℕ) → get_or table k 0 ≡ 0) → AreTold table count count left
  none_told table count left past blank = record {
    found = λ k low high. absurd (omega arith);
    none = λ k low. ap (λ l. last_at k (map g l)) (drop_all left notes past);
    zero = λ k low. blank k;
  }

  pub more_told : (old new : List ℕ) (count first left from : ℕ) (x : X) → left < length notes → x ≡ get_or notes left x → from ≡ min first (g x).cell
      → AreTold old count first (left + 1)
      → ((k : ℕ) → from ≤ k → k < first → get_or new k 0 ≡ (g x).line) → ((k : ℕ) → k < from → get_or new k 0 ≡ get_or old k 0)
      → ((k : ℕ) → first ≤ k → get_or new k 0 ≡ get_or old k 0) → AreTold new count from left
  more_told old new count first left from x inside is low told between before behind = record {
    found = λ k over under. elim (cases_Bool (nat_lt k first)) [
      | inl early ↦
          let b : k < first = ltb-true k first early in
          let at : nat_le (g x).cell k ≡ true = le-leb (g x).cell k (omega arith) in
          (g x, more k ∙ (λ i. option_or (told.none k b i) (cond (at i) (Some (g x)) None)), between k over b)
      | inr late ↦
          let b : first ≤ k = not_less k first late in
          let r = told.found k b under in
          (r.0, more k ∙ ap (λ o. option_or o (cond (nat_le (g x).cell k) (Some (g x)) None)) r.1, behind k b ∙ r.2)
    ];
    none = λ k under.
        let b : k < first = omega arith in
        let at : nat_le (g x).cell k ≡ false = not_at k (omega arith) in
        more k ∙ (λ i. option_or (told.none k b i) (cond (at i) (Some (g x)) None));
    zero = λ k under. before k under ∙ told.zero k (omega arith);
  }
    where
      more : (k : ℕ) → last_at k (rest left) ≡ option_or (last_at k (rest (left + 1))) (cond (nat_le (g x).cell k) (Some (g x)) None)
      more k = ap (last_at k) one ∙ last_more k (g x) (rest (left + 1))
        where
          one : rest left ≡ g x ∷ rest (left + 1)
          one = ap (map g) (drop-cons notes left x inside) ∙ ap (λ y. g y ∷ map g (drop (suc left) notes)) (sym is) ∙
              ap (λ p. g x ∷ map g (drop p notes)) (let same : suc left ≡ left + 1 = omega arith in same)

      not_at : (k : ℕ) → k < (g x).cell → nat_le (g x).cell k ≡ false
      not_at k h = false_from_ne_true _ (λ e. let l = leb-true (g x).cell k e in omega arith)

  -- and all are told where none is left to read
  pub all_told : (table : List ℕ) (count first : ℕ) → AreTold table count first 0 → (k : ℕ) → k < count → get_or table k 0 ≡ line_of (map g notes) k
  all_told table count first told k within = elim (cases_Bool (nat_lt k first)) [
    | inl early ↦ let b : k < first = ltb-true k first early in told.zero k b ∙ sym (ap line_in (told.none k b))
    | inr late ↦ let r = told.found k (not_less k first late) within in r.2 ∙ sym (ap line_in r.1)
  ]

-- the table of lines
pub lines_are : (table : List ℕ) (notes : List NoteTree) (cells : ℕ) → length table ≡ cells → ((k : ℕ) → k < cells → get_or table k 0 ≡ line_of notes k)
    → table_line table ≡ lines_of notes cells
lines_are table notes cells long told = λ i k. each k i
  where
    each : (k : ℕ) → get_or table k 0 ≡ lines_of notes cells k
    each k = elim (cases_Bool (nat_lt k cells)) [
      | inl inside ↦ told k (ltb-true k cells inside) ∙ sym (cond-true _ _ _ inside)
      | inr outside ↦ past table k (omega (arith, not_less k cells outside, long)) ∙ sym (cond-false _ _ _ outside)
    ]
      where
        past : (xs : List ℕ) (k : ℕ) → length xs ≤ k → get_or xs k 0 ≡ 0
        past [] k h = refl
        past (x ∷ xs) zero h = absurd (omega arith)
        past (x ∷ xs) (suc k) h = past xs k (omega arith)

-- what a slice of a whole vector leaves in it
pub front_is : (xs ys : List ℕ) (n : ℕ) → n ≡ length xs → take n (xs ++ ys) ≡ xs
front_is xs ys n h = ap (λ k. take k (xs ++ ys)) h ∙ take-append_seam xs ys
