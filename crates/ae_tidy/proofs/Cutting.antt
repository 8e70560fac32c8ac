-- Where marks are in a copy.
use Rattle.std.proofs.Common.{ℕ, ◌≡◌, ◌+◌, ◌<◌, ◌≤◌, Bool, List, [], ◌∷◌, ◌++◌, length, Option, Some, slice_get, get_or, inl, inr, arith, ap, sym, ◌∙◌, subst}
use Rattle.std.proofs.lemmas.Bool.{cases_eq}
use Rattle.std.proofs.lemmas.List.{length_push}
use Rattle.std.proofs.lemmas.Option.{slice_get_within, slice_get-get_or}
use Rattle.ae_netlist.specs.declared.cell.NetId.{NetId}
use Rattle.ae_netlist.specs.declared.cell.Cell.{Cell}
use Rattle.ae_netlist.specs.declared.cell.Cell.TheVariants.{Input, Const, Op, Reg, Mem, Peek}
use Rattle.ae_netlist.specs.declared.cell.SizedCell.{SizedCell}
use Rattle.ae_netlist.proofs.Gets.{get_push_cases}
use Rattle.ae_tidy.specs.Copies.{IsCopied}
use Rattle.ae_tidy.specs.Images.{IsImage}
use Rattle.ae_tidy.specs.Places.{AreBefore, AreCut, AreMadeOf, AreMarks, AreMoved, IsCut, IsLike, made_of}
use Rattle.ae_tidy.proofs.SameRuns.{AreImages}

-- ---- one pass over the list

-- the cells from one number to another are made of cells before the mark
pub record AreBetween (made : List NetId) (from to mark : ℕ) : Type 0 where
  pub each : (k : ℕ) (own : NetId) → from ≤ k → k < to → slice_get made k ≡ Some own → own.0 < mark

pub between_more : (made : List NetId) (from to mark : ℕ) (last : NetId) → slice_get made to ≡ Some last → last.0 < mark → AreBetween made from to mark
    → AreBetween made from (to + 1) mark
between_more made from to mark last here below b = record {
  each = λ k own f l h. elim (cases_eq k to) [
    | inr ne ↦ b.each k own f (omega arith) h
    | inl e ↦
        let q : Some own ≡ Some last = sym h ∙ (ap (slice_get made) e ∙ here) in
        let same : own ≡ last = cc in
        subst (λ (x : NetId). x.0 < mark) (sym same) below
  ];
}

-- the first cells are made of cells before each mark from this one on
pub record AreSure (made : List NetId) (count : ℕ) (marks : List ℕ) (index : ℕ) : Type 0 where
  pub each : (i mark : ℕ) → index ≤ i → slice_get marks i ≡ Some mark → AreBefore made count mark

pub sure_more : (made : List NetId) (cells count place : ℕ) (marks : List ℕ) (index mark : ℕ) → AreMarks cells count marks → slice_get marks index ≡ Some mark
    → IsCut made mark place → AreSure made place marks (index + 1)
sure_more made cells count place marks index mark a here cut = record {
  each = λ i m f h. record {
    each = λ k own l g. (let lt : own.0 < mark = cut.before.each k own l g in
        let le : mark ≤ m = a.rising index i mark m (omega arith) here h in omega arith);
  };
}

pub cut_more : (made : List NetId) (marks places more : List ℕ) (index mark place : ℕ) → more ≡ places ++ place ∷ [] → length places ≡ index
    → slice_get marks index ≡ Some mark → IsCut made mark place → AreCut made marks places → AreCut made marks more
cut_more made marks places more index mark place is long here cut c = subst (AreCut made marks) (sym is) (record {
  each = λ i m p h g. elim (get_push_cases places place i p g) [
    | inl w ↦ c.each i m p h w.0
    | inr w ↦
        let at : i ≡ index = w.0 ∙ long in
        let q : Some m ≡ Some mark = sym h ∙ (ap (slice_get marks) at ∙ here) in
        let same : m ≡ mark = cc in
        rw (same, ← w.1) cut
  ];
})

-- a mark behind the others
pub marks_push : (cells count next : ℕ) (marks more : List ℕ) → cells ≤ next → more ≡ marks ++ next ∷ [] → AreMarks cells count marks
    → AreMarks next (count + 1) more
marks_push cells count next marks more h is a = subst (AreMarks next (count + 1)) (sym is) (record {
  long = omega (arith, length_push marks next, a.long);
  within = λ i m e. elim (get_push_cases marks next i m e) [
    | inl there ↦ omega (arith, h, a.within i m there.0)
    | inr last ↦ omega (arith, last.1)
  ];
  rising = λ i k m n below e f. elim (get_push_cases marks next k n f) [
    | inl there ↦ elim (get_push_cases marks next i m e) [
      | inl early ↦ a.rising i k m n below early.0 there.0
      | inr last ↦ absurd (let z : ⊥ = omega (arith, below, last.0, there.1) in z)
    ]
    | inr last ↦ elim (get_push_cases marks next i m e) [
      | inl early ↦ (let l = a.within i m early.0 in omega (arith, l, h, last.1))
      | inr same ↦ omega (arith, same.1, last.1)
    ]
  ];
})

-- ---- the copy

image_like : (table : List (Option NetId)) (cell image : Cell) → IsImage table cell image → IsLike cell image
image_like table (Input port) image h = h
image_like table (Const k) image h = h
image_like table (Op op args) image h = (h.0, h.1)
image_like table (Reg next) image h = (h.0, h.1)
image_like table (Mem depth at next enable) image h = (h.0, h.1, h.2, h.3)
image_like table (Peek mem at) image h = (h.0, h.1, h.2)

there : (made : List NetId) (m : ℕ) → m < length made → slice_get made m ≡ Some (get_or made m (record { 0 = 0 }))
there made m l = slice_get-get_or made m (record { 0 = 0 }) l

pub copied_made_of : (old new : List SizedCell) (keep : List Bool) (table : List (Option NetId)) (made : List NetId) (i d : ℕ) → AreImages old new table
    → IsCopied old keep new table made i d → AreMadeOf old new (made_of made)
copied_made_of old new keep table made i d a c = record {
  each = λ m image h.
      let l : m < length made = (let b : m < length new = slice_get_within new m image h in omega (arith, c.all_made)) in
      let s = a.each (made_of made m) m (c.source m (get_or made m (record { 0 = 0 })) (there made m l)) in
      let q : Some s.image ≡ Some image = sym s.there ∙ h in
      let same : s.image ≡ image = cc in
      record {
        sized = s.sized;
        found = s.found;
        wide = ap (λ (x : SizedCell). x.width) (sym same) ∙ s.wide;
        like = subst (λ (x : SizedCell). IsLike s.sized.cell x.cell) same (image_like table s.sized.cell s.image.cell s.alike);
      };
  rising = λ j k l b.
      let last : k < length made = omega (arith, c.all_made) in
      let first : j < length made = omega arith in
      c.rising.each j k _ _ l (there made j first) (there made k last);
}

pub copied_moved : (old new : List SizedCell) (keep : List Bool) (table : List (Option NetId)) (made : List NetId) (i d : ℕ) (marks places : List ℕ)
    → AreImages old new table → IsCopied old keep new table made i d
    → length places ≡ length marks → AreCut made marks places → AreMoved old new marks places
copied_moved old new keep table made i d marks places a c long cut = record {
  made = made_of made;
  are = copied_made_of old new keep table made i d a c;
  long = long;
  each = λ j mark place h g.
      let k = cut.each j mark place h g in
      record {
        within = omega (arith, k.within, c.all_made);
        before = λ m l. (let b : m < length made = omega (arith, k.within) in k.before.each m _ l (there made m b));
        behind = λ m l b. (let w : m < length made = omega (arith, c.all_made) in k.behind m _ l (there made m w));
      };
}
