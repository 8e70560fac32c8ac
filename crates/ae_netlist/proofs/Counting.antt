-- Counts of cells in lists that grow or are written.
use Rattle.std.proofs.Common.{ℕ, zero, suc, ◌≡◌, ◌+◌, ◌<◌, ◌≤◌, List, [], ◌∷◌, ◌++◌, length, length-append, length-set, take, set, inl, inr, Some, None, slice_get, Bool, true, false, cond, arith, refl, ap, sym, ◌∙◌, subst}
use Rattle.std.specs.List.{count_by, filter}
use Rattle.std.proofs.lemmas.List.{take-append-le, take_at}
use Rattle.std.proofs.lemmas.List.Sums.{sum_by-append, sum_by-cons, length-filter}
use Rattle.ae_netlist.specs.declared.cell.NetId.{NetId}
use Rattle.ae_netlist.specs.declared.cell.Cell.{Cell}
use Rattle.ae_netlist.specs.declared.cell.SizedCell.{SizedCell}
use Rattle.ae_netlist.specs.Counts.{cells_of, count_of, number_of, IsNumbered, AreNumbered}
use Rattle.ae_netlist.proofs.Gets.{get_left, get_pushed, get_push_cases, get_set_other, get_set_same}
use Rattle.std.proofs.Math.Seq.{take-length}
use Rattle.std.proofs.lemmas.Bool.{cases_eq}
use Rattle.std.proofs.lemmas.Option.{slice_get_within, slice_get_past}

pub count_push : {X : Type 0} (p : X → Bool) (xs : List X) (y : X) → count_by p (xs ++ y ∷ []) ≡ count_by p xs + cond (p y) 1 0
count_push p xs y = omega (arith, sum_by-append (λ x. cond (p x) 1 0) xs (y ∷ []))

count_cons : {X : Type 0} (p : X → Bool) (x : X) (xs : List X) → count_by p (x ∷ xs) ≡ cond (p x) 1 0 + count_by p xs
count_cons p x xs = sum_by-cons (λ x. cond (p x) 1 0) x xs

-- writing an element that the test takes as it took the old one leaves each count
pub count_replaced : {X : Type 0} (p : X → Bool) (xs : List X) (r n : ℕ) (x y : X) → slice_get xs r ≡ Some x → p y ≡ p x
    → count_by p (take n (set xs r y)) ≡ count_by p (take n xs)
count_replaced p xs r zero x y h e = refl
count_replaced p [] r (suc n) x y h e = cc
count_replaced p (z ∷ xs) zero (suc n) x y h e =
    let is : z ≡ x = cc in
    let same : p y ≡ p z = e ∙ ap p (sym is) in
    count_cons p y (take n xs) ∙ (ap (λ b. cond b 1 0 + count_by p (take n xs)) same ∙ sym (count_cons p z (take n xs)))
count_replaced p (z ∷ xs) (suc r) (suc n) x y h e =
    count_cons p z (take n (set xs r y)) ∙ (ap (λ i. cond (p z) 1 0 + i) (count_replaced p xs r n x y h e) ∙ sym (count_cons p z (take n xs)))

filter_head : {X : Type 0} (z x : X) (rest : List X) (b : Bool) → b ≡ true → z ≡ x → slice_get (cond b (z ∷ rest) rest) 0 ≡ Some x
filter_head z x rest true e is = ap Some is
filter_head z x rest false e is = cc

filter_step : {X : Type 0} (z : X) (rest : List X) (c d : ℕ) (x : X) (b : Bool) → d ≡ cond b 1 0 + c → slice_get rest c ≡ Some x
    → slice_get (cond b (z ∷ rest) rest) d ≡ Some x
filter_step z rest c d x true e h = let k : d ≡ suc c = omega arith in rw k h
filter_step z rest c d x false e h = let k : d ≡ c = omega arith in rw k h

-- the element at n stands, among those that pass, at the number of those before it
pub filter_at : {X : Type 0} (p : X → Bool) (xs : List X) (n : ℕ) (x : X) → slice_get xs n ≡ Some x → p x ≡ true
    → slice_get (filter p xs) (count_by p (take n xs)) ≡ Some x
filter_at p [] n x h e = cc
filter_at p (z ∷ xs) zero x h e =
    let is : z ≡ x = cc in
    filter_head z x (filter p xs) (p z) (ap p is ∙ e) is
filter_at p (z ∷ xs) (suc n) x h e =
    filter_step z (filter p xs) (count_by p (take n xs)) (count_by p (z ∷ take n xs)) x (p z) (count_cons p z (take n xs)) (filter_at p xs n x h e)

-- one that is not of the kind more
pub numbered_push : (kind : Cell → Bool) (cells : List SizedCell) (sized : SizedCell) (k n : ℕ) → IsNumbered kind cells k n
    → IsNumbered kind (cells ++ sized ∷ []) k n
numbered_push kind cells sized k n h = record {
  sized = h.sized;
  found = get_left cells (sized ∷ []) n h.sized h.found;
  is_kind = h.is_kind;
  place = ap (count_of kind) (take-append-le n cells (sized ∷ []) (let l : n < length cells = slice_get_within cells n h.sized h.found in omega arith)) ∙
      h.place;
}

pub others_push : (kind : Cell → Bool) (cells : List SizedCell) (sized : SizedCell) (nets : List NetId) → kind sized.cell ≡ false → AreNumbered kind cells nets
    → AreNumbered kind (cells ++ sized ∷ []) nets
others_push kind cells sized nets other h = record {
  long = h.long ∙ sym (count_push (λ x. kind x.cell) cells sized ∙ (ap (λ b. count_of kind cells + cond b 1 0) other ∙ omega arith));
  each = λ k net g. numbered_push kind cells sized k net.0 (h.each k net g);
}

-- and one that is
pub numbers_push : (kind : Cell → Bool) (cells : List SizedCell) (sized : SizedCell) (nets : List NetId) (net : NetId) → kind sized.cell ≡ true
    → net.0 ≡ length cells → AreNumbered kind cells nets → AreNumbered kind (cells ++ sized ∷ []) (nets ++ net ∷ [])
numbers_push kind cells sized nets net same own h = let k : ℕ = 1 in let one : cond (kind sized.cell) 1 0 ≡ k = rw same refl in record {
  long = omega (arith, length-append nets (net ∷ []), h.long, count_push (λ x. kind x.cell) cells sized, one);
  each = λ k found g. elim (get_push_cases nets net k found g) [
    | inl w ↦ numbered_push kind cells sized k found.0 (h.each k found w.0)
    | inr w ↦ subst (λ (x : NetId). IsNumbered kind (cells ++ sized ∷ []) k x.0) w.1 (last k w.0)
  ];
}
  where
    last : (k : ℕ) → k ≡ length nets → IsNumbered kind (cells ++ sized ∷ []) k net.0
    last k e = record {
      sized = sized;
      found = ap (slice_get (cells ++ sized ∷ [])) own ∙ get_pushed cells sized;
      is_kind = same;
      place = ap (count_of kind) (take_at cells (sized ∷ []) net.0 (sym own)) ∙ (sym h.long ∙ sym e);
    }

-- a cell of the same kind in the place of another
pub numbers_replaced : (kind : Cell → Bool) (cells : List SizedCell) (r : ℕ) (new old : SizedCell) (nets : List NetId) → slice_get cells r ≡ Some old
    → kind new.cell ≡ kind old.cell → AreNumbered kind cells nets → AreNumbered kind (set cells r new) nets
numbers_replaced kind cells r new old nets there same h = record {
  long = h.long ∙ all;
  each = λ k net g. one k net.0 (h.each k net g);
}
  where
    all : count_of kind cells ≡ count_of kind (set cells r new)
    all =
        let f : take (length cells) cells ≡ cells = take-length cells in
        let g : take (length cells) (set cells r new) ≡ set cells r new = ap (λ i. take i (set cells r new)) (sym (length-set cells r new)) ∙
        take-length (set cells r new) in
        ap (count_of kind) (sym f) ∙ (sym (count_replaced (λ x. kind x.cell) cells r (length cells) old new there same) ∙ ap (count_of kind) g)

    one : (k n : ℕ) → IsNumbered kind cells k n → IsNumbered kind (set cells r new) k n
    one k n m = elim (cases_eq n r) [
      | inl e ↦
          let is : old ≡ m.sized = (let s : Some old ≡ Some m.sized = sym there ∙ (ap (slice_get cells) (sym e) ∙ m.found) in cc) in
          record {
            sized = new;
            found = ap (slice_get (set cells r new)) e ∙ get_set_same cells r new old there;
            is_kind = same ∙ (ap (λ (x : SizedCell). kind x.cell) is ∙ m.is_kind);
            place = count_replaced (λ x. kind x.cell) cells r n old new there same ∙ m.place;
          }
      | inr ne ↦ record {
        sized = m.sized;
        found = get_set_other cells r n new ne ∙ m.found;
        is_kind = m.is_kind;
        place = count_replaced (λ x. kind x.cell) cells r n old new there same ∙ m.place;
      }
    ]

-- and so the list of the cells of a kind
pub cell_numbered : (kind : Cell → Bool) (cells : List SizedCell) (k n : ℕ) (h : IsNumbered kind cells k n) → slice_get (cells_of kind cells) k ≡ Some h.sized
cell_numbered kind cells k n h = rw (← h.place) (filter_at (λ x. kind x.cell) cells n h.sized h.found h.is_kind)

pub none_numbered : (kind : Cell → Bool) (cells : List SizedCell) (k : ℕ) → count_of kind cells ≤ k → slice_get (cells_of kind cells) k ≡ None
none_numbered kind cells k h = slice_get_past (cells_of kind cells) k (omega (arith, length-filter (λ x. kind x.cell) cells, h))

-- a net's number is below the count of its kind
pub number_within : (kind : Cell → Bool) (cells : List SizedCell) (n : ℕ) (sized : SizedCell) → slice_get cells n ≡ Some sized → kind sized.cell ≡ true
    → number_of kind cells n < count_of kind cells
number_within kind cells n sized h is =
    omega (
      arith,
      length-filter (λ x. kind x.cell) cells,
      slice_get_within (cells_of kind cells) (number_of kind cells n) sized (filter_at (λ x. kind x.cell) cells n sized h is),
    )
