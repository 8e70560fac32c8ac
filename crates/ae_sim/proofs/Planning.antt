-- Counts and lists of the cells of a kind, one cell after the other.
use Rattle.std.proofs.Common.{ℕ, ◌≡◌, ◌+◌, ◌<◌, ◌≤◌, inl, inr, List, [], ◌∷◌, ◌++◌, length, map, take, Some, slice_get, get_or, Bool, true, false, cond, arith, refl, ap, sym, ◌∙◌}
use Rattle.std.proofs.lemmas.Bool.{cases_lt}
use Rattle.std.proofs.lemmas.List.{get_or_append_left, get_or_push, take_more, map-append, length-take, take_all}
use Rattle.std.proofs.lemmas.List.Elements.{filter-append}
use Rattle.std.proofs.lemmas.List.Sums.{count_by-le-length}
use Rattle.std.proofs.lemmas.Option.{slice_get_within, slice_get-get_or, get_or_from_slice_get}
use Rattle.ae_netlist.specs.declared.cell.Cell.{Cell}
use Rattle.ae_netlist.specs.declared.cell.Cell.TheVariants.{Const}
use Rattle.ae_netlist.specs.declared.cell.SizedCell.{SizedCell}
use Rattle.ae_netlist.specs.Counts.{count_of, number_of, cells_of}
use Rattle.ae_netlist.proofs.Counting.{count_push}

taken_next : (cells : List SizedCell) (n : ℕ) (sized : SizedCell) → slice_get cells n ≡ Some sized → take (n + 1) cells ≡ take n cells ++ sized ∷ []
taken_next cells n sized h =
    take_more cells n sized (slice_get_within cells n sized h) ∙ ap (λ (x : SizedCell). take n cells ++ x ∷ []) (get_or_from_slice_get cells n sized sized h)

pub number_next : (kind : Cell → Bool) (cells : List SizedCell) (n : ℕ) (sized : SizedCell) → slice_get cells n ≡ Some sized
    → number_of kind cells (n + 1) ≡ number_of kind cells n + cond (kind sized.cell) 1 0
number_next kind cells n sized h = ap (count_of kind) (taken_next cells n sized h) ∙ count_push (λ x. kind x.cell) (take n cells) sized

pub number_small : (kind : Cell → Bool) (cells : List SizedCell) (n : ℕ) → number_of kind cells n ≤ n
number_small kind cells n = omega (arith, count_by-le-length (λ (x : SizedCell). kind x.cell) (take n cells), length-take n cells)

pub mapped_next : {X : Type 0} (f : SizedCell → X) (kind : Cell → Bool) (cells : List SizedCell) (n : ℕ) (sized : SizedCell) → slice_get cells n ≡ Some sized
    → map f (cells_of kind (take (n + 1) cells)) ≡ map f (cells_of kind (take n cells)) ++ map f (cells_of kind (sized ∷ []))
mapped_next f kind cells n sized h =
    ap (λ xs. map f (cells_of kind xs)) (taken_next cells n sized h)
    ∙ (ap (map f) (filter-append (λ x. kind x.cell) (take n cells) (sized ∷ [])) ∙ map-append f (cells_of kind (take n cells)) (cells_of kind (sized ∷ [])))

-- two functions that agree on the one cell
one_mapped : {X : Type 0} (f g : SizedCell → X) (sized : SizedCell) (b : Bool) → f sized ≡ g sized
    → map f (cond b (sized ∷ []) []) ≡ map g (cond b (sized ∷ []) [])
one_mapped f g sized true e = ap (λ x. x ∷ []) e
one_mapped f g sized false e = refl

pub list_next : {X : Type 0} (f g : SizedCell → X) (kind : Cell → Bool) (cells : List SizedCell) (n : ℕ) (sized : SizedCell) (old new : List X)
    → slice_get cells n ≡ Some sized → f sized ≡ g sized
    → new ≡ old ++ map g (cells_of kind (sized ∷ [])) → old ≡ map f (cells_of kind (take n cells)) → new ≡ map f (cells_of kind (take (n + 1) cells))
list_next f g kind cells n sized old new h same e i =
    e ∙ (ap (λ xs. xs ++ map g (cells_of kind (sized ∷ []))) i
    ∙ (ap (λ xs. map f (cells_of kind (take n cells)) ++ xs) (sym (one_mapped f g sized (kind sized.cell) same)) ∙ sym (mapped_next f kind cells n sized h)))

pub whole_list : {X : Type 0} (f : SizedCell → X) (kind : Cell → Bool) (cells : List SizedCell) (n : ℕ) (new : List X) → length cells ≤ n
    → new ≡ map f (cells_of kind (take n cells)) → new ≡ map f (cells_of kind cells)
whole_list f kind cells n new l h = h ∙ ap (λ xs. map f (cells_of kind xs)) (take_all n cells l)

pub counted_next : (words : List ℕ) (f : ℕ → ℕ) (n w : ℕ) → length words ≡ n → w ≡ f n → ((i : ℕ) → i < n → get_or words i 0 ≡ f i) → (i : ℕ) → i < n + 1
    → get_or (words ++ w ∷ []) i 0 ≡ f i
counted_next words f n w long e h i l =
    elim (cases_lt i n) [
      | inl b ↦ get_or_append_left words (w ∷ []) 0 i (omega (arith, b, long)) ∙ h i b
      | inr g ↦ let s : i ≡ n = omega (arith, l, g) in get_or_push words w 0 i (long ∙ sym s) ∙ (e ∙ ap f (sym s))
    ]

-- where there is a cell
pub sized_there : (cells : List SizedCell) (n : ℕ) → n < length cells → (sized : SizedCell) × (slice_get cells n ≡ Some sized)
sized_there cells n l =
    let d : SizedCell = record { width = 0; cell = Const 0 } in
    (get_or cells n d, slice_get-get_or cells n d l)

pub same_sized : (cells : List SizedCell) (n : ℕ) (a b : SizedCell) → slice_get cells n ≡ Some a → slice_get cells n ≡ Some b → a ≡ b
same_sized cells n a b h g = let both : Some a ≡ Some b = sym h ∙ g in cc
