-- Texts of cells with notes between them: the notes have no tokens.
use Rattle.std.proofs.Common.{◌≡◌, ℕ, zero, suc, ◌+◌, ◌-◌, List, [], ◌∷◌, ◌++◌, length, take, drop, Some, refl, sym, ap, ◌∙◌, subst, arith, append_assoc}
use Rattle.std.specs.Prelude.{max, slice_get}
use Rattle.std.proofs.lemmas.List.{take_all, drop-drop, length-drop}
use Rattle.std.proofs.lemmas.Option.{none-some}
use Rattle.ae_netlist.specs.declared.cell.SizedCell.{SizedCell}
use Rattle.ae_vtoken.specs.Tokens.{TokenTree}
use Rattle.ae_verilog.specs.NetlistModule.{each_numbered}
use Rattle.ae_verilog.specs.Notes.{NoteTree, note_line}
use Rattle.ae_verilog.specs.Text.{between, noted}
use Rattle.ae_spelled.proofs.Lines.{IsTextOf, no_text, both_texts}
use Rattle.ae_spelled.proofs.NetlistForm.{next_place, first_place}

-- lists of texts

pub listed_text : {X : Type 0} (f : ℕ → X → List ℕ) (g : ℕ → X → List TokenTree) (k : ℕ) (xs : List X)
    → ((j : ℕ) (x : X) → slice_get xs j ≡ Some x → IsTextOf (f (k + j) x) (g (k + j) x)) → IsTextOf (each_numbered f k xs) (each_numbered g k xs)
listed_text f g k [] each = no_text
listed_text f g k (x ∷ xs) each =
    both_texts (f k x) (each_numbered f (k + 1) xs) (g k x) (each_numbered g (k + 1) xs)
    (subst (λ n. IsTextOf (f n x) (g n x)) (first_place k) (each 0 x refl))
    (listed_text f g (k + 1) xs (λ j y e. subst (λ n. IsTextOf (f n y) (g n y)) (next_place k j) (each (suc j) y e)))

-- a part of a list

pub part_get : {X : Type 0} (xs : List X) (n j : ℕ) (x : X) → slice_get (take n xs) j ≡ Some x → slice_get xs j ≡ Some x
part_get [] zero j x e = e
part_get [] (suc n) j x e = e
part_get (y ∷ ys) zero j x e = absurd (none-some x e)
part_get (y ∷ ys) (suc n) zero x e = e
part_get (y ∷ ys) (suc n) (suc j) x e = part_get ys n j x e

pub rest_get : {X : Type 0} (xs : List X) (k j : ℕ) (x : X) → slice_get (drop k xs) j ≡ Some x → slice_get xs (k + j) ≡ Some x
rest_get xs zero j x e = subst (λ n. slice_get xs n ≡ Some x) (let same : j ≡ zero + j = omega arith in same) e
rest_get [] (suc k) j x e = absurd (none-some x e)
rest_get (y ∷ ys) (suc k) j x e = subst (λ n. slice_get (y ∷ ys) n ≡ Some x) (let same : suc (k + j) ≡ suc k + j = omega arith in same) (rest_get ys k j x e)

listed_parts : {X A : Type 0} (g : ℕ → X → List A) (k n : ℕ) (xs : List X) → each_numbered g k (take n xs)
    ++ each_numbered g (k + n) (drop n xs) ≡ each_numbered g k xs
listed_parts g k zero xs = ap (λ m. each_numbered g m xs) (first_place k)
listed_parts g k (suc n) [] = refl
listed_parts g k (suc n) (x ∷ xs) =
    append_assoc (g k x) (each_numbered g (k + 1) (take n xs)) (each_numbered g (k + suc n) (drop n xs))
    ∙ ap (λ m. g k x ++ (each_numbered g (k + 1) (take n xs) ++ each_numbered g m (drop n xs))) (next_place k n)
    ∙ ap (λ l. g k x ++ l) (listed_parts g (k + 1) n xs)

-- the cells from one on, up to another

between_text : (f : ℕ → SizedCell → List ℕ) (g : ℕ → SizedCell → List TokenTree) (cells : List SizedCell) (k to : ℕ) →
    ((j : ℕ) (x : SizedCell) → slice_get cells j ≡ Some x → IsTextOf (f j x) (g j x))
    → IsTextOf (between f cells k to) (each_numbered g k (take (to - k) (drop k cells)))
between_text f g cells k to each =
    listed_text f g k (take (to - k) (drop k cells)) (λ j x e. each (k + j) x (rest_get cells k j x (part_get (drop k cells) (to - k) j x e)))

from_one_on : (f : ℕ → SizedCell → List ℕ) (g : ℕ → SizedCell → List TokenTree) (cells : List SizedCell) (k : ℕ) (ns : List NoteTree) →
    ((i : ℕ) (n : NoteTree) → slice_get ns i ≡ Some n → IsTextOf (note_line n) []) →
    ((j : ℕ) (x : SizedCell) → slice_get cells j ≡ Some x → IsTextOf (f j x) (g j x)) → IsTextOf (noted f cells k ns) (each_numbered g k (drop k cells))
from_one_on f g cells k [] notes each =
    subst (λ xs. IsTextOf (between f cells k (length cells)) (each_numbered g k xs))
    (take_all (length cells - k) (drop k cells) (omega (arith, length-drop k cells))) (between_text f g cells k (length cells) each)
from_one_on f g cells k (n ∷ ns) notes each =
    subst (IsTextOf (noted f cells k (n ∷ ns))) tokens
    (both_texts _ _ _ _ (between_text f g cells k n.cell each)
    (both_texts _ _ [] _ (notes 0 n refl) (from_one_on f g cells (max k n.cell) ns (λ i m e. notes (suc i) m e) each)))
  where
    past : max k n.cell ≡ k + (n.cell - k)
    past = omega arith

    tokens : each_numbered g k (take (n.cell - k) (drop k cells))
        ++ each_numbered g (max k n.cell) (drop (max k n.cell) cells) ≡ each_numbered g k (drop k cells)
    tokens =
        ap (λ m. each_numbered g k (take (n.cell - k) (drop k cells)) ++ each_numbered g m (drop m cells)) past
        ∙ ap (λ xs. each_numbered g k (take (n.cell - k) (drop k cells)) ++ each_numbered g (k + (n.cell - k)) xs) (sym (drop-drop (n.cell - k) k cells))
        ∙ listed_parts g k (n.cell - k) (drop k cells)

pub noted_text : (f : ℕ → SizedCell → List ℕ) (g : ℕ → SizedCell → List TokenTree) (cells : List SizedCell) (ns : List NoteTree) →
    ((i : ℕ) (n : NoteTree) → slice_get ns i ≡ Some n → IsTextOf (note_line n) []) →
    ((j : ℕ) (x : SizedCell) → slice_get cells j ≡ Some x → IsTextOf (f j x) (g j x)) → IsTextOf (noted f cells 0 ns) (each_numbered g 0 cells)
noted_text f g cells ns notes each = from_one_on f g cells 0 ns notes each
