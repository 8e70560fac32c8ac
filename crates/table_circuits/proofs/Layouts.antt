-- Layouts, one by one.
use Rattle.std.proofs.Common.{◌≡◌, ℕ, ◌+◌, ◌*◌, ◌<◌, List, ◌∷◌, length, map, drop, Some, slice_get, sum_by, get_or, arith, ap, sym, ◌∙◌, subst}
use Rattle.std.proofs.lemmas.List.{drop_more}
use Rattle.std.proofs.lemmas.List.Sums.{sum_by-cons}
use Rattle.std.proofs.lemmas.Option.{same_Some, slice_get-get_or}
use Rattle.ae_sttype.specs.declared.st_type.StType.{StType}
use Rattle.ae_sttype.specs.StTree.{st_tree, time, lanes, element_words}
use Rattle.ae_sttype.specs.Size.{IsInSize}
use Rattle.ae_sttype.specs.Moves.{columns_of}
use Rattle.ae_streamed.specs.Beats.{AreLayouts}

pub counted_next : (xs : List StType) (i count own wide : ℕ) (x : StType) → i < length xs → x ≡ get_or xs i x → own ≡ lanes (st_tree x)
    → wide ≡ element_words (st_tree x)
    → count + sum_by columns_of (map st_tree (drop i xs)) ≡ sum_by columns_of (map st_tree xs)
    → count + own * wide + sum_by columns_of (map st_tree (drop (i + 1) xs)) ≡ sum_by columns_of (map st_tree xs)
counted_next xs i count own wide x lt at eo ew e =
    let split : drop i xs ≡ x ∷ drop (i + 1) xs = drop_more xs i x lt ∙ ap (λ y. y ∷ drop (i + 1) xs) (sym at) in
    let product : own * wide ≡ columns_of (st_tree x) = λ k. eo k * ew k in
    let more : sum_by columns_of (map st_tree (x ∷ drop (i + 1) xs)) ≡ columns_of (st_tree x) + sum_by columns_of
    (map st_tree (drop (i + 1) xs)) = sum_by-cons columns_of (st_tree x) (map st_tree (drop (i + 1) xs)) in
    let whole : sum_by columns_of (map st_tree (drop i xs)) ≡ sum_by columns_of (map st_tree (x ∷ drop (i + 1) xs)) = ap
    (λ ys. sum_by columns_of (map st_tree ys)) split in
    omega (arith, e, whole, more, product)

pub sized_at : (xs : List StType) (slowdown i : ℕ) (x : StType) → AreLayouts slowdown xs → i < length xs → x ≡ get_or xs i x → IsInSize (st_tree x)
sized_at xs slowdown i x h lt at = (h.each i x (slice_get-get_or xs i x lt ∙ ap Some (sym at))).0

pub same_layout : (xs : List StType) (slowdown i : ℕ) (x y : StType) → i < length xs → x ≡ get_or xs i x → IsInSize (st_tree x) × (time (st_tree x) ≡ slowdown)
    → slice_get xs i ≡ Some y
    → IsInSize (st_tree y) × (time (st_tree y) ≡ slowdown)
same_layout xs slowdown i x y lt at good found =
    subst (λ (t : StType). IsInSize (st_tree t) × (time (st_tree t) ≡ slowdown))
    (same_Some x y (sym (slice_get-get_or xs i x lt ∙ ap Some (sym at)) ∙ found)) good
