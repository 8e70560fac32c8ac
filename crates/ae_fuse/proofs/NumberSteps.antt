-- Numbers of words, parameter by parameter.
use Rattle.std.proofs.Common.{◌≡◌, ℕ, zero, suc, ◌+◌, ◌-◌, ◌/◌, ◌%◌, ◌<◌, ◌≤◌, List, [], ◌∷◌, ◌++◌, take, drop, map, Some, slice_get, refl, arith, sym, ap, ◌∙◌}
use Rattle.std.specs.Prelude.{sum_by}
use Rattle.std.specs.List.{range_with_len}
use Rattle.std.proofs.Math.Seq.{drop-cons}
use Rattle.std.proofs.lemmas.Bool.{lt-ltb, le-ltb}
use Rattle.std.proofs.lemmas.List.{map_push}
use Rattle.std.proofs.lemmas.List.Sums.{sum_by-cons, sum_by-append}
use Rattle.std.proofs.lemmas.Option.{get_or_from_slice_get, slice_get_within}
use Rattle.ae_sttype.specs.declared.st_type.StType.{StType}
use Rattle.ae_sttype.specs.StTree.{StTree, st_tree, element_words}
use Rattle.ae_sttype.specs.Moves.{OriginTree, from_input}
use Rattle.ae_moves.proofs.Lists.{get_mapped, take_push}
use Rattle.ae_moves.specs.declared.trip.Origin.{Origin}
use Rattle.ae_moves.specs.Trees.{origin_tree}
use Rattle.ae_rewrite.specs.StProgramTree.{st_trees}
use Rattle.ae_flow.specs.Flow.{layout_words}
use Rattle.ae_fuse.specs.Labels.{layout_numbers, layout_origin, labelled_origin}

-- the words of all these layouts
abbrev pub all_words : List StTree → ℕ
all_words ss = sum_by layout_words ss

pub trees-more : (ls : List StType) (k : ℕ) (t : StType) → slice_get ls k ≡ Some t → st_trees (take (k + 1) ls) ≡ st_trees (take k ls) ++ st_tree t ∷ []
trees-more ls k t found = ap st_trees (take_push ls k t found) ∙ map_push st_tree (take k ls) t

-- one parameter more
numbers-push : (k : ℕ) (ss : List StTree) (s : StTree) → layout_numbers k (ss ++ s ∷ []) ≡ layout_numbers k ss
    ++ range_with_len (k + all_words ss) (layout_words s) ∷ []
numbers-push k [] s = ap (λ n. range_with_len n (layout_words s) ∷ []) (let e : k ≡ k + 0 = omega arith in e)
numbers-push k (t ∷ ss) s =
    let e : k + layout_words t + all_words ss ≡ k + all_words (t ∷ ss) = omega (arith, sum_by-cons layout_words t ss) in
    ap (λ xs. range_with_len k (layout_words t) ∷ xs) (numbers-push (k + layout_words t) ss s ∙
    ap (λ n. layout_numbers (k + layout_words t) ss ++ range_with_len n (layout_words s) ∷ []) e)

pub words-more : (ls : List StType) (k : ℕ) (t : StType) → slice_get ls k ≡ Some t
    → all_words (st_trees (take (k + 1) ls)) ≡ all_words (st_trees (take k ls)) + layout_words (st_tree t)
words-more ls k t found =
    let one : sum_by layout_words (st_tree t ∷ []) ≡ layout_words (st_tree t) + 0 = sum_by-cons layout_words (st_tree t) [] in
    ap all_words (trees-more ls k t found) ∙ sum_by-append layout_words (st_trees (take k ls)) (st_tree t ∷ []) ∙ omega (arith, one)

pub numbers-more : (ls : List StType) (k first count : ℕ) (t : StType) (old : List (List ℕ)) (own : List ℕ) → slice_get ls k ≡ Some t
    → old ≡ layout_numbers 1 (st_trees (take k ls)) → first ≡ 1 + all_words (st_trees (take k ls))
    → count ≡ layout_words (st_tree t) → own ≡ range_with_len first count → old ++ own ∷ [] ≡ layout_numbers 1 (st_trees (take (k + 1) ls))
numbers-more ls k first count t old own found was at size is =
    (λ i. was i ++ (is ∙ (λ j. range_with_len (at j) (size j))) i ∷ [])
    ∙ sym (numbers-push 1 (st_trees (take k ls)) (st_tree t))
    ∙ ap (layout_numbers 1) (sym (trees-more ls k t found))

-- the word is one of the first of these layouts, or of the others
pub origin-here : (i : ℕ) (s : StTree) (ss : List StTree) (n : ℕ) → n < layout_words s
    → layout_origin i (s ∷ ss) n ≡ from_input i (n / element_words s) (n % element_words s)
origin-here i s ss n h = rw (lt-ltb n (layout_words s) h) refl

pub origin-behind : (i : ℕ) (s : StTree) (ss : List StTree) (n : ℕ) → layout_words s ≤ n
    → layout_origin i (s ∷ ss) n ≡ layout_origin (i + 1) ss (n - layout_words s)
origin-behind i s ss n h = rw (le-ltb n (layout_words s) h) refl

trees-drop : (ls : List StType) (k : ℕ) (t : StType) → slice_get ls k ≡ Some t → drop k (st_trees ls) ≡ st_tree t ∷ drop (k + 1) (st_trees ls)
trees-drop ls k t found =
    let here = get_mapped st_tree ls k t found in
    let next : suc k ≡ k + 1 = omega arith in
    drop-cons (st_trees ls) k (st_tree t) (slice_get_within (st_trees ls) k (st_tree t) here)
    ∙ (λ i. get_or_from_slice_get (st_trees ls) k (st_tree t) (st_tree t) here i ∷ drop (next i) (st_trees ls))

pub number-step : (ls : List StType) (k rest count : ℕ) (t : StType) (x : OriginTree) → slice_get ls k ≡ Some t → count ≡ layout_words (st_tree t)
    → count ≤ rest → x ≡ layout_origin k (drop k (st_trees ls)) rest
    → x ≡ layout_origin (k + 1) (drop (k + 1) (st_trees ls)) (rest - count)
number-step ls k rest count t x found size high was =
    was ∙ ap (λ ss. layout_origin k ss rest) (trees-drop ls k t found)
    ∙ origin-behind k (st_tree t) (drop (k + 1) (st_trees ls)) rest (omega arith)
    ∙ ap (λ n. layout_origin (k + 1) (drop (k + 1) (st_trees ls)) (rest - n)) (sym size)

number-word : (ss : List StTree) (label : ℕ) → 0 < label → labelled_origin ss label ≡ layout_origin 0 ss (label - 1)
number-word ss zero h = absurd (omega arith)
number-word ss (suc n) h = ap (layout_origin 0 ss) (let e : n ≡ suc n - 1 = omega arith in e)

pub number-found : (ls : List StType) (k label rest count words : ℕ) (t : StType) → slice_get ls k ≡ Some t → count ≡ layout_words (st_tree t)
    → words ≡ element_words (st_tree t) → rest < count → 0 < label
    → layout_origin 0 (st_trees ls) (label - 1) ≡ layout_origin k (drop k (st_trees ls)) rest
    → from_input k (rest / words) (rest % words) ≡ labelled_origin (st_trees ls) label
number-found ls k label rest count words t found size wide low some was =
    (λ i. from_input k (rest / wide i) (rest % wide i))
    ∙ sym (number-word (st_trees ls) label some ∙ was ∙ ap (λ ss. layout_origin k ss rest) (trees-drop ls k t found) ∙
    origin-here k (st_tree t) (drop (k + 1) (st_trees ls)) rest (omega arith))

pub origins-more : (ss : List StTree) (labels : List ℕ) (k label : ℕ) (old : List Origin) (own : Origin) → slice_get labels k ≡ Some label
    → map origin_tree old ≡ map (labelled_origin ss) (take k labels) → origin_tree own ≡ labelled_origin ss label
    → map origin_tree (old ++ own ∷ []) ≡ map (labelled_origin ss) (take (k + 1) labels)
origins-more ss labels k label old own found was is =
    map_push origin_tree old own ∙ (λ i. was i ++ is i ∷ []) ∙ sym (map_push (labelled_origin ss) (take k labels) label) ∙
    ap (map (labelled_origin ss)) (sym (take_push labels k label found))
