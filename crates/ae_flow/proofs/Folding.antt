-- Folds and scans give words that fit.
use Rattle.std.proofs.Common.{◌≡◌, ℕ, ◌+◌, ◌-◌, ◌*◌, ◌/◌, ◌%◌, ◌<◌, ◌≤◌, ◌^◌, true, List, [], ◌∷◌, length, map, Some, slice_get, get_or, refl, ap, sym, ◌∙◌, arith, subst, inl, inr, mul_assoc}
use Rattle.std.specs.List.{range_with_len}
use Rattle.std.proofs.Math.Nat.{mul-div_cancel_left}
use Rattle.std.proofs.lemmas.Nat.{mod_below, div_below, div-add-mod'}
use Rattle.std.proofs.lemmas.Option.{same_Some}
use Rattle.ae_word.specs.declared.op.WordOp.{WordOp}
use Rattle.ae_word.specs.WordTable.{folds}
use Rattle.ae_sttype.specs.StTree.{StTree, sseq, st_atoms, element_atom, element_words}
use Rattle.ae_sttype.specs.Size.{IsInSize}
use Rattle.ae_sttype.proofs.Bounds.{atoms_pos, element_words_pos, part_of_sseq, part_of_tseq}
use Rattle.ae_ops.specs.Blocks.{Stream, AreWords, AllAreWords, stream_of}
use Rattle.ae_fold.specs.declared.words.WordFold.{WordFold}
use Rattle.ae_fold.specs.Folding.{Fit, fold_at, word_fold}
use Rattle.ae_fold.specs.Shapes.{element_folds}
use Rattle.ae_fold.proofs.Associative.{fold_fits}
use Rattle.ae_fold.proofs.Blocks.{AllFit, fold_at_add}
use Rattle.ae_fold.proofs.Bundles.{column_width, length-folds, words_fit}
use Rattle.ae_fold.proofs.Kinding.{are_folds}
use Rattle.ae_fold.proofs.Looping.{fold_op}
use Rattle.ae_rewrite.specs.Sound.{IsRawFor, IsSpread}
use Rattle.ae_rewrite.specs.StProgramTree.{fold, scan}
use Rattle.ae_flow.specs.Flow.{Callee, layout_words, op_words, scan_words, words_at}
use Rattle.ae_flow.specs.Fitted.{FitsFold, FitsScan, IsOneOf, IsArranged, elements_stream}
use Rattle.ae_flow.proofs.Widths.{repeated_at}
use Rattle.ae_flow.proofs.Operands.{widths_of, first_words, table_fits}
use Rattle.ae_fold.proofs.Planning.{product_some as some_product}
use Rattle.ae_gather.proofs.GatherLaw.{length_widths as length-widths_of}

-- what word q is folded by has its width
width_at : (op : WordOp) (s : StTree) (q w : ℕ) → q < st_atoms s * element_words s → slice_get (widths_of s) (q % length (widths_of s)) ≡ Some w
    → (fold_at (element_folds op s) q).width ≡ w
width_at op s q w below at =
    let inside : q < st_atoms s * length (widths_of s) = rw (length-widths_of s) below in
    same_Some _ w (sym (column_width op s (st_atoms s) q below) ∙ (repeated_at (st_atoms s) (widths_of s) q inside ∙ at))

-- the fold of words p of the elements up to one of n
one_fold : (op : WordOp) (t : StTree) (n m e p : ℕ) (v : List ℕ) → folds op ≡ true → IsInSize t → AreWords (elements_stream n m t) v → e < n * m
    → p < st_atoms t * element_words t
    → word_fold (element_folds op t) (st_atoms t * element_words t) v p e < 2 ^ (fold_at (element_folds op t) p).width
one_fold op t n m e p v is_fold size h below inside =
    let all : AllFit (element_folds op t) (n * m) (st_atoms t * element_words t) v = words_fit op t n m v h in
    let by = fold_op (element_folds op t) p (are_folds op t is_fold size) in
    let row : Fit (fold_at (element_folds op t) p).width (λ i. get_or v (i * (st_atoms t * element_words t) + p) 0)
    e = record { each = λ i few. all i p (omega (arith, few, below)) inside } in
    fold_fits (fold_at (element_folds op t) p).op (fold_at (element_folds op t) p).width (λ i. get_or v (i * (st_atoms t * element_words t) + p) 0) e by row

-- the same where the words are those of a layout with the atom and as many elements
like_fold : (op : WordOp) (t s : StTree) (n m e p : ℕ) (v : List ℕ) → folds op ≡ true → IsInSize t → element_atom t ≡ element_atom s → st_atoms t ≡ st_atoms s
    → AreWords (elements_stream n m t) v → e < n * m → p < st_atoms s * element_words s
    → word_fold (element_folds op s) (st_atoms s * element_words s) v p e < 2 ^ (fold_at (element_folds op s) p).width
like_fold op t s n m e p v is_fold size atom atoms h below inside =
    let one = one_fold op t n m e p v is_fold size h below (rw (atoms, atom) inside) in
    rw (atoms, atom) at one

-- ---- folds

element_sized : (t raw : StTree) → IsOneOf t raw → IsInSize raw → IsInSize t
element_sized t raw (inl is) h = part_of_sseq raw t 1 is h
element_sized t raw (inr is) h = part_of_tseq raw t 1 is.0 is.1 h

element_like : (t raw : StTree) → IsOneOf t raw → (element_atom t ≡ element_atom raw) × (st_atoms t ≡ st_atoms raw)
element_like t raw (inl is) = (rw is refl, rw is (omega arith))
element_like t raw (inr is) = (rw is.1 refl, rw is.1 (omega arith))

pub fold_words_fit : (known : List Callee) (budget : ℕ) (op : WordOp) (n m : ℕ) (raw a s : StTree) (vs : List (List ℕ)) → IsRawFor budget raw s → IsSpread n m
    → FitsFold budget op n m raw a s → AllAreWords (stream_of a ∷ []) vs
    → AreWords (stream_of s) (op_words known (a ∷ []) s (fold op n m raw) vs)
fold_words_fit known budget op n m raw a s vs sound spread h fit =
    let t : StTree = h.element in
    let v : List ℕ = words_at vs 0 in
    let like = element_like t raw h.one in
    let atom : element_atom t ≡ element_atom s = like.0 ∙ sound.atom in
    let atoms : st_atoms t ≡ st_atoms s = like.1 ∙ sound.atoms in
    let words : AreWords (elements_stream n m t) v = subst (λ (z : Stream). AreWords z v) h.ins (first_words (stream_of a) [] vs fit) in
    let some : 1 ≤ n * m = some_product n m spread.some_slots spread.some_lanes in
    table_fits s (λ p. word_fold (element_folds op s) (layout_words s) v p (n * m - 1)) (λ q w below at.
    let small = like_fold op t s n m (n * m - 1) q v h.foldable (element_sized t raw h.one sound.layout.size) atom atoms words (omega (arith, some)) below in
    subst (λ (z : ℕ). word_fold (element_folds op s) (layout_words s) v q (n * m - 1) < 2 ^ z) (width_at op s q w below at) small)

-- ---- scans

record IsRows (n m : ℕ) (t s : StTree) : Type 0 where
  atom : element_atom t ≡ element_atom s
  atoms : st_atoms s ≡ n * m * st_atoms t
  size : IsInSize s → IsInSize t

rows_of : (n m : ℕ) (t s : StTree) → IsArranged n m t s → IsRows n m t s
rows_of n m t s (inl h) = record {
  atom = rw h.1 refl;
  atoms = rw (h.0, h.1) (let e : 1 * m ≡ m = omega arith in rw e refl);
  size = λ z. part_of_sseq s t m h.1 z;
}
rows_of n m t s (inr (inl h)) = record {
  atom = rw h.1.1 refl;
  atoms = rw (h.0, h.1.1) (let e : n * 1 ≡ n = omega arith in rw e refl);
  size = λ z. part_of_tseq s t n h.1.0 h.1.1 z;
}
rows_of n m t s (inr (inr h)) = record {
  atom = rw h.1.1 refl;
  atoms = rw h.1.1 (sym (mul_assoc n m (st_atoms t)));
  size = λ z. part_of_sseq (sseq m t) t m refl (part_of_tseq s (sseq m t) n h.1.0 h.1.1 z);
}

-- word q of a scan
scanned : (op : WordOp) (t s : StTree) (n m q w : ℕ) (v : List ℕ) → folds op ≡ true → IsInSize t → element_atom t ≡ element_atom s
    → AreWords (elements_stream n m t) v → q < n * m * (st_atoms t * element_words t) → (fold_at (element_folds op s) q).width ≡ w
    → word_fold (element_folds op s) (st_atoms t * element_words t) v (q % (st_atoms t * element_words t)) (q / (st_atoms t * element_words t)) < 2 ^ w
scanned op t s n m q w v is_fold size atom h below wide =
    let k : ℕ = st_atoms t * element_words t in
    let all : List WordFold = element_folds op t in
    let pos : 0 < k = some_product (st_atoms t) (element_words t) (atoms_pos t size.lengths) (element_words_pos t) in
    let same : element_folds op s ≡ all = rw (← atom) refl in
    let long : length all ≡ element_words t = length-folds op t in
    let some : 1 ≤ length all = rw long (element_words_pos t) in
    let turns : q / k * st_atoms t * length all ≡ q / k * k = ap (λ i. q / k * st_atoms t * i) long ∙ mul_assoc (q / k) (st_atoms t) (element_words t) in
    let place : q / k * st_atoms t * length all + q % k ≡ q = omega (arith, turns, div-add-mod' q k) in
    let there : fold_at all q ≡ fold_at all (q % k) = ap (fold_at all) (sym place) ∙ fold_at_add all (q / k * st_atoms t) (q % k) some in
    let one = one_fold op t n m (q / k) (q % k) v is_fold size h (div_below q k (n * m) pos below) (mod_below q k pos) in
    let width : (fold_at all (q % k)).width ≡ w = ap (λ (f : WordFold). f.width) (sym there) ∙
    (ap (λ (fs : List WordFold). (fold_at fs q).width) (sym same) ∙ wide) in
    rw (same, ← width) one

pub scan_words_fit : (known : List Callee) (budget : ℕ) (op : WordOp) (n m : ℕ) (a s : StTree) (vs : List (List ℕ)) → IsInSize s → IsSpread n m
    → FitsScan budget op n m a s → AllAreWords (stream_of a ∷ []) vs
    → AreWords (stream_of s) (op_words known (a ∷ []) s (scan op n m) vs)
scan_words_fit known budget op n m a s vs sized spread h fit =
    let t : StTree = h.element in
    let v : List ℕ = words_at vs 0 in
    let rows = rows_of n m t s h.arranged in
    let size : ℕ = st_atoms t * element_words t in
    let words : AreWords (elements_stream n m t) v = subst (λ (z : Stream). AreWords z v) h.ins (first_words (stream_of a) [] vs fit) in
    let some : 1 ≤ n * m = some_product n m spread.some_slots spread.some_lanes in
    let inside = rows.size sized in
    let wide : element_words s ≡ element_words t = rw rows.atom refl in
    let all : layout_words s ≡ n * m * size = ap (λ i. i * element_words s) rows.atoms ∙
    (ap (λ i. n * m * st_atoms t * i) wide ∙ mul_assoc (n * m) (st_atoms t) (element_words t)) in
    let own : layout_words s / (n * m) ≡ size = ap (λ i. i / (n * m)) all ∙ mul-div_cancel_left size some in
    let by_size : ℕ → Type 0 = λ z. AreWords (stream_of s) (scan_words op s z (n * m) v) in
    let by_count : ℕ → Type 0 = λ z. AreWords (stream_of s) (map (λ q. word_fold (element_folds op s) size v (q % size) (q / size)) (range_with_len 0 z)) in
    subst by_size (sym own) (subst by_count all (table_fits s (λ q. word_fold (element_folds op s) size v (q % size) (q / size)) (λ q w below at.
    scanned op t s n m q w v h.foldable inside rows.atom words (rw all at below) (width_at op s q w below at))))
