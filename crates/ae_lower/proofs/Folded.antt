-- A fold of words of elements makes words of one element.
use Rattle.std.proofs.Common.{ℕ, ◌≡◌, true, ◌+◌, ◌-◌, ◌*◌, ◌%◌, ◌^◌, ◌<◌, ◌≤◌, List, [], ◌∷◌, length, get_or, Some, slice_get, arith, sym, ap, ◌∙◌}
use Rattle.std.proofs.Math.Nat.{mul-le-mul}
use Rattle.std.proofs.lemmas.List.FromFn.{length-map-range_with_len}
use Rattle.ae_word.specs.declared.op.WordOp.{WordOp}
use Rattle.ae_word.specs.WordTable.{folds}
use Rattle.ae_sttype.specs.StTree.{StTree, tseq, sseq, st_tree, lanes, element_words}
use Rattle.ae_sttype.specs.Size.{IsInSize}
use Rattle.ae_sttype.specs.Slots.{slots}
use Rattle.ae_sttype.proofs.Places.{length-slots}
use Rattle.ae_fold.specs.Folding.{fold_at, word_fold}
use Rattle.ae_fold.specs.Shapes.{FoldShape, element_folds, element_size, folded}
use Rattle.ae_fold.proofs.Associative.{fold_fits}
use Rattle.ae_fold.proofs.Blocks.{AllFit}
use Rattle.ae_fold.proofs.Bundles.{words_fit, width_is as fold_width}
use Rattle.ae_fold.proofs.Kinding.{are_folds}
use Rattle.ae_fold.proofs.Looping.{fold_op}
use Rattle.ae_reduce.specs.Reduces.{reduce_part}
use Rattle.ae_ops.specs.Blocks.{AreWords, AllAreWords, stream_of}
use Rattle.ae_delay.proofs.Sourced.{numbered}
use Rattle.ae_lower.proofs.Streams.{widths_of}
use Rattle.ae_gather.proofs.GatherLaw.{length_widths}

word_fits : (op : WordOp) (t : StTree) (n m : ℕ) (v : List ℕ) (p : ℕ) → folds op ≡ true → IsInSize t → 1 ≤ n * m → p < element_size t
    → AreWords (stream_of (tseq n 0 (sseq m t))) v
    → word_fold (element_folds op t) (element_size t) v p (n * m - 1) < 2 ^ (fold_at (element_folds op t) p).width
word_fits op t n m v p ok size some low h =
    let all : AllFit (element_folds op t) (n * m) (element_size t) v = words_fit op t n m v h in
    fold_fits (fold_at (element_folds op t) p).op (fold_at (element_folds op t) p).width (λ i. get_or v (i * element_size t + p) 0) (n * m - 1)
    (fold_op (element_folds op t) p (are_folds op t ok size)) (record { each = λ i li. all i p (omega (arith, li, some)) low })

-- the fold of words of elements are words of one
pub folded_words : (op : WordOp) (t : StTree) (n m : ℕ) (v : List ℕ) → folds op ≡ true → IsInSize t → 1 ≤ n * m → AreWords (stream_of (tseq n 0 (sseq m t))) v
    → AreWords (stream_of t) (folded op t (n * m) v)
folded_words op t n m v ok size some h = record {
  long = length-map-range_with_len (λ p. word_fold (element_folds op t) (element_size t) v p (n * m - 1)) 0 (element_size t) ∙
      (ap (λ k. k * element_words t) (sym (length-slots t)) ∙ ap (λ k. length (slots t) * k) (sym (length_widths t)));
  fit = λ i x w found wide.
      let at = numbered (λ p. word_fold (element_folds op t) (element_size t) v p (n * m - 1)) (element_size t) i x found in
      let same : Some w ≡ Some (fold_at (element_folds op t) i).width = sym wide ∙
      (ap (λ k. slice_get (widths_of t) (i % k)) (length_widths t) ∙ fold_width op t i) in
      let is : w ≡ (fold_at (element_folds op t) i).width = cc in
      rw (← at.1, is) (word_fits op t n m v i ok size some at.0 h);
}

fold_typed_by : (op : WordOp) (t : StTree) (n m : ℕ) (vs : List (List ℕ)) → folds op ≡ true → IsInSize t → 1 ≤ n * m
    → AllAreWords (stream_of (tseq n 0 (sseq m t)) ∷ []) vs
    → AllAreWords (stream_of t ∷ []) (folded op t (n * m) (get_or vs 0 []) ∷ [])
fold_typed_by op t n m [] ok size some h = absurd h
fold_typed_by op t n m (v ∷ []) ok size some h = (folded_words op t n m v ok size some h.0, tt)
fold_typed_by op t n m (v ∷ u ∷ vs) ok size some h = absurd h.1

-- a fold of words makes words of its element
pub fold_typed : (f : FoldShape) (vs : List (List ℕ)) → folds f.op ≡ true → IsInSize (st_tree f.element) → 1 ≤ f.slots → 1 ≤ f.lanes
    → AllAreWords (reduce_part f).ins vs → AllAreWords ((reduce_part f).out ∷ []) ((reduce_part f).means vs ∷ [])
fold_typed f vs ok size slots lanes h =
    let some : 1 * 1 ≤ f.slots * f.lanes = mul-le-mul slots lanes in
    fold_typed_by f.op (st_tree f.element) f.slots f.lanes vs ok size some h
