-- Operators on the words of two values, folds and scans.
use Rattle.std.proofs.Common.{◌≡◌, ℕ, zero, suc, ◌+◌, ◌*◌, ◌<◌, ◌≤◌, List, [], ◌∷◌, ◌++◌, length, take, drop, map, get_or, refl, arith, sym, ap, ◌∙◌, subst, length-append, length-take, length-drop}
use Rattle.std.proofs.lemmas.List.{take_more}
use Rattle.std.proofs.Math.Seq.{drop-append_seam, take-append_seam}
use Rattle.ae_word.specs.declared.op.WordOp.{WordOp}
use Rattle.ae_word.specs.AtomTree.{AtomTree, WordKind, word, pair, atom_words, atom_kinds}
use Rattle.ae_word.proofs.Sizes.{length-atom_kinds}
use Rattle.ae_seqtype.specs.SeqTree.{SeqTree, atom, seq, words, kinds, repeated}
use Rattle.ae_seqtype.specs.ValueTree.{ValueTree, end, atom_value, value_of, Fit, FitKinds, cut, elements, listed, Stands}
use Rattle.ae_seqtype.proofs.Sizes.{length-kinds}
use Rattle.ae_seqtype.proofs.Stands.{length-Fit, Stands-push}
use Rattle.ae_seq.specs.Meaning.{coded, wordwise, folded, fold_all, folds_up_to}
use Rattle.ae_eval.specs.Stack.{combined}
use Rattle.ae_eval.proofs.Pieces.{piece-stands, element-stands, count-elements}

pub length-combined : (op : WordOp) (ks : List WordKind) (us vs : List ℕ) → length us ≡ length ks → length vs ≡ length ks
    → length (combined op ks us vs) ≡ length ks
length-combined op [] us vs h g = refl
length-combined op (k ∷ ks) [] vs h g = absurd (omega arith)
length-combined op (k ∷ ks) (x ∷ us) [] h g = absurd (omega arith)
length-combined op (k ∷ ks) (x ∷ us) (y ∷ vs) h g = omega (arith, length-combined op ks us vs (omega arith) (omega arith))

combined-append : (op : WordOp) (ks ls : List WordKind) (us vs : List ℕ) → length ks ≤ length us → length ks ≤ length vs
    → combined op (ks ++ ls) us vs ≡ combined op ks (take (length ks) us) (take (length ks) vs) ++ combined op ls (drop (length ks) us) (drop (length ks) vs)
combined-append op [] ls us vs h g = refl
combined-append op (k ∷ ks) ls [] vs h g = absurd (omega arith)
combined-append op (k ∷ ks) ls (x ∷ us) [] h g = absurd (omega arith)
combined-append op (k ∷ ks) ls (x ∷ us) (y ∷ vs) h g = ap (λ zs. coded op k x y 0 ∷ zs) (combined-append op ks ls us vs (omega arith) (omega arith))

wordwise-atom : (op : WordOp) (a : AtomTree) (us vs : List ℕ) → length us ≡ atom_words a → length vs ≡ atom_words a
    → wordwise op (atom_value a us) (atom_value a vs) ≡ atom_value a (combined op (atom_kinds a) us vs)
wordwise-atom op (word k) [] vs h g = absurd (omega arith)
wordwise-atom op (word k) (x ∷ us) [] h g = absurd (omega arith)
wordwise-atom op (word k) (x ∷ us) (y ∷ vs) h g = refl
wordwise-atom op (pair a b) us vs h g =
    let k = atom_words a in
    let e : length (atom_kinds a) ≡ k = length-atom_kinds a in
    let lu : length (take k us) ≡ k = omega (arith, length-take k us) in
    let lv : length (take k vs) ≡ k = omega (arith, length-take k vs) in
    let first = combined op (atom_kinds a) (take k us) (take k vs) in
    let second = combined op (atom_kinds b) (drop k us) (drop k vs) in
    let size : length first ≡ k = length-combined op (atom_kinds a) (take k us) (take k vs) (lu ∙ sym e) (lv ∙ sym e) ∙ e in
    let split : combined op (atom_kinds a ++ atom_kinds b) us vs ≡ first
    ++ second = rw e at (combined-append op (atom_kinds a) (atom_kinds b) us vs (omega arith) (omega arith)) in
    let front : take k (first ++ second) ≡ first = ap (λ j. take j (first ++ second)) (sym size) ∙ take-append_seam first second in
    let back : drop k (first ++ second) ≡ second = ap (λ j. drop j (first ++ second)) (sym size) ∙ drop-append_seam first second in
    rw (
      split,
      front,
      back,
      wordwise-atom op a (take k us) (take k vs) lu lv,
      wordwise-atom op b (drop k us) (drop k vs) (omega (arith, length-drop k us)) (omega (arith, length-drop k vs)),
    ) refl

wordwise-pieces : (op : WordOp) (f : List ℕ → ValueTree) (k : ℕ) (ks : List WordKind) → length ks ≡ k
    → ((c d : List ℕ) → length c ≡ k → length d ≡ k → wordwise op (f c) (f d) ≡ f (combined op ks c d)) → (n : ℕ) (us vs : List ℕ) → length us ≡ n * k
    → length vs ≡ n * k → wordwise op (listed (map f (cut n k us))) (listed (map f (cut n k vs))) ≡ listed (map f (cut n k (combined op (repeated n ks) us vs)))
wordwise-pieces op f k ks e h zero us vs p q = refl
wordwise-pieces op f k ks e h (suc n) us vs p q =
    let lu : length (take k us) ≡ k = omega (arith, length-take k us) in
    let lv : length (take k vs) ≡ k = omega (arith, length-take k vs) in
    let first = combined op ks (take k us) (take k vs) in
    let second = combined op (repeated n ks) (drop k us) (drop k vs) in
    let size : length first ≡ k = length-combined op ks (take k us) (take k vs) (lu ∙ sym e) (lv ∙ sym e) ∙ e in
    let split : combined op (ks ++ repeated n ks) us vs ≡ first ++ second = rw e at (combined-append op ks (repeated n ks) us vs (omega arith) (omega arith)) in
    let front : take k (first ++ second) ≡ first = ap (λ j. take j (first ++ second)) (sym size) ∙ take-append_seam first second in
    let back : drop k (first ++ second) ≡ second = ap (λ j. drop j (first ++ second)) (sym size) ∙ drop-append_seam first second in
    rw (
      split,
      front,
      back,
      h (take k us) (take k vs) lu lv,
      wordwise-pieces op f k ks e h n (drop k us) (drop k vs) (omega (arith, length-drop k us)) (omega (arith, length-drop k vs)),
    ) refl

-- the operator on two values is that on their words
pub wordwise-value : (op : WordOp) (t : SeqTree) (us vs : List ℕ) → length us ≡ words t → length vs ≡ words t
    → wordwise op (value_of t us) (value_of t vs) ≡ value_of t (combined op (kinds t) us vs)
wordwise-value op (atom a) us vs h g = wordwise-atom op a us vs h g
wordwise-value op (seq n t) us vs h g = wordwise-pieces op (value_of t) (words t) (kinds t) (length-kinds t) (wordwise-value op t) n us vs h g

pub combined-stands : (op : WordOp) (t : SeqTree) (us vs : List ℕ) (x y : ValueTree) → Stands t us x → Stands t vs y
    → FitKinds (combined op (kinds t) us vs) (kinds t) → Stands t (combined op (kinds t) us vs) (wordwise op x y)
combined-stands op t us vs x y h g f = record {
  fits = f;
  value = sym (wordwise-value op t us vs (length-Fit t us h.fits) (length-Fit t vs g.fits)) ∙ ap (λ z. wordwise op z (value_of t vs)) h.value ∙
      ap (λ z. wordwise op x z) g.value;
}

folded-push : (f : ValueTree → ValueTree → ValueTree) (v : ValueTree) (xs : List ValueTree) (x : ValueTree) → folded f v (xs ++ x ∷ []) ≡ f (folded f v xs) x
folded-push f v [] x = refl
folded-push f v (y ∷ xs) x = folded-push f (f v y) xs x

-- a fold of one element more
pub fold_all-push : (f : ValueTree → ValueTree → ValueTree) (xs : List ValueTree) (x : ValueTree) → 1 ≤ length xs
    → fold_all f (xs ++ x ∷ []) ≡ f (fold_all f xs) x
fold_all-push f [] x h = absurd (omega arith)
fold_all-push f (y ∷ xs) x h = folded-push f y xs x

pub length-folds : (f : ValueTree → ValueTree → ValueTree) (n : ℕ) (xs : List ValueTree) → length (folds_up_to f n xs) ≡ n
length-folds f zero xs = refl
length-folds f (suc n) xs = omega (arith, length-append (folds_up_to f n xs) (fold_all f (take (n + 1) xs) ∷ []), length-folds f n xs)

get-last : (xs : List ValueTree) (x : ValueTree) (n : ℕ) → length xs ≡ n → get_or (xs ++ x ∷ []) n end ≡ x
get-last [] x n h = rw (← h) refl
get-last (y ∷ xs) x zero h = absurd (omega arith)
get-last (y ∷ xs) x (suc n) h = get-last xs x n (omega arith)

-- the last of them is the fold of all
pub folds-last : (f : ValueTree → ValueTree → ValueTree) (n : ℕ) (xs : List ValueTree) → get_or (folds_up_to f (suc n) xs) n end ≡ fold_all f (take (suc n) xs)
folds-last f n xs =
    let sum : n + 1 ≡ suc n = omega arith in
    get-last (folds_up_to f n xs) _ n (length-folds f n xs) ∙ ap (λ j. fold_all f (take j xs)) sum

folds-more : (f : ValueTree → ValueTree → ValueTree) (n : ℕ) (xs : List ValueTree) → folds_up_to f (n + 1) xs ≡ folds_up_to f n xs
    ++ fold_all f (take (n + 1) xs) ∷ []
folds-more f n xs =
    let sum : n + 1 ≡ suc n = omega arith in
    ap (λ j. folds_up_to f j xs) sum

-- one more element of a scan
pub scan-step : (op : WordOp) (n i : ℕ) (t : SeqTree) (ws out : List ℕ) → let xs = elements (value_of (seq n t) ws) in suc i < n → Fit (seq n t) ws
    → Stands (seq (suc i) t) out (listed (folds_up_to (wordwise op) (suc i) xs)) → (r : List ℕ)
    → r ≡ combined op (kinds t) (take (words t) (drop (i * words t) out)) (take (words t) (drop (suc i * words t) ws)) → FitKinds r (kinds t)
    → Stands (seq (suc i + 1) t) (out ++ r) (listed (folds_up_to (wordwise op) (suc i + 1) xs))
scan-step op n i t ws out lt h st r e f =
    let xs = elements (value_of (seq n t) ws) in
    let g = wordwise op in
    let before = piece-stands (suc i) i t out _ (omega arith) st in
    let x = element-stands n (suc i) t ws lt h in
    let long = count-elements n t ws in
    let within : suc i < length xs = omega arith in
    let step : fold_all g (take (suc i + 1) xs) ≡ g (fold_all g (take (suc i) xs)) (get_or xs (suc i) end) = ap (fold_all g)
    (take_more xs (suc i) end within) ∙ fold_all-push g (take (suc i) xs) _ (omega (arith, length-take (suc i) xs)) in
    let one = combined-stands op t _ _ _ _ before x (rw e at f) in
    let value = ap (λ z. wordwise op z (get_or xs (suc i) end)) (folds-last g i xs) ∙ sym step in
    let P : ValueTree → Type 0 = λ z. Stands t r z in
    let sum : suc i + 1 ≡ suc (suc i) = omega arith in
    let R : List ValueTree → Type 0 = λ zs. Stands (seq (suc i + 1) t) (out ++ r) (listed zs) in
    subst R (sym (folds-more g (suc i) xs)) (Stands-push (suc i) t out r (folds_up_to g (suc i) xs) _ st (subst P value (rw (← e) at one)))
