-- Folds and scans of words are those of the values that have them.
use Rattle.std.proofs.Common.{◌≡◌, ℕ, zero, suc, ◌+◌, ◌-◌, ◌*◌, ◌/◌, ◌%◌, ◌<◌, ◌≤◌, Bool, true, false, List, [], ◌∷◌, length, take, drop, map, get_or, Some, IsTrue, slice_get, refl, arith, sym, ap, ◌∙◌, subst, length-take}
use Rattle.std.specs.Option.{option_map}
use Rattle.std.proofs.lemmas.List.{take_more, take_all, length-map, get_or-take, get_or-drop}
use Rattle.std.proofs.lemmas.List.FromFn.{fill_by_all}
use Rattle.std.proofs.lemmas.Option.{slice_get-map, slice_get-get_or, get_or_from_slice_get}
use Rattle.ae_word.specs.declared.op.WordOp.{WordOp}
use Rattle.ae_word.specs.declared.op.WordOp.TheVariants.{Add, Sub, Mul, And, Or, Xor, Not, Min, Max, Eq, Lt, Mux, Shl, Shr, Cast, SLt, SMin, SMax, Sar, SCast}
use Rattle.ae_word.specs.AtomTree.{AtomTree, WordKind, atom_kinds, atom_words}
use Rattle.ae_word.specs.WordTable.{folds, op_for, word_result}
use Rattle.ae_word.proofs.Sizes.{length-atom_kinds}
use Rattle.ae_seqtype.specs.SeqTree.{SeqTree, seq, atom_of, words, kinds}
use Rattle.ae_seqtype.specs.ValueTree.{ValueTree, end, elements, listed, value_of, Fit, Stands}
use Rattle.ae_seqtype.proofs.Sizes.{length-kinds}
use Rattle.ae_seqtype.proofs.Stands.{length-Fit, Stands-one}
use Rattle.ae_seq.specs.Meaning.{coded, wordwise, fold_all, folds_up_to}
use Rattle.ae_ops.specs.Folds.{combine}
use Rattle.ae_fold.specs.declared.words.WordFold.{WordFold}
use Rattle.ae_fold.specs.Folding.{fold_by, fold_at, word_fold}
use Rattle.ae_eval.specs.Stack.{combined}
use Rattle.ae_eval.proofs.Combining.{kind-place}
use Rattle.ae_eval.proofs.Folding.{combined-stands, length-combined, fold_all-push}
use Rattle.ae_eval.proofs.Pieces.{element-stands, count-elements}
use Rattle.ae_eval.proofs.WordFits.{combined-fits}
use Rattle.ae_flow.proofs.MeaningTables.{table, length-table, get-table, table-by, stands-table, folds-table}
use Rattle.ae_fold.proofs.Associative.{fold_zero as fold-first, fold_suc as fold-next}

-- an operator that folds has no third operand
no-third : (op : WordOp) (s : Bool) (w a b c d : ℕ) → IsTrue (folds op) → word_result (op_for s op) w a b c ≡ word_result (op_for s op) w a b d
no-third Add true w a b c d h = refl
no-third Add false w a b c d h = refl
no-third Mul true w a b c d h = refl
no-third Mul false w a b c d h = refl
no-third And true w a b c d h = refl
no-third And false w a b c d h = refl
no-third Or true w a b c d h = refl
no-third Or false w a b c d h = refl
no-third Xor true w a b c d h = refl
no-third Xor false w a b c d h = refl
no-third Min true w a b c d h = refl
no-third Min false w a b c d h = refl
no-third Max true w a b c d h = refl
no-third Max false w a b c d h = refl
no-third Sub s w a b c d h = cc
no-third Not s w a b c d h = cc
no-third Eq s w a b c d h = cc
no-third Lt s w a b c d h = cc
no-third Mux s w a b c d h = cc
no-third (Shl k) s w a b c d h = cc
no-third (Shr k) s w a b c d h = cc
no-third (Cast v) s w a b c d h = cc
no-third SLt s w a b c d h = cc
no-third SMin s w a b c d h = cc
no-third SMax s w a b c d h = cc
no-third (Sar k) s w a b c d h = cc
no-third (SCast v) s w a b c d h = cc

-- what the words of an atom are folded by
abbrev pub folds_of : WordOp → AtomTree → List WordFold
folds_of op a = map (fold_by op) (atom_kinds a)

fold-here : (op : WordOp) (t : SeqTree) (p : ℕ) (k : WordKind) → p < words t → slice_get (kinds t) p ≡ Some k
    → fold_at (folds_of op (atom_of t)) p ≡ fold_by op k
fold-here op t p k lt e =
    let ks = atom_kinds (atom_of t) in
    let long : length (folds_of op (atom_of t)) ≡ atom_words (atom_of t) = length-map ks (fold_by op) ∙ length-atom_kinds (atom_of t) in
    let i = p % length (folds_of op (atom_of t)) in
    let there : slice_get ks i ≡ Some k = kind-place t p (length (folds_of op (atom_of t))) lt long ∙ e in
    get_or_from_slice_get (folds_of op (atom_of t)) i (fold_by op k) (record { op = Add; width = 0 })
    (slice_get-map (fold_by op) ks i ∙ ap (option_map (fold_by op)) there)

get-combined : (op : WordOp) (ks : List WordKind) (us vs : List ℕ) (p : ℕ) (k : WordKind) → slice_get ks p ≡ Some k → length us ≡ length ks
    → length vs ≡ length ks → get_or (combined op ks us vs) p 0 ≡ coded op k (get_or us p 0) (get_or vs p 0) 0
get-combined op [] us vs p k e a b = cc
get-combined op (l ∷ ks) [] vs p k e a b = absurd (omega arith)
get-combined op (l ∷ ks) (x ∷ us) [] p k e a b = absurd (omega arith)
get-combined op (l ∷ ks) (x ∷ us) (y ∷ vs) zero k e a b = let same : l ≡ k = cc in ap (λ z. coded op z x y 0) same
get-combined op (l ∷ ks) (x ∷ us) (y ∷ vs) (suc p) k e a b = get-combined op ks us vs p k e (omega arith) (omega arith)

-- the words of the left fold of elements 0 to e
abbrev pub folded_words : WordOp → SeqTree → List ℕ → ℕ → List ℕ
folded_words op t ws e = table (words t) (λ p. word_fold (folds_of op (atom_of t)) (words t) ws p e)

piece-at : (k o i : ℕ) (ws : List ℕ) → i < k → get_or (take k (drop o ws)) i 0 ≡ get_or ws (o + i) 0
piece-at k o i ws lt = get_or-take k (drop o ws) i 0 lt ∙ get_or-drop o ws i 0

first-words : (op : WordOp) (t : SeqTree) (ws : List ℕ) → length (take (words t) (drop (0 * words t) ws)) ≡ words t
    → take (words t) (drop (0 * words t) ws) ≡ folded_words op t ws 0
first-words op t ws long =
    let F = folds_of op (atom_of t) in
    fill_by_all (λ p. word_fold F (words t) ws p 0) (take (words t) (drop (0 * words t) ws)) (words t) 0 long
    (λ p lt. piece-at (words t) (0 * words t) p ws lt ∙ sym (fold-first (fold_at F p).op (fold_at F p).width (λ i. get_or ws (i * words t + p) 0)))

next-word : (op : WordOp) (t : SeqTree) (ws : List ℕ) (e p : ℕ) → IsTrue (folds op) → p < words t
    → length (take (words t) (drop (suc e * words t) ws)) ≡ words t
    → get_or (combined op (kinds t) (folded_words op t ws e) (take (words t) (drop (suc e * words t) ws))) p 0 ≡ word_fold (folds_of op (atom_of t))
    (words t) ws p (suc e)
next-word op t ws e p fo lt long =
    let F = folds_of op (atom_of t) in
    let size : words t ≡ length (kinds t) = sym (length-kinds t) in
    let k : WordKind = get_or (kinds t) p (record { signed = false; width = 0 }) in
    let there : slice_get (kinds t) p ≡ Some k = slice_get-get_or (kinds t) p (record { signed = false; width = 0 }) (omega arith) in
    let by = fold-here op t p k lt there in
    let x = word_fold F (words t) ws p e in
    let y = get_or ws (suc e * words t + p) 0 in
    get-combined op (kinds t) (folded_words op t ws e) (take (words t) (drop (suc e * words t) ws)) p k there (length-table (words t) _ ∙ size) (long ∙ size)
    ∙ ap (λ z. coded op k z (get_or (take (words t) (drop (suc e * words t) ws)) p 0) 0) (get-table (words t) (λ p. word_fold F (words t) ws p e) p 0 lt)
    ∙ ap (λ z. coded op k x z 0) (piece-at (words t) (suc e * words t) p ws lt)
    ∙ no-third op k.signed k.width x y 0 x fo
    ∙ ap (λ (z : WordFold). combine z.op z.width x y) (sym by)
    ∙ sym (fold-next (fold_at F p).op (fold_at F p).width (λ i. get_or ws (i * words t + p) 0) e)

next-words : (op : WordOp) (t : SeqTree) (ws : List ℕ) (e : ℕ) → IsTrue (folds op) → length (take (words t) (drop (suc e * words t) ws)) ≡ words t
    → combined op (kinds t) (folded_words op t ws e) (take (words t) (drop (suc e * words t) ws)) ≡ folded_words op t ws (suc e)
next-words op t ws e fo long =
    let size : words t ≡ length (kinds t) = sym (length-kinds t) in
    fill_by_all (λ p. word_fold (folds_of op (atom_of t)) (words t) ws p (suc e))
    (combined op (kinds t) (folded_words op t ws e) (take (words t) (drop (suc e * words t) ws))) (words t) 0
    (length-combined op (kinds t) _ _ (length-table (words t) _ ∙ size) (long ∙ size) ∙ sym size)
    (λ p lt. next-word op t ws e p fo lt long)

head-fold : (f : ValueTree → ValueTree → ValueTree) (xs : List ValueTree) → 1 ≤ length xs → get_or xs 0 end ≡ fold_all f (take 1 xs)
head-fold f [] h = absurd (omega arith)
head-fold f (x ∷ xs) h = refl

-- a fold of words stands for the fold of the elements
pub fold-stands : (op : WordOp) (t : SeqTree) (n e : ℕ) (ws : List ℕ) → IsTrue (folds op) → e < n → Fit (seq n t) ws
    → Stands t (folded_words op t ws e) (fold_all (wordwise op) (take (suc e) (elements (value_of (seq n t) ws))))
fold-stands op t n zero ws fo lt h =
    let xs = elements (value_of (seq n t) ws) in
    let count = count-elements n t ws in
    let one = element-stands n 0 t ws lt h in
    let P : List ℕ → Type 0 = λ us. Stands t us (fold_all (wordwise op) (take 1 xs)) in
    let Q : ValueTree → Type 0 = λ v. Stands t (take (words t) (drop (0 * words t) ws)) v in
    subst P (first-words op t ws (length-Fit t _ one.fits)) (subst Q (head-fold (wordwise op) xs (omega arith)) one)
fold-stands op t n (suc e) ws fo lt h =
    let g = wordwise op in
    let xs = elements (value_of (seq n t) ws) in
    let count = count-elements n t ws in
    let before = fold-stands op t n e ws fo (omega arith) h in
    let x = element-stands n (suc e) t ws lt h in
    let v = get_or xs (suc e) end in
    let sum : suc e + 1 ≡ suc (suc e) = omega arith in
    let step : fold_all g (take (suc (suc e)) xs) ≡ g (fold_all g (take (suc e) xs)) v =
    ap (λ j. fold_all g (take j xs)) (sym sum) ∙ ap (fold_all g) (take_more xs (suc e) end (omega arith)) ∙
    fold_all-push g (take (suc e) xs) v (omega (arith, length-take (suc e) xs)) in
    let fits = combined-fits op (kinds t) _ _ fo before.fits x.fits in
    let next = combined-stands op t _ _ _ _ before x fits in
    let P : List ℕ → Type 0 = λ us. Stands t us (g (fold_all g (take (suc e) xs)) v) in
    let Q : ValueTree → Type 0 = λ z. Stands t (folded_words op t ws (suc e)) z in
    subst Q (sym step) (subst P (next-words op t ws e fo (length-Fit t _ x.fits)) next)

-- the one fold of all elements
pub reduce-stands : (op : WordOp) (t : SeqTree) (n : ℕ) (ws : List ℕ) → IsTrue (folds op) → 1 ≤ n → Fit (seq n t) ws
    → Stands (seq 1 t) (folded_words op t ws (n - 1)) (listed (fold_all (wordwise op) (elements (value_of (seq n t) ws)) ∷ []))
reduce-stands op t n ws fo some h =
    let xs = elements (value_of (seq n t) ws) in
    let count = count-elements n t ws in
    let all : take (suc (n - 1)) xs ≡ xs = take_all (suc (n - 1)) xs (omega arith) in
    let P : List ValueTree → Type 0 = λ ys. Stands t (folded_words op t ws (n - 1)) (fold_all (wordwise op) ys) in
    Stands-one t _ _ (subst P all (fold-stands op t n (n - 1) ws fo (omega arith) h))

-- the folds up to each element
pub scan-stands : (op : WordOp) (t : SeqTree) (n : ℕ) (ws : List ℕ) → IsTrue (folds op) → Fit (seq n t) ws
    → Stands (seq n t) (table (n * words t) (λ q. word_fold (folds_of op (atom_of t)) (words t) ws (q % words t) (q / words t)))
    (listed (folds_up_to (wordwise op) n (elements (value_of (seq n t) ws))))
scan-stands op t n ws fo h =
    let xs = elements (value_of (seq n t) ws) in
    let f : ℕ → ValueTree = λ i. fold_all (wordwise op) (take (i + 1) xs) in
    let sum : (i : ℕ) → suc i ≡ i + 1 = λ i. omega arith in
    let each : (e : ℕ) → e < n → Stands t (folded_words op t ws e) (f e) = λ e lt. subst
    (λ j. Stands t (folded_words op t ws e) (fold_all (wordwise op) (take j xs))) (sum e) (fold-stands op t n e ws fo lt h) in
    let rows = table-by n (words t) (λ e p. word_fold (folds_of op (atom_of t)) (words t) ws p e) in
    let P : List ℕ → Type 0 = λ us. Stands (seq n t) us (listed (table n f)) in
    let Q : List ValueTree → Type 0 = λ vs. Stands (seq n t)
    (table (n * words t) (λ q. word_fold (folds_of op (atom_of t)) (words t) ws (q % words t) (q / words t))) (listed vs) in
    subst Q (sym (folds-table (wordwise op) n xs)) (subst P (sym rows) (stands-table t n (folded_words op t ws) f each))
