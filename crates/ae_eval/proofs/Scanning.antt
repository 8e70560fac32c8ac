-- Scans and folds on a stack.
use Rattle.std.proofs.Common.{◌≡◌, ℕ, suc, ◌+◌, ◌-◌, ◌*◌, ◌<◌, ◌≤◌, List, [], ◌∷◌, ◌++◌, length, take, drop, get_or, IsTrue, refl, arith, sym, ap, ◌∙◌, subst, append_assoc, length-append}
use Rattle.std.proofs.lemmas.List.{take_all, take-append-drop, drop-drop}
use Rattle.std.proofs.lemmas.Bool.Decides.{nat_tests}
use Rattle.std.proofs.Math.Seq.{drop-append_seam, take-append_seam}
use Rattle.std.proofs.Math.Nat.{zero-mul}
use Rattle.ae_word.specs.declared.op.WordOp.{WordOp}
use Rattle.ae_word.specs.WordTable.{folds}
use Rattle.ae_seqtype.specs.SeqTree.{SeqTree, seq, words, kinds, in_size}
use Rattle.ae_seqtype.specs.ValueTree.{ValueTree, end, value_of, Fit, FitKinds, elements, listed, Stands}
use Rattle.ae_seqtype.proofs.Stands.{length-Fit, Stands-one}
use Rattle.ae_seq.specs.Typing.{scan_type, reduce_type}
use Rattle.ae_seq.specs.Meaning.{wordwise, fold_all, folds_up_to}
use Rattle.ae_eval.specs.Stack.{FitAt, Pushed, window, combined}
use Rattle.ae_eval.proofs.Windows.{pushed-on, window-append, window-inside}
use Rattle.ae_eval.proofs.Pieces.{element-stands, piece-stands, piece-ends, count-elements}
use Rattle.ae_eval.proofs.Folding.{scan-step, folds-last}
use Rattle.ae_eval.proofs.WordFits.{combined-fits}

pub record Scanning (op : WordOp) (s t : SeqTree) (start : ℕ) (old now : List ℕ) (i : ℕ) : Type 0 where
  pub kept : take (length old) now ≡ old
  pub stands : Stands (seq i t) (drop (length old) now) (listed (folds_up_to (wordwise op) i (elements (value_of s (window s start old)))))

scanning-on : (op : WordOp) (s t : SeqTree) (start : ℕ) (old new out : List ℕ) (i : ℕ) → new ≡ old ++ out
    → Stands (seq i t) out (listed (folds_up_to (wordwise op) i (elements (value_of s (window s start old))))) → Scanning op s t start old new i
scanning-on op s t start old new out i e st = rw e (record {
  kept = take-append_seam old out;
  stands = rw (drop-append_seam old out) st;
})

head-fold : (f : ValueTree → ValueTree → ValueTree) (xs : List ValueTree) → 1 ≤ length xs → fold_all f (take 1 xs) ≡ get_or xs 0 end
head-fold f [] h = absurd (omega arith)
head-fold f (x ∷ xs) h = refl

scan-first-core : (op : WordOp) (n start k : ℕ) (t : SeqTree) (old new : List ℕ) → 1 ≤ n → k ≡ words t → FitAt (seq n t) start old → new ≡ old
    ++ take k (drop start old) → Scanning op (seq n t) t start old new 1
scan-first-core op n start k t old new h ek f e =
    let w = words t in
    let ws = window (seq n t) start old in
    let xs = elements (value_of (seq n t) ws) in
    let long = count-elements n t ws in
    let x = element-stands n 0 t ws (omega arith) f.fits in
    let ends = piece-ends n 0 w (omega arith) in
    let r : take w (drop (0 * w) ws) ≡ take k (drop start old) =
    window-inside start (0 * w) w (n * w) old ends ∙ ap (λ j. take w (drop j old)) (let z : start + 0 * w ≡ start = omega (arith, zero-mul w) in z) ∙
    ap (λ j. take j (drop start old)) (sym ek) in
    let P : List ℕ → Type 0 = λ ys. Stands t ys (get_or xs 0 end) in
    let Q : ValueTree → Type 0 = λ v. Stands t (take k (drop start old)) v in
    let first = subst Q (sym (head-fold (wordwise op) xs (omega arith))) (subst P r x) in
    scanning-on op (seq n t) t start old new (take k (drop start old)) 1 e (Stands-one t (take k (drop start old)) (fold_all (wordwise op) (take 1 xs)) first)

pub scan-first : (op : WordOp) (n start k : ℕ) (s t : SeqTree) (old new : List ℕ) → s ≡ seq n t → 1 ≤ n → k ≡ words t → FitAt s start old → new ≡ old
    ++ take k (drop start old) → Scanning op s t start old new 1
scan-first op n start k s t old new es h ek f e =
    let P : SeqTree → Type 0 = λ z. FitAt z start old → Scanning op z t start old new 1 in
    subst P (sym es) (λ g. scan-first-core op n start k t old new h ek g e) f

split : (old now : List ℕ) → take (length old) now ≡ old → now ≡ old ++ drop (length old) now
split old now h = sym (take-append-drop (length old) now) ∙ ap (λ ys. ys ++ drop (length old) now) h

left-window : (t : SeqTree) (base size j : ℕ) (old now : List ℕ) → base ≡ length old → size ≡ words t
    → window t (base + j * size) now ≡ take (words t) (drop (j * words t) (drop (length old) now))
left-window t base size j old now eb es =
    ap (λ i. take (words t) (drop (i + j * size) now)) eb ∙ ap (λ i. take (words t) (drop (length old + j * i) now)) es ∙
    ap (take (words t)) (sym (drop-drop (j * words t) (length old) now))

pub right-window : (n : ℕ) (t : SeqTree) (start size i : ℕ) (old now : List ℕ) → size ≡ words t → i < n → FitAt (seq n t) start old
    → take (length old) now ≡ old → window t (start + i * size) now ≡ take (words t) (drop (i * words t) (window (seq n t) start old))
right-window n t start size i old now es lt f kept =
    let w = words t in
    let room = f.room in
    let ends = piece-ends n i w lt in
    ap (λ j. take w (drop (start + i * j) now)) es
    ∙ ap (λ ys. take w (drop (start + i * w) ys)) (split old now kept)
    ∙ window-append (start + i * w) w old (drop (length old) now) (omega arith)
    ∙ sym (window-inside start (i * w) w (n * w) old ends)

before : (i : ℕ) → 1 ≤ i → suc (i - 1) ≡ i
before i h = omega arith

scan-core : (op : WordOp) (n start base size j : ℕ) (t : SeqTree) (old now new : List ℕ) → IsTrue (folds op) → base ≡ length old → size ≡ words t → suc j < n
    → FitAt (seq n t) start old → Scanning op (seq n t) t start old now (suc j)
    → new ≡ now ++ combined op (kinds t) (window t (base + j * size) now) (window t (start + suc j * size) now)
    → Scanning op (seq n t) t start old new (suc j + 1)
scan-core op n start base size j t old now new fo eb es lt f sc e =
    let w = words t in
    let out = drop (length old) now in
    let ws = window (seq n t) start old in
    let r = combined op (kinds t) (window t (base + j * size) now) (window t (start + suc j * size) now) in
    let l = left-window t base size j old now eb es in
    let m = right-window n t start size (suc j) old now es lt f sc.kept in
    let form : r ≡ combined op (kinds t) (take w (drop (j * w) out)) (take w (drop (suc j * w) ws)) = ap
    (λ us. combined op (kinds t) us (window t (start + suc j * size) now)) l ∙ ap (λ vs. combined op (kinds t) (take w (drop (j * w) out)) vs) m in
    let fl = (piece-stands (suc j) j t out _ (omega arith) sc.stands).fits in
    let fr = (element-stands n (suc j) t ws lt f.fits).fits in
    let P : List ℕ → Type 0 = λ ys. FitKinds ys (kinds t) in
    let fits = subst P (sym form) (combined-fits op (kinds t) _ _ fo fl fr) in
    let next = scan-step op n j t ws out lt f.fits sc.stands r form fits in
    let all : new ≡ old ++ (out ++ r) = e ∙ ap (λ ys. ys ++ r) (split old now sc.kept) ∙ append_assoc old out r in
    scanning-on op (seq n t) t start old new (out ++ r) (suc j + 1) all next

pub scan-next : (op : WordOp) (n start base size i : ℕ) (s t : SeqTree) (old now new : List ℕ) → IsTrue (folds op) → s ≡ seq n t → base ≡ length old
    → size ≡ words t → 1 ≤ i → i < n → FitAt s start old → Scanning op s t start old now i
    → new ≡ now ++ combined op (kinds t) (window t (base + (i - 1) * size) now) (window t (start + i * size) now) → Scanning op s t start old new (i + 1)
scan-next op n start base size i s t old now new fo ez eb es h lt f sc e =
    let P : SeqTree → Type 0 = λ z. FitAt z start old → Scanning op z t start old now i → Scanning op z t start old new (i + 1) in
    let Q : ℕ → Type 0 = λ k. k < n → FitAt (seq n t) start old → Scanning op (seq n t) t start old now k → new ≡ now
    ++ combined op (kinds t) (window t (base + (i - 1) * size) now) (window t (start + k * size) now) → Scanning op (seq n t) t start old new (k + 1) in
    let core = subst Q (before i h) (λ a b c d. scan-core op n start base size (i - 1) t old now new fo eb es a b c d) in
    subst P (sym ez) (λ b c. core lt b c e) f sc

pub scan-left : (op : WordOp) (n start base size i : ℕ) (s t : SeqTree) (old now : List ℕ) → base ≡ length old → size ≡ words t → 1 ≤ i
    → Scanning op s t start old now i → FitAt t (base + (i - 1) * size) now
scan-left op n start base size i s t old now eb es h sc =
    let w = words t in
    let out = drop (length old) now in
    let long = length-Fit (seq i t) out sc.stands.fits in
    let one = piece-stands i (i - 1) t out _ (omega arith) sc.stands in
    let l = left-window t base size (i - 1) old now eb es in
    let ends = piece-ends i (i - 1) w (omega arith) in
    let whole : length now ≡ length old + length out = ap length (split old now sc.kept) ∙ length-append old out in
    let P : List ℕ → Type 0 = λ ys. Fit t ys in
    record { room = rw (es, eb) (omega arith); fits = subst P (sym l) one.fits }

pub scan-right : (op : WordOp) (n start base size i : ℕ) (s t : SeqTree) (old now : List ℕ) → s ≡ seq n t → size ≡ words t → i < n → FitAt s start old
    → Scanning op s t start old now i → FitAt t (start + i * size) now
scan-right op n start base size i s t old now ez es lt f sc =
    let w = words t in
    let out = drop (length old) now in
    let P : SeqTree → Type 0 = λ z. FitAt z start old in
    let g = subst P ez f in
    let room = g.room in
    let ends = piece-ends n i w lt in
    let one = element-stands n i t (window (seq n t) start old) lt g.fits in
    let m = right-window n t start size i old now es lt g sc.kept in
    let whole : length now ≡ length old + length out = ap length (split old now sc.kept) ∙ length-append old out in
    let Q : List ℕ → Type 0 = λ ys. Fit t ys in
    record { room = rw es (omega arith); fits = subst Q (sym m) one.fits }

pub scan-done : (op : WordOp) (n start i : ℕ) (s t : SeqTree) (old now : List ℕ) → s ≡ seq n t → i ≡ n → Scanning op s t start old now i
    → let xs = elements (value_of s (window s start old)) in Pushed (scan_type s) old now (listed (folds_up_to (wordwise op) (length xs) xs))
scan-done op n start i s t old now ez ei sc = record {
  kept = sc.kept;
  stands = λ u p.
      let xs = elements (value_of s (window s start old)) in
      let same : seq n t ≡ u = (let q = rw ez at p in cc) in
      let long : length xs ≡ i = ap (λ z. length (elements (value_of z (window z start old)))) ez ∙ count-elements n t _ ∙ sym ei in
      let P : ℕ → Type 0 = λ j. Stands (seq i t) (drop (length old) now) (listed (folds_up_to (wordwise op) j xs)) in
      let Q : SeqTree → Type 0 = λ z. Stands z (drop (length old) now) (listed (folds_up_to (wordwise op) (length xs) xs)) in
      subst Q (ap (λ j. seq j t) ei ∙ same) (subst P (sym long) sc.stands);
}

pub count-some : (n : ℕ) (s t : SeqTree) → s ≡ seq n t → IsTrue (in_size s) → 1 ≤ n
count-some n s t es h = let g = rw es at h in grind (arith, nat_tests)

scan-whole : (op : WordOp) (n start : ℕ) (s t : SeqTree) (old mid : List ℕ) → s ≡ seq n t → let xs = elements (value_of s (window s start old)) in
    Pushed (scan_type s) old mid (listed (folds_up_to (wordwise op) (length xs) xs))
    → Stands (seq n t) (drop (length old) mid) (listed (folds_up_to (wordwise op) n xs))
scan-whole op n start s t old mid es p =
    let xs = elements (value_of s (window s start old)) in
    let long : length xs ≡ n = ap (λ z. length (elements (value_of z (window z start old)))) es ∙ count-elements n t _ in
    let P : ℕ → Type 0 = λ j. Stands (seq n t) (drop (length old) mid) (listed (folds_up_to (wordwise op) j xs)) in
    subst P long (p.stands (seq n t) (ap scan_type es))

pub reduce-room : (op : WordOp) (n start base size : ℕ) (s t : SeqTree) (old mid : List ℕ) → s ≡ seq n t → base ≡ length old → size ≡ words t → 1 ≤ n
    → let xs = elements (value_of s (window s start old)) in Pushed (scan_type s) old mid (listed (folds_up_to (wordwise op) (length xs) xs))
    → base + (n - 1) * size + size ≤ length mid
reduce-room op n start base size s t old mid es eb ez h p =
    let out = drop (length old) mid in
    let st = scan-whole op n start s t old mid es p in
    let long = length-Fit (seq n t) out st.fits in
    let ends = piece-ends n (n - 1) (words t) (omega arith) in
    let whole : length mid ≡ length old + length out = ap length (split old mid p.kept) ∙ length-append old out in
    rw (ez, eb) (omega arith)

pub reduce-pushed : (op : WordOp) (n start base size : ℕ) (s t : SeqTree) (old mid new : List ℕ) → s ≡ seq n t → base ≡ length old → size ≡ words t → 1 ≤ n
    → let xs = elements (value_of s (window s start old)) in Pushed (scan_type s) old mid (listed (folds_up_to (wordwise op) (length xs) xs))
    → new ≡ take base mid ++ take size (drop (base + (n - 1) * size) mid) → Pushed (reduce_type s) old new (listed (fold_all (wordwise op) xs ∷ []))
reduce-pushed op n start base size s t old mid new es eb ez h p e =
    let xs = elements (value_of s (window s start old)) in
    let out = drop (length old) mid in
    let w = words t in
    let st = scan-whole op n start s t old mid es p in
    let one = piece-stands n (n - 1) t out _ (omega arith) st in
    let l = left-window t base size (n - 1) old mid eb ez in
    let long : length xs ≡ n = ap (λ z. length (elements (value_of z (window z start old)))) es ∙ count-elements n t _ in
    let j = n - 1 in
    let back = before n h in
    let value : get_or (folds_up_to (wordwise op) n xs) j end ≡ fold_all (wordwise op) xs =
    ap (λ i. get_or (folds_up_to (wordwise op) i xs) j end) (sym back) ∙ folds-last (wordwise op) j xs ∙ ap (λ i. fold_all (wordwise op) (take i xs)) back ∙
    ap (fold_all (wordwise op)) (take_all n xs (omega arith)) in
    let r : take size (drop (base + (n - 1) * size) mid) ≡ take w (drop (j * w) out) = ap (λ i. take i (drop (base + (n - 1) * size) mid)) ez ∙ l in
    let all : new ≡ old ++ take w (drop (j * w) out) = e ∙ ap (λ ys. take base mid ++ ys) r ∙ ap (λ i. take i mid ++ take w (drop (j * w) out)) eb ∙
    ap (λ ys. ys ++ take w (drop (j * w) out)) p.kept in
    let P : ValueTree → Type 0 = λ v. Stands t (take w (drop (j * w) out)) v in
    let st1 = Stands-one t (take w (drop (j * w) out)) (fold_all (wordwise op) xs) (subst P value one) in
    pushed-on (reduce_type s) old new _ _ all (λ u q. let same : seq 1 t ≡ u = (let q' = rw es at q in cc) in let Q : SeqTree
    → Type 0 = λ z. Stands z (take w (drop (j * w) out)) (listed (fold_all (wordwise op) xs ∷ [])) in subst Q same st1)
