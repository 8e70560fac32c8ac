-- Lists that are given entry by entry, and the values whose words they are.
use Rattle.std.proofs.Common.{◌≡◌, ℕ, zero, suc, ◌+◌, ◌*◌, ◌/◌, ◌%◌, ◌<◌, List, [], ◌∷◌, ◌++◌, length, take, map, get_or, flat_map, refl, arith, sym, ap, ◌∙◌, subst, append-nil, append_assoc}
use Rattle.std.specs.List.{range_with_len}
use Rattle.std.proofs.lemmas.List.{get_or-map, length-map}
use Rattle.std.proofs.lemmas.List.FromFn.{length-map-range_with_len, get_or-map-range_with_len, fill_by_all}
use Rattle.std.proofs.lemmas.Nat.{div-mul-add, mod-mul-add}
use Rattle.std.proofs.Math.Nat.{zero-mul}
use Rattle.ae_seqtype.specs.SeqTree.{SeqTree, seq}
use Rattle.ae_seqtype.specs.ValueTree.{ValueTree, end, listed, Stands}
use Rattle.ae_seqtype.proofs.Stands.{Stands-none, Stands-push}
use Rattle.ae_seq.specs.Meaning.{fold_all, folds_up_to, map_two}

-- entries 0 to n - 1
abbrev pub table : {A : Type 0} → ℕ → (ℕ → A) → List A
table n f = map f (range_with_len 0 n)

-- lists 0 to n - 1, one after another
abbrev pub joined_table : {A : Type 0} → ℕ → (ℕ → List A) → List A
joined_table n f = flat_map f (range_with_len 0 n)

pub length-table : {A : Type 0} (n : ℕ) (f : ℕ → A) → length (table n f) ≡ n
length-table n f = length-map-range_with_len f 0 n

pub get-table : {A : Type 0} (n : ℕ) (f : ℕ → A) (i : ℕ) (d : A) → i < n → get_or (table n f) i d ≡ f i
get-table n f i d lt = get_or-map-range_with_len f 0 n i i d lt (omega arith)

pub table-same : {A : Type 0} (n : ℕ) (f g : ℕ → A) → ((i : ℕ) → i < n → f i ≡ g i) → table n f ≡ table n g
table-same n f g h = fill_by_all g (table n f) n (f 0) (length-table n f) (λ i lt. get-table n f i (f 0) lt ∙ h i lt)

range-more : (a n : ℕ) → range_with_len a (suc n) ≡ range_with_len a n ++ (a + n) ∷ []
range-more a zero = let e : a ≡ a + 0 = omega arith in ap (λ k. k ∷ []) e
range-more a (suc n) =
    let e : a + 1 + n ≡ a + suc n = omega arith in
    ap (λ ks. a ∷ ks) (range-more (a + 1) n ∙ ap (λ k. range_with_len (a + 1) n ++ k ∷ []) e)

range-push : (n : ℕ) → range_with_len 0 (suc n) ≡ range_with_len 0 n ++ n ∷ []
range-push n = let e : 0 + n ≡ n = omega arith in range-more 0 n ∙ ap (λ k. range_with_len 0 n ++ k ∷ []) e

map-both : {A B : Type 0} (f : A → B) (xs ys : List A) → map f (xs ++ ys) ≡ map f xs ++ map f ys
map-both f [] ys = refl
map-both f (x ∷ xs) ys = ap (λ zs. f x ∷ zs) (map-both f xs ys)

flat-both : {A B : Type 0} (f : A → List B) (xs ys : List A) → flat_map f (xs ++ ys) ≡ flat_map f xs ++ flat_map f ys
flat-both f [] ys = refl
flat-both f (x ∷ xs) ys = ap (λ zs. f x ++ zs) (flat-both f xs ys) ∙ sym (append_assoc (f x) (flat_map f xs) (flat_map f ys))

pub table-more : {A : Type 0} (n : ℕ) (f : ℕ → A) → table (suc n) f ≡ table n f ++ f n ∷ []
table-more n f = ap (map f) (range-push n) ∙ map-both f (range_with_len 0 n) (n ∷ [])

pub joined-more : {A : Type 0} (n : ℕ) (f : ℕ → List A) → joined_table (suc n) f ≡ joined_table n f ++ f n
joined-more n f = ap (flat_map f) (range-push n) ∙ flat-both f (range_with_len 0 n) (n ∷ []) ∙ ap (λ zs. joined_table n f ++ zs) (append-nil (f n))

table-add : {A : Type 0} (n m : ℕ) (f : ℕ → A) → table (n + m) f ≡ table n f ++ table m (λ p. f (n + p))
table-add n zero f = let e : n + 0 ≡ n = omega arith in ap (λ k. table k f) e ∙ sym (append-nil (table n f))
table-add {A} n (suc m) f =
    let e : n + suc m ≡ suc (n + m) = omega arith in
    let g : ℕ → A = λ p. f (n + p) in
    ap (λ k. table k f) e ∙ table-more (n + m) f ∙ ap (λ xs. xs ++ f (n + m) ∷ []) (table-add n m f)
    ∙ append_assoc (table n f) (table m g) (g m ∷ []) ∙ ap (λ xs. table n f ++ xs) (sym (table-more m g))

-- rows one after another
pub table-rows : {A : Type 0} (n k : ℕ) (f : ℕ → A) → table (n * k) f ≡ joined_table n (λ e. table k (λ p. f (e * k + p)))
table-rows zero k f = ap (λ j. table j f) (zero-mul k)
table-rows {A} (suc n) k f =
    let e : suc n * k ≡ n * k + k = omega arith in
    let g : ℕ → List A = λ e. table k (λ p. f (e * k + p)) in
    ap (λ j. table j f) e ∙ table-add (n * k) k f ∙ ap (λ xs. xs ++ g n) (table-rows n k f) ∙ sym (joined-more n g)

joined-same : {A : Type 0} (n : ℕ) (f g : ℕ → List A) → ((e : ℕ) → f e ≡ g e) → joined_table n f ≡ joined_table n g
joined-same zero f g h = refl
joined-same (suc n) f g h = joined-more n f ∙ ap (λ xs. xs ++ f n) (joined-same n f g h) ∙ ap (λ x. joined_table n g ++ x) (h n) ∙ sym (joined-more n g)

-- by row and by place in the row
pub table-by : {A : Type 0} (n k : ℕ) (f : ℕ → ℕ → A) → table (n * k) (λ q. f (q / k) (q % k)) ≡ joined_table n (λ e. table k (λ p. f e p))
table-by n k f =
    table-rows n k (λ q. f (q / k) (q % k))
    ∙ joined-same n (λ e. table k (λ p. f ((e * k + p) / k) ((e * k + p) % k))) (λ e. table k (λ p. f e p))
    (λ e. table-same k (λ p. f ((e * k + p) / k) ((e * k + p) % k)) (λ p. f e p)
    (λ p lt. ap (λ z. f z ((e * k + p) % k)) (div-mul-add e k p lt) ∙ ap (λ z. f e z) (mod-mul-add e k p lt)))

-- elements that stand one after another are those of a sequence
pub stands-table : (u : SeqTree) (n : ℕ) (f : ℕ → List ℕ) (g : ℕ → ValueTree) → ((e : ℕ) → e < n → Stands u (f e) (g e))
    → Stands (seq n u) (joined_table n f) (listed (table n g))
stands-table u zero f g h = Stands-none u
stands-table u (suc n) f g h =
    let one : n + 1 ≡ suc n = omega arith in
    let rest = stands-table u n f g (λ e lt. h e (omega arith)) in
    let next = Stands-push n u (joined_table n f) (f n) (table n g) (g n) rest (h n (omega arith)) in
    let N : ℕ → Type 0 = λ k. Stands (seq k u) (joined_table n f ++ f n) (listed (table n g ++ g n ∷ [])) in
    let P : List ℕ → Type 0 = λ ws. Stands (seq (suc n) u) ws (listed (table n g ++ g n ∷ [])) in
    let Q : List ValueTree → Type 0 = λ vs. Stands (seq (suc n) u) (joined_table (suc n) f) (listed vs) in
    subst Q (sym (table-more n g)) (subst P (sym (joined-more n f)) (subst N one next))

-- ---- lists as tables

pub map-table : (g : ValueTree → ValueTree) (xs : List ValueTree) (n : ℕ) → length xs ≡ n → map g xs ≡ table n (λ i. g (get_or xs i end))
map-table g xs n long = fill_by_all (λ i. g (get_or xs i end)) (map g xs) n end (length-map xs g ∙ long) (λ i lt. get_or-map g xs i end end (omega arith))

length-two : (g : ValueTree → ValueTree → ValueTree) (xs ys : List ValueTree) → length xs ≡ length ys → length (map_two g xs ys) ≡ length xs
length-two g [] ys h = refl
length-two g (x ∷ xs) [] h = absurd (omega arith)
length-two g (x ∷ xs) (y ∷ ys) h = ap suc (length-two g xs ys (omega arith))

get-two : (g : ValueTree → ValueTree → ValueTree) (xs ys : List ValueTree) (i : ℕ) → i < length xs → length xs ≡ length ys
    → get_or (map_two g xs ys) i end ≡ g (get_or xs i end) (get_or ys i end)
get-two g [] ys i lt h = absurd (omega arith)
get-two g (x ∷ xs) [] i lt h = absurd (omega arith)
get-two g (x ∷ xs) (y ∷ ys) zero lt h = refl
get-two g (x ∷ xs) (y ∷ ys) (suc i) lt h = get-two g xs ys i (omega arith) (omega arith)

pub map_two-table : (g : ValueTree → ValueTree → ValueTree) (xs ys : List ValueTree) (n : ℕ) → length xs ≡ n → length ys ≡ n
    → map_two g xs ys ≡ table n (λ i. g (get_or xs i end) (get_or ys i end))
map_two-table g xs ys n a b =
    fill_by_all (λ i. g (get_or xs i end) (get_or ys i end)) (map_two g xs ys) n end (length-two g xs ys (a ∙ sym b) ∙ a)
    (λ i lt. get-two g xs ys i (omega arith) (a ∙ sym b))

pub folds-table : (f : ValueTree → ValueTree → ValueTree) (n : ℕ) (xs : List ValueTree) → folds_up_to f n xs ≡ table n (λ i. fold_all f (take (i + 1) xs))
folds-table f zero xs = refl
folds-table f (suc n) xs = ap (λ vs. vs ++ fold_all f (take (n + 1) xs) ∷ []) (folds-table f n xs) ∙ sym (table-more n (λ i. fold_all f (take (i + 1) xs)))
