-- The columns of a row, one after the other.
use Rattle.std.proofs.Common.{◌≡◌, ℕ, zero, suc, ◌+◌, ◌<◌, ◌≤◌, Bool, true, false, if◌then◌else◌, List, [], ◌∷◌, length, drop, get_or, Some, None, refl, ap, ◌∙◌, arith}
use Rattle.std.proofs.lemmas.List.{drop_more, drop_all}
use Rattle.ae_fields.specs.Rows.{is_right, wrong_column}

pub column-without-field : (k i : ℕ) (ws : List ℕ) → i < length ws → wrong_column k (drop i ws) [] ≡ Some k
column-without-field k i [] h = absurd (omega arith)
column-without-field k zero (w ∷ ws) h = refl
column-without-field k (suc i) (w ∷ ws) h = column-without-field k i ws (omega arith)

pub field-without-column : (k i : ℕ) (ws f : List ℕ) (fs : List (List ℕ)) → length ws ≤ i → wrong_column k (drop i ws) (f ∷ fs) ≡ Some k
field-without-column k i ws f fs h = ap (λ l. wrong_column k l (f ∷ fs)) (drop_all i ws h)

pub no-column-left : (k i : ℕ) (ws : List ℕ) → length ws ≤ i → wrong_column k (drop i ws) [] ≡ None
no-column-left k i ws h = ap (λ l. wrong_column k l []) (drop_all i ws h)

-- a field that is right, or not, in column i, by whether a word was read
pub read-right : (b : Bool) (v : ℕ) (w : ℕ) → Some w ≡ (if b then Some v else None) → b ≡ true
read-right true v w e = refl
read-right false v w e = cc

pub read-value : (b : Bool) (v : ℕ) (w : ℕ) → Some w ≡ (if b then Some v else None) → w ≡ v
read-value true v w e = cc
read-value false v w e = cc

pub read-wrong : (b : Bool) (v : ℕ) → None ≡ (if b then Some v else None) → b ≡ false
read-wrong true v e = cc
read-wrong false v e = refl

pub right-column : (k i : ℕ) (ws f : List ℕ) (fs : List (List ℕ)) → i < length ws → is_right (get_or ws i 0) f ≡ true
    → wrong_column k (drop i ws) (f ∷ fs) ≡ wrong_column (k + 1) (drop (i + 1) ws) fs
right-column k i ws f fs h e =
    ap (λ l. wrong_column k l (f ∷ fs)) (drop_more ws i 0 h) ∙ ap (λ t. if t then wrong_column (k + 1) (drop (i + 1) ws) fs else Some k) e

pub wrong-column : (k i : ℕ) (ws f : List ℕ) (fs : List (List ℕ)) → i < length ws → is_right (get_or ws i 0) f ≡ false →
    wrong_column k (drop i ws) (f ∷ fs) ≡ Some k
wrong-column k i ws f fs h e =
    ap (λ l. wrong_column k l (f ∷ fs)) (drop_more ws i 0 h) ∙ ap (λ t. if t then wrong_column (k + 1) (drop (i + 1) ws) fs else Some k) e
