-- What the words of an element are folded by.
use Rattle.std.specs.Prelude.{◌≡◌, ℕ, ◌+◌, ◌*◌, ◌%◌, ◌<◌, ◌≤◌, ◌^◌, if◌then◌else◌, List, length, get_or, Some, slice_get}
use Rattle.ae_word.specs.declared.op.WordOp.{WordOp}
use Rattle.ae_word.specs.declared.op.WordOp.TheVariants.{Add}
use Rattle.ae_word.specs.AtomTree.{WordKind}
use Rattle.ae_word.specs.WordTable.{op_for}
use Rattle.ae_netlist.specs.Counts.{is_product}
use Rattle.ae_ops.specs.Folds.{IsFold, fold_to}
use Rattle.ae_fold.specs.declared.words.WordFold.{WordFold}

-- f 0 to f n are words of a width
pub record Fit (w : ℕ) (f : ℕ → ℕ) (n : ℕ) : Type 0 where
  pub each : (i : ℕ) → i ≤ n → f i < 2 ^ w

-- the operator on words of a kind
abbrev pub fold_by : WordOp → WordKind → WordFold
fold_by op k = record { op = op_for k.signed op; width = k.width }

-- word q of elements that stand one after another, where the words of an atom are folded by these
abbrev pub fold_at : List WordFold → ℕ → WordFold
fold_at folds q = get_or folds (q % length folds) (record { op = Add; width = 0 })

-- the left fold of words p of elements 0 to e, where an element has so many words
abbrev pub word_fold : List WordFold → (size : ℕ) → (value : List ℕ) → (p e : ℕ) → ℕ
word_fold folds size value p e =
    fold_to (fold_at folds p).op (fold_at folds p).width (λ i. get_or value (i * size + p) 0) e

-- the products of a cell of the operator
abbrev pub product_of : WordOp → ℕ
product_of op = if is_product op then 1 else 0

-- those of a cell of the first
abbrev pub products_in : List WordFold → ℕ
products_in folds = product_of (fold_at folds 0).op

-- operators that fold, on words of 1 to 64 bits; all multiply, or none does
pub record AreFolds (folds : List WordFold) : Type 0 where
  pub some : 1 ≤ length folds
  pub ops : (j : ℕ) (f : WordFold) → slice_get folds j ≡ Some f → IsFold f.op
  pub low : (j : ℕ) (f : WordFold) → slice_get folds j ≡ Some f → 1 ≤ f.width
  pub high : (j : ℕ) (f : WordFold) → slice_get folds j ≡ Some f → f.width ≤ 64
  pub same : (j : ℕ) (f : WordFold) → slice_get folds j ≡ Some f → product_of f.op ≡ products_in folds
