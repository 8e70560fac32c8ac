-- What a fold is, and what it makes of the words of a block.
use Rattle.std.specs.Prelude.{◌≡◌, true, ℕ, ◌-◌, ◌*◌, ◌/◌, ◌%◌, ◌≤◌, List, map}
use Rattle.std.specs.List.{range_with_len}
use Rattle.ae_word.specs.declared.op.WordOp.{WordOp}
use Rattle.ae_word.specs.AtomTree.{atom_kinds}
use Rattle.ae_word.specs.WordTable.{folds}
use Rattle.ae_sttype.specs.declared.st_type.StType.{StType}
use Rattle.ae_sttype.specs.StTree.{StTree, tseq, sseq, st_tree, time, lanes, st_atoms, element_atom, element_words}
use Rattle.ae_sttype.specs.Size.{IsInSize}
use Rattle.ae_ops.specs.Folds.{log_up}
use Rattle.ae_fold.specs.declared.words.WordFold.{WordFold}
use Rattle.ae_fold.specs.declared.plan.Plan.{Plan}
use Rattle.ae_fold.specs.Folding.{fold_by, word_fold}

-- what contracts see of a fold: an operator, and elements of a type on lanes and in slots, in each period of so many clocks
pub record FoldShape : Type 0 where
  pub op : WordOp
  pub slots : ℕ
  pub lanes : ℕ
  pub element : StType
  pub period : ℕ

-- one of the seven operators, on up to 4,096 slots and lanes of a type in size, which fit into the period
pub record IsFoldShape (f : FoldShape) : Type 0 where
  pub op : folds f.op ≡ true
  pub slots_some : 1 ≤ f.slots
  pub slots_most : f.slots ≤ 4096
  pub lanes_some : 1 ≤ f.lanes
  pub lanes_most : f.lanes ≤ 4096
  pub element : IsInSize (st_tree f.element)
  pub period_some : 1 ≤ f.period
  pub period_most : f.period ≤ 4096
  pub room : f.slots * time (st_tree f.element) ≤ f.period

-- the layout of the elements that are folded
abbrev pub elements_layout : FoldShape → StTree
elements_layout f = tseq f.slots 0 (sseq f.lanes (st_tree f.element))

-- what the words of an element are folded by
abbrev pub element_folds : WordOp → StTree → List WordFold
element_folds op t = map (fold_by op) (atom_kinds (element_atom t))

-- the words of an element
abbrev pub element_size : StTree → ℕ
element_size t = st_atoms t * element_words t

-- the left fold of so many elements, word by word
abbrev pub folded : WordOp → StTree → (count : ℕ) → List ℕ → List ℕ
folded op t n value =
    map (λ p. word_fold (element_folds op t) (element_size t) value p (n - 1)) (range_with_len 0 (element_size t))

-- the left folds of elements 0 to i, for each of so many elements i, word by word
abbrev pub scanned : WordOp → StTree → (count : ℕ) → List ℕ → List ℕ
scanned op t n value =
    map (λ q. word_fold (element_folds op t) (element_size t) value (q % element_size t) (q / element_size t))
    (range_with_len 0 (n * element_size t))

-- the words of one clock of an element
abbrev pub element_columns : StTree → ℕ
element_columns t = lanes t * element_words t

-- the numbers of a fold of elements of a type
pub record IsPlanFor (t : StTree) (slots lanes period : ℕ) (plan : Plan) : Type 0 where
  pub slots_is : plan.slots ≡ slots
  pub lanes_is : plan.lanes ≡ lanes
  pub stride_is : plan.stride ≡ element_columns t
  pub inner_is : plan.inner ≡ time t
  pub period_is : plan.period ≡ period
  pub levels_is : plan.levels ≡ log_up lanes
