-- The numbers of the words of a movement program's items, by the layouts of its parameters.
use Rattle.std.specs.Prelude.{◌≡◌, ℕ, zero, suc, ◌+◌, ◌-◌, ◌*◌, ◌/◌, ◌%◌, ◌<◌, ◌≤◌, Bool, true, false, ◌&&◌, nat_lt, if◌then◌else◌, List, [], ◌∷◌, length, Some, slice_get, get_or}
use Rattle.std.specs.List.{range_with_len}
use Rattle.ae_sttype.specs.StTree.{StTree, element_words}
use Rattle.ae_sttype.specs.Size.{IsInSize}
use Rattle.ae_sttype.specs.Moves.{OriginTree, from_input, fixed}
use Rattle.ae_rewrite.specs.StProgramTree.{StNodeTree, StFuncTree, StOpTree, word, join, first, second, fixed, move, fold, scan, body}
use Rattle.ae_rewrite.specs.Sound.{item_layout, item_layouts}
use Rattle.ae_flow.specs.Flow.{layout_words, words_at}
use Rattle.ae_flow.specs.Fitted.{FitsNode}

-- ---- nodes that move words

abbrev pub is_moving : StOpTree → Bool
is_moving (word op) = false
is_moving join = true
is_moving first = true
is_moving second = true
is_moving (fixed ws) = false
is_moving (move how) = true
is_moving (fold op slots lanes raw) = false
is_moving (scan op slots lanes) = false
is_moving (body k) = false

abbrev pub are_moving : List StNodeTree → Bool
are_moving [] = true
are_moving (n ∷ ns) = is_moving n.op && are_moving ns

-- ---- numbers

-- the words of the parameters, numbered from one number on
abbrev pub layout_numbers : (first : ℕ) → List StTree → List (List ℕ)
layout_numbers k [] = []
layout_numbers k (s ∷ ss) = range_with_len k (layout_words s) ∷ layout_numbers (k + layout_words s) ss

-- word number n of values in these layouts, the first of which is input i
abbrev pub layout_origin : (i : ℕ) → List StTree → (n : ℕ) → OriginTree
layout_origin i [] n = fixed 0
layout_origin i (s ∷ ss) n =
    if nat_lt n (layout_words s) then from_input i (n / element_words s) (n % element_words s) else layout_origin
    (i + 1) ss (n - layout_words s)

-- the word of a number, of which the first is 1; the number 0 is that of a word 0
abbrev pub labelled_origin : List StTree → ℕ → OriginTree
labelled_origin ss zero = fixed 0
labelled_origin ss (suc n) = layout_origin 0 ss n

-- the word of an origin among those of the one argument of a move, whose elements have so many words
abbrev pub label_from : (labels : List ℕ) (words : ℕ) → OriginTree → ℕ
label_from ls w (from_input i e j) = get_or ls (e * w + j) 0
label_from ls w (fixed v) = v

-- ---- what is sure of an instance all of whose nodes move words, and of a node whose arguments have their labels

pub record MovesWords (s : StFuncTree) : Type 0 where
  pub moving : are_moving s.nodes ≡ true
  pub few : length s.ins ≤ 8
  pub before : List StFuncTree
  pub fits : (j : ℕ) (n : StNodeTree) → slice_get s.nodes j ≡ Some n → FitsNode before s n
  pub args : (j i a : ℕ) (n : StNodeTree) → slice_get s.nodes j ≡ Some n → slice_get n.args i ≡ Some a
      → a < length s.ins + j
  pub sizes : (i : ℕ) → i < length (item_layouts s) → IsInSize (item_layout (item_layouts s) i)

pub record IsReady (s : StFuncTree) (n : StNodeTree) (labels : List (List ℕ)) : Type 0 where
  pub before : List StFuncTree
  pub fits : FitsNode before s n
  pub size : IsInSize n.type
  pub sizes : (i : ℕ) → i < length (item_layouts s) → IsInSize (item_layout (item_layouts s) i)
  pub below : length labels ≤ length (item_layouts s)
  pub args : (i a : ℕ) → slice_get n.args i ≡ Some a → a < length labels
  pub long : (i a : ℕ) → slice_get n.args i ≡ Some a
      → length (words_at labels a) ≡ layout_words (item_layout (item_layouts s) a)
