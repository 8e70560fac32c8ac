-- Until when the labels of items are wanted.
use Rattle.std.specs.Prelude.{◌≡◌, ℕ, ◌+◌, ◌<◌, ◌≤◌, List, length, Some, slice_get, get_or}
use Rattle.ae_rewrite.specs.StProgramTree.{StFuncTree, StNodeTree}
use Rattle.ae_rewrite.specs.Sound.{item_layouts}
use Rattle.ae_flow.specs.Flow.{words_at}

-- the entries of these items are at least a number, and no entry is less than it was
pub record AreRaised (items : List ℕ) (to : ℕ) (old new : List ℕ) : Type 0 where
  pub long : length new ≡ length old
  pub keeps : (a : ℕ) → get_or old a 0 ≤ get_or new a 0
  pub raised : (i a : ℕ) → slice_get items i ≡ Some a → to ≤ get_or new a 0

-- for each item a number above that of each node that has it as an argument, and for a result above that of all nodes
pub record AreWants (s : StFuncTree) (last : List ℕ) : Type 0 where
  pub many : length last ≡ length (item_layouts s)
  pub nodes : (j i a : ℕ) (n : StNodeTree) → slice_get s.nodes j ≡ Some n → slice_get n.args i ≡ Some a
      → j < get_or last a 0
  pub results : (r a : ℕ) → slice_get s.results r ≡ Some a → length s.nodes < get_or last a 0

-- behind node j the labels of all items that are still wanted are what they were
pub record KeepWanted (last : List ℕ) (j : ℕ) (old new : List (List ℕ)) : Type 0 where
  pub many : length new ≡ length old
  pub same : (a : ℕ) → j + 1 < get_or last a 0 → words_at new a ≡ words_at old a
