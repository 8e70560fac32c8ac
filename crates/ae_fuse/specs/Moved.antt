-- The move by which an item could be made straight from the parameters, by the numbers of its words.
use Rattle.std.specs.Prelude.{◌≡◌, ℕ, List, [], length, map, Some, slice_get}
use Rattle.ae_moves.specs.Origins.{Move}
use Rattle.ae_rewrite.specs.Sound.{item_layout, item_layouts}
use Rattle.ae_rewrite.specs.StProgramTree.{StFuncTree}
use Rattle.ae_flow.specs.Flow.{item_words, words_at}
use Rattle.ae_fuse.specs.Labels.{labelled_origin, layout_numbers}

abbrev pub own_move : StFuncTree → (labels : List (List ℕ)) → (item : ℕ) → Move
own_move s labels i =
    record {
      ins = s.ins;
      out = item_layout (item_layouts s) i;
      origins = map (labelled_origin s.ins) (words_at labels i);
    }

-- the numbers of the words of all items, where those of the parameters are numbered from 1 on
abbrev pub own_labels : StFuncTree → List (List ℕ)
own_labels s = item_words [] s (layout_numbers 1 s.ins)

-- a list for each item, which has those numbers for each result
pub record HaveResults (s : StFuncTree) (labels : List (List ℕ)) : Type 0 where
  pub many : length labels ≡ length (item_layouts s)
  pub results : (r i : ℕ) → slice_get s.results r ≡ Some i → words_at labels i ≡ words_at (own_labels s) i
