-- Which circuits take the words of which blocks.
use Rattle.std.specs.Prelude.{◌≡◌, ℕ, ◌*◌, List, ◌∷◌, length, map, flat_map}
use Rattle.std.specs.List.{All}
use Rattle.ae_word.specs.AtomTree.{WordKind, atom_kinds}
use Rattle.ae_seqtype.specs.SeqTree.{repeated}
use Rattle.ae_seqtype.specs.ValueTree.{FitKinds}
use Rattle.ae_sttype.specs.StTree.{StTree, element_atom, lanes, st_atoms, time}
use Rattle.ae_sttype.specs.Size.{IsInSize}
use Rattle.ae_netlist.specs.declared.cell.SizedCell.{SizedCell}
use Rattle.ae_netlist.specs.Counts.{cells_of, is_input}
use Rattle.ae_netlist.specs.Rows.{AreInputs}
use Rattle.ae_play.specs.Fed.{blocks_of, fed_rows, size_of}

-- the kinds of the words of a layout in one clock, and of a whole value of it
abbrev pub lane_kinds : StTree → List WordKind
lane_kinds s = repeated (lanes s) (atom_kinds (element_atom s))

abbrev pub value_kinds : StTree → List WordKind
value_kinds s = repeated (st_atoms s) (atom_kinds (element_atom s))

-- the inputs of a circuit are the reset and then a word of each column, with the widths of these
abbrev pub HasColumns : List SizedCell → List StTree → Type 0
HasColumns cells ss =
    map (λ (sized : SizedCell). sized.width) (cells_of is_input cells) ≡ 1
    ∷ map (λ (k : WordKind). k.width) (flat_map lane_kinds ss)

-- the words are those of so many blocks, each below 2 to its width
abbrev pub FitBlocks : List StTree → (count : ℕ) → List ℕ → Type 0
FitBlocks ss n ws = FitKinds ws (repeated n (flat_map value_kinds ss))

-- such a circuit can be fed with such blocks
abbrev pub CanBeFed : Type 0
CanBeFed =
    (cells : List SizedCell) (slowdown fill : ℕ) (ss : List StTree) (count : ℕ) (ws : List ℕ) → HasColumns cells ss
    → FitBlocks ss count ws
    → (clocks : ℕ) → All (AreInputs cells) (fed_rows slowdown fill ss (blocks_of ss count ws) clocks)

-- a circuit takes so many blocks: their layouts are in size and fill the clocks of a block, the words are whole blocks, and
-- each row that is put on the inputs fits them
pub record TakesBlocks (cells : List SizedCell) (slowdown fill : ℕ) (ss : List StTree) (count : ℕ) (ws : List ℕ)
    : Type 0 where
  pub ins : All (λ (s : StTree). IsInSize s × (time s ≡ slowdown)) ss
  pub whole : length ws ≡ count * size_of ss
  pub rows : (clocks : ℕ) → All (AreInputs cells) (fed_rows slowdown fill ss (blocks_of ss count ws) clocks)
