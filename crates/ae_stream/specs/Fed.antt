-- Clocks that show the words of a block.
use Rattle.std.specs.Prelude.{unwrap_or, ◌≡◌, ℕ, ◌+◌, ◌*◌, ◌<◌, List, Some, slice_get}
use Rattle.ae_seqtype.specs.ValueTree.{ValueTree, flat}
use Rattle.ae_seq.specs.ProgramTree.{ProgramTree}
use Rattle.ae_seq.specs.Meaning.{at}
use Rattle.ae_sttype.specs.declared.st_type.Slot.{Slot}
use Rattle.ae_sttype.specs.StTree.{StTree, element_words}
use Rattle.ae_sttype.specs.Slots.{slots}
use Rattle.ae_sttype.specs.Moves.{first_column}
use Rattle.ae_netlist.specs.declared.cell.Cell.TheVariants.{Input}
use Rattle.ae_netlist.specs.declared.cell.Port.{Port}
use Rattle.ae_netlist.specs.declared.cell.SizedCell.{SizedCell}
use Rattle.ae_netlist.specs.Runs.{Clock, IsShaped}
use Rattle.ae_rewrite.specs.Interface.{AreValues, parameter_types}

-- a clock of a run without reset, with the words of clock c of a block
pub record ShowsClock (cells : List SizedCell) (inputs : List StTree) (block : List ValueTree) (c : ℕ) (clock : Clock)
    : Type 0 where
  pub shaped : IsShaped cells clock
  pub low : unwrap_or (slice_get clock.words 0) 0 ≡ 0
  pub words : (q : ℕ) (s : StTree) (e j : ℕ) (w : Slot) → slice_get inputs q ≡ Some s → slice_get (slots s) e ≡ Some w
      → j < element_words s → w.clock ≡ c
      → unwrap_or (slice_get clock.words (1 + (first_column inputs q + (w.lane * element_words s + j)))) 0
      ≡ unwrap_or (slice_get (flat (at block q)) (e * element_words s + j)) 0

-- net n is an input
pub record IsInput (cells : List SizedCell) (n : ℕ) : Type 0 where
  pub width : ℕ
  pub port : Port
  pub found : slice_get cells n ≡ Some (record { width = width; cell = Input port })

-- the reset and each column are inputs, and for each clock of each block there is such a clock
pub record CanBeFed (cells : List SizedCell) (p : ProgramTree) (inputs : List StTree) : Type 0 where
  pub reset : IsInput cells 0
  pub ins : (q : ℕ) (s : StTree) (e j : ℕ) (w : Slot) → slice_get inputs q ≡ Some s → slice_get (slots s) e ≡ Some w
      → j < element_words s → IsInput cells (1 + (first_column inputs q + (w.lane * element_words s + j)))
  pub clocks : (block : List ValueTree) → AreValues (parameter_types p) block
      → (c : ℕ) → (clock : Clock) × ShowsClock cells inputs block c clock
