-- What the netlist that a module's text is read back as shows of runs on blocks: what the module shows of them.
use Rattle.std.specs.Prelude.{◌≡◌, ℕ, List, map, Some, slice_get}
use Rattle.std.specs.List.{All}
use Rattle.ae_seqtype.specs.ValueTree.{ValueTree, flat}
use Rattle.ae_sttype.specs.StTree.{StTree}
use Rattle.ae_seq.specs.ProgramTree.{ProgramTree}
use Rattle.ae_eval.specs.Lines.{input_types}
use Rattle.ae_rewrite.specs.Interface.{AreValues}
use Rattle.ae_netlist.specs.Circuit.{Circuit}
use Rattle.ae_netlist.specs.Rows.{AreInputs}
use Rattle.ae_vmodule.specs.ModuleTree.{ModuleTree}
use Rattle.ae_play.specs.Fed.{blocks_of, fed_rows}
use Rattle.ae_play.specs.Fits.{FitBlocks}
use Rattle.ae_play.specs.Lines.{IsPlayedText}
use Rattle.ae_play.specs.Sums.{ArePlayedSums}
use Rattle.ae_play.specs.Words.{ArePlayedWords}
use Rattle.ae_play.specs.declared.sums.Sums.{Sums}
use Rattle.ae_correct.specs.ClockTexts.{AreClockSums, AreClockWords, IsClockText}

-- blocks of values of the program's parameters
abbrev pub AreProgramBlocks : ProgramTree → List (List ValueTree) → Type 0
AreProgramBlocks p blocks =
    (b : ℕ) (block : List ValueTree) → slice_get blocks b ≡ Some block → AreValues (input_types p) block

-- the netlist can be fed with blocks of words that fit, and the lines, the sums and the words of its run on the words of
-- blocks are those of the module's run on the blocks
pub record Shows (p : ProgramTree) (slowdown latency fill : ℕ) (ins outs : List StTree) (m : ModuleTree)
    (n : Circuit) : Type 0 where
  pub feeds : (count : ℕ) (words : List ℕ) → FitBlocks ins count words → (clocks : ℕ)
      → All (AreInputs n.cells) (fed_rows slowdown fill ins (blocks_of ins count words) clocks)
  pub lines : (count : ℕ) (words : List ℕ) (blocks : List (List ValueTree)) (text : List ℕ) → FitBlocks ins count words
      → AreProgramBlocks p blocks → blocks_of ins count words ≡ map (map flat) blocks
      → IsPlayedText n slowdown latency fill ins outs (blocks_of ins count words) text
      → IsClockText m slowdown latency fill ins outs blocks text
  pub sums : (count : ℕ) (words : List ℕ) (blocks : List (List ValueTree)) (sums : Sums) → FitBlocks ins count words
      → AreProgramBlocks p blocks → blocks_of ins count words ≡ map (map flat) blocks
      → ArePlayedSums n slowdown latency fill ins outs (blocks_of ins count words) sums
      → AreClockSums m slowdown latency fill ins outs blocks sums
  pub words : (count : ℕ) (words : List ℕ) (blocks : List (List ValueTree)) (all : List ℕ) → FitBlocks ins count words
      → AreProgramBlocks p blocks → blocks_of ins count words ≡ map (map flat) blocks
      → ArePlayedWords n slowdown latency fill ins (blocks_of ins count words) all
      → AreClockWords m slowdown latency fill ins blocks all
