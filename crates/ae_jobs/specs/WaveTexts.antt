-- The text of `wave`: the text of a module in a comment, and the words of all its ports in a run, as a value change dump.
use Rattle.std.specs.Prelude.{◌≡◌, ℕ, ◌+◌, List, ◌++◌, length, map}
use Rattle.std.specs.List.{range_with_len}
use Rattle.ae_seq.specs.ProgramTree.{ProgramTree}
use Rattle.ae_rewrite.specs.StProgramTree.{StFuncTree}
use Rattle.ae_rewrite.specs.Interface.{parameter_types}
use Rattle.ae_vmodule.specs.ModuleTree.{NetTree, ModuleTree}
use Rattle.ae_runs.specs.Values.{ModuleClock}
use Rattle.ae_runs.specs.Runs.{IsModuleRun, clock_at}
use Rattle.ae_runs.specs.SameRuns.{input_words, inputs_of, output_words, outputs_of}
use Rattle.ae_play.specs.Lines.{clock_count}
use Rattle.ae_play.specs.Words.{port_words}
use Rattle.ae_vcd.specs.Waves.{WaveTree}
use Rattle.ae_vcd.specs.WaveText.{commented, wave_text}
use Rattle.ae_vcd.specs.Readings.{IsVcd}
use Rattle.ae_correct.specs.ClockTexts.{AreClockWords}
use Rattle.ae_compile.specs.Building.{IsModuleText}
use Rattle.ae_compile.specs.Costing.{main_costs}
use Rattle.ae_jobs.specs.Inputs.{blocks_of}

-- the variables of a module's wave: its inputs but the clock, and then its outputs
abbrev pub variables_of : ModuleTree → List NetTree
variables_of m = inputs_of m ++ outputs_of m

-- the wave with these words in the first clocks
abbrev pub run_wave : ModuleTree → (count : ℕ) → (words : List ℕ) → WaveTree
run_wave m count words = record {
  names = map (λ (x : NetTree). x.name) (variables_of m);
  widths = map (λ (x : NetTree). x.width) (variables_of m);
  times = range_with_len 0 count;
  words = words;
}

-- the words are those of a run of the module, in so many clocks after one of reset
pub record AreWordsOf (m : ModuleTree) (count : ℕ) (words : List ℕ) : Type 0 where
  pub run : List ModuleClock
  pub long : length run ≡ 1 + count
  pub runs : IsModuleRun m run
  pub are : words ≡ port_words (λ c. input_words m (clock_at run (1 + c)))
      (λ c. output_words m (clock_at run (1 + c))) count

-- the text of a module that is correct for the program, and the dump of its run on the blocks of the rows; the whole is a
-- dump of the same wave
pub record IsWaveText (fill : ℕ) (p : ProgramTree) (slowdown : ℕ) (instances : List StFuncTree)
    (table : List (List (List ℕ))) (text : List ℕ) : Type 0 where
  pub built : List ℕ
  pub module_text : IsModuleText p slowdown instances built
  pub words : List ℕ
  pub shown : AreClockWords module_text.tree slowdown
      (main_costs p instances).latency fill module_text.listing.report.ins (blocks_of (parameter_types p) table) words
  pub is : text ≡ commented built (wave_text
      (run_wave module_text.tree (clock_count slowdown (main_costs p instances).latency (length table)) words))
  pub dump : IsVcd text (run_wave module_text.tree
      (clock_count slowdown (main_costs p instances).latency (length table)) words)
