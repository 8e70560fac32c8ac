-- What the netlist that a module's text is read back as shows, the module shows.
use Rattle.std.proofs.Common.{◌≡◌, ◌+◌, ℕ, List, All, length, map, arith, ap, ◌∙◌, subst}
use Rattle.std.proofs.lemmas.List.{length-map}
use Rattle.std.proofs.lemmas.List.Elements.{All-weaker}
use Rattle.ae_seqtype.specs.ValueTree.{ValueTree, flat}
use Rattle.ae_seq.specs.ProgramTree.{ProgramTree}
use Rattle.ae_rewrite.specs.StProgramTree.{StFuncTree}
use Rattle.ae_netlist.specs.Circuit.{Circuit}
use Rattle.ae_netlist.specs.Rows.{AreFirsts, AreInputs, HasOneRunWith, IsRunWith, filled}
use Rattle.ae_netlist.specs.Runs.{Clock}
use Rattle.ae_vmodule.specs.ModuleTree.{ModuleTree}
use Rattle.ae_runs.specs.Runs.{clock_at}
use Rattle.ae_runs.specs.SameRuns.{HasSameRuns, input_words, output_words}
use Rattle.ae_verilog.specs.NetlistModule.{netlist_module}
use Rattle.ae_verilog.specs.Notes.{NoteTree}
use Rattle.ae_verilog.specs.ReportLines.{ReportTree}
use Rattle.ae_correct.specs.ClockTexts.{AreClockSums, AreClockWords, IsClockText}
use Rattle.ae_correct.specs.Laws.{FeedsAreAlike, IsShownAs, RunsAreAlike, RunsAreShown}
use Rattle.ae_play.specs.Fed.{blocks_of, clock_row, fed_rows}
use Rattle.ae_play.specs.Fits.{CanBeFed, FitBlocks}
use Rattle.ae_play.specs.Lines.{IsPlayedText, clock_count, clock_lines, shown_words}
use Rattle.ae_play.specs.Sums.{ArePlayedSums, AreSums}
use Rattle.ae_play.specs.Words.{ArePlayedWords, port_words}
use Rattle.ae_play.specs.declared.sums.Sums.{Sums}
use Rattle.ae_compile.specs.declared.costs.Costs.{Costs}
use Rattle.ae_compile.specs.Costing.{IsKnown, load_limit, main_costs}
use Rattle.ae_compile.specs.Compiling.{IsCompiled}
use Rattle.ae_compile.specs.Playing.{AreProgramBlocks, Shows}
use Rattle.ae_compile.proofs.Alike.{lines_alike, sums_alike, words_alike}
use Rattle.ae_compile.proofs.Inputs.{circuit_columns}

-- the laws of runs, and what is sure of a netlist's runs from the fill
pub record HavePlays (n : Circuit) (fill : ℕ) : Type 0 where
  pub shown : RunsAreShown
  pub feeds : FeedsAreAlike
  pub alike : RunsAreAlike
  pub fed : CanBeFed
  pub one : HasOneRunWith n.cells
  pub begins : AreFirsts n.cells (filled n.cells fill)

module _ (lines : ℕ → ℕ) (p : ProgramTree) (slowdown fill : ℕ) (instances : List StFuncTree) (found : Costs) (n : Circuit) (report : ReportTree)
    (notes : List NoteTree) (played : Circuit)
    (laws : HavePlays n fill) (k : IsKnown load_limit p slowdown instances found) (d : IsCompiled p slowdown instances n report notes)
    (same : HasSameRuns (netlist_module lines n.cells n.outlets (length report.outs)) n)
    (back : HasSameRuns (netlist_module lines n.cells n.outlets (length report.outs)) played) where
  abbrev own : ModuleTree
  own = netlist_module lines n.cells n.outlets (length report.outs)

  lowered_fed : (count : ℕ) (words : List ℕ) → FitBlocks report.ins count words → (clocks : ℕ)
      → All (AreInputs n.cells) (fed_rows slowdown fill report.ins (blocks_of report.ins count words) clocks)
  lowered_fed count words fit clocks =
      laws.fed n.cells slowdown fill report.ins count words (circuit_columns p slowdown (main_costs p instances) report.ins report.outs n d.circuit) fit clocks

  fed_back : (count : ℕ) (words : List ℕ) → FitBlocks report.ins count words → (clocks : ℕ)
      → All (AreInputs played.cells) (fed_rows slowdown fill report.ins (blocks_of report.ins count words) clocks)
  fed_back count words fit clocks =
      All-weaker (AreInputs n.cells) (AreInputs played.cells) (λ row fits. laws.feeds own n played row same back fits)
      (fed_rows slowdown fill report.ins (blocks_of report.ins count words) clocks) (lowered_fed count words fit clocks)

  -- the clocks of so many blocks
  abbrev clocks_of : List (List ValueTree) → ℕ
  clocks_of blocks = clock_count slowdown report.latency (length blocks)

  module _ (count : ℕ) (words : List ℕ) (blocks : List (List ValueTree)) (fit : FitBlocks report.ins count words) (values : AreProgramBlocks p blocks)
      (laid : blocks_of report.ins count words ≡ map (map flat) blocks) where
    abbrev bs : List (List (List ℕ))
    bs = blocks_of report.ins count words

    -- the same clocks
    many : length bs ≡ length blocks
    many = ap length laid ∙ length-map blocks (map flat)

    rows_laid : fed_rows slowdown fill report.ins bs (clock_count slowdown report.latency (length bs)) ≡ fed_rows slowdown fill report.ins
        (map (map flat) blocks) (clocks_of blocks)
    rows_laid i = fed_rows slowdown fill report.ins (laid i) (clock_count slowdown report.latency (many i))

    -- what the netlist shows of its run, the module shows
    run_shown : (run : List Clock) → IsRunWith played.cells (fed_rows slowdown fill report.ins bs (clock_count slowdown report.latency (length bs)))
        (filled played.cells fill) run
        → IsShownAs own played slowdown report.latency fill report.ins blocks run
    run_shown run runs =
        let clocks : ℕ = clock_count slowdown report.latency (length bs) in
        let other = laws.alike own played n slowdown report.latency fill report.ins bs run back same laws.one laws.begins
        (lowered_fed count words fit clocks) runs in
        let s = laws.shown lines p slowdown (main_costs p instances) report.ins report.outs n report.latency fill blocks other.0 d.laid d.circuit same values
        (subst (All (AreInputs n.cells)) rows_laid (lowered_fed count words fit clocks))
        (subst (λ (rows : List (List ℕ)). IsRunWith n.cells rows (filled n.cells fill) other.0) rows_laid other.1) in
        record {
          shown = s.shown;
          long = s.long;
          fed = s.fed;
          inputs = s.inputs;
          outputs = λ c below. other.2 c (omega (arith, below, ap (clock_count slowdown report.latency) many)) ∙ s.outputs c below;
        }

    lines_shown : (text : List ℕ) → IsPlayedText played slowdown report.latency fill report.ins report.outs bs text
        → IsClockText own slowdown report.latency fill report.ins report.outs blocks text
    lines_shown text h =
        let s = run_shown h.run h.runs in
        record {
          run = s.shown;
          long = s.long;
          fed = s.fed;
          lines = h.lines
              ∙ (λ i. clock_lines slowdown report.latency report.outs (λ c. shown_words played.outlets h.run (1 + c))
              (clock_count slowdown report.latency (many i)))
              ∙ lines_alike slowdown report.latency report.outs (λ c. shown_words played.outlets h.run (1 + c))
              (λ c. output_words own (clock_at s.shown (1 + c))) (clocks_of blocks) s.outputs;
        }

    sums_shown : (sums : Sums) → ArePlayedSums played slowdown report.latency fill report.ins report.outs bs sums
        → AreClockSums own slowdown report.latency fill report.ins report.outs blocks sums
    sums_shown sums h =
        let s = run_shown h.run h.runs in
        record {
          run = s.shown;
          long = s.long;
          fed = s.fed;
          are = sums_alike slowdown report.latency report.outs (λ c. shown_words played.outlets h.run (1 + c))
              (λ c. output_words own (clock_at s.shown (1 + c))) (clocks_of blocks) sums s.outputs
              (subst (λ (k : ℕ). AreSums slowdown report.latency report.outs (λ c. shown_words played.outlets h.run (1 + c))
              (clock_count slowdown report.latency k) sums) many h.are);
        }

    words_shown : (all : List ℕ) → ArePlayedWords played slowdown report.latency fill report.ins bs all
        → AreClockWords own slowdown report.latency fill report.ins blocks all
    words_shown all h =
        let s = run_shown h.run h.runs in
        record {
          run = s.shown;
          long = s.long;
          fed = s.fed;
          are = h.are
              ∙ (λ i. port_words (clock_row slowdown fill report.ins (laid i)) (λ c. shown_words played.outlets h.run (1 + c))
              (clock_count slowdown report.latency (many i)))
              ∙ words_alike (clock_row slowdown fill report.ins (map (map flat) blocks)) (λ c. input_words own (clock_at s.shown (1 + c)))
              (λ c. shown_words played.outlets h.run (1 + c)) (λ c. output_words own (clock_at s.shown (1 + c)))
              (clocks_of blocks) s.inputs s.outputs;
        }

  pub shows_is : Shows p slowdown report.latency fill report.ins report.outs (netlist_module lines n.cells n.outlets (length report.outs)) played
  shows_is = record {
    feeds = fed_back;
    lines = λ count words blocks text fit values laid h. lines_shown count words blocks fit values laid text h;
    sums = λ count words blocks sums fit values laid h. sums_shown count words blocks fit values laid sums h;
    words = λ count words blocks all fit values laid h. words_shown count words blocks fit values laid all h;
  }
