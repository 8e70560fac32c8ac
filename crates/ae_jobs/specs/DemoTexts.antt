-- The text of `demo N`: the module of a program that grows with N, and what is summed of its run.
use Rattle.std.specs.Prelude.{◌≡◌, ℕ, ◌+◌, ◌*◌, ◌%◌, List, ◌++◌, map, codes}
use Rattle.std.specs.Fmt.{decimal}
use Rattle.std.specs.List.{range_with_len}
use Rattle.ae_seqtype.specs.ValueTree.{cut}
use Rattle.ae_seq.specs.ProgramTree.{ProgramTree}
use Rattle.ae_rewrite.specs.StProgramTree.{StFuncTree}
use Rattle.ae_play.specs.Lines.{clock_count}
use Rattle.ae_play.specs.declared.sums.Sums.{Sums}
use Rattle.ae_rewrite.specs.Interface.{parameter_types}
use Rattle.ae_correct.specs.ClockTexts.{AreClockSums}
use Rattle.ae_jobs.specs.Inputs.{blocks_of}
use Rattle.ae_jobs.specs.PlanTexts.{counted_line}
use Rattle.ae_compile.specs.Costing.{IsCosted, load_limit, main_costs}
use Rattle.ae_compile.specs.Building.{IsModuleText}

-- the program of a size
abbrev pub demo_program : (size : ℕ) → List ℕ
demo_program n =
    (codes "fn sum x:u16 y:u16\nz = add x y\nend z\nfn main a:[" ++ decimal (16 * n))
    ++ codes "]u16\nb = shift 1 a\nc = map2 sum a b\nd = reduce add c\nend d\n"

-- its slowdown, and how many blocks it takes
abbrev pub demo_slowdown : (size : ℕ) → ℕ
demo_slowdown n = 4 * n

abbrev pub demo_blocks : (size : ℕ) → ℕ
demo_blocks n = 2 * n

-- word k of the input, from 0 over all blocks
abbrev pub demo_word : (size k : ℕ) → ℕ
demo_word n k = (n + 37 * k) % 65536

abbrev pub demo_words : (size : ℕ) → List ℕ
demo_words n = map (demo_word n) (range_with_len 0 (demo_blocks n * (16 * n)))

-- the rows of the input, a block each
abbrev pub demo_table : (size : ℕ) → List (List (List ℕ))
demo_table n = map (map decimal) (cut (demo_blocks n) (16 * n) (demo_words n))

-- the text of a module that is correct for the program, and the sums of its run on the blocks of the rows
pub record IsSummedRun (fill : ℕ) (p : ProgramTree) (slowdown : ℕ) (instances : List StFuncTree)
    (table : List (List (List ℕ))) (built : List ℕ) (sums : Sums) : Type 0 where
  pub module_text : IsModuleText p slowdown instances built
  pub shown : AreClockSums module_text.tree slowdown
      (main_costs p instances).latency fill module_text.listing.report.ins module_text.listing.report.outs
      (blocks_of (parameter_types p) table) sums

-- the lines of the summary
abbrev pub summary : (size latency clocks : ℕ) → Sums → List ℕ
summary n latency clocks s =
    ((((counted_line (codes "demo") n ++ counted_line (codes "latency") latency)
    ++ counted_line (codes "clocks") clocks) ++ counted_line (codes "valid") s.valid)
    ++ counted_line (codes "sum") s.valid_sum)
    ++ counted_line (codes "all") s.whole_sum

-- the text of the program's module, and the summary of its run on the input
pub record IsDemoText (n : ℕ) (text : List ℕ) : Type 0 where
  pub program : ProgramTree
  pub instances : List StFuncTree
  pub costed : IsCosted load_limit (demo_program n) (demo_slowdown n) program instances
  pub built : List ℕ
  pub sums : Sums
  pub run : IsSummedRun 0 program (demo_slowdown n) instances (demo_table n) built sums
  pub is : text ≡ (built ++ codes "%% summary\n")
      ++ summary n (main_costs program instances).latency
      (clock_count (demo_slowdown n) (main_costs program instances).latency (demo_blocks n)) sums
