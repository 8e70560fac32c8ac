-- A run within the limit has fewer than 2 to the 32 clocks.
use Rattle.std.proofs.Common.{◌≡◌, ◌+◌, ◌*◌, ◌^◌, ◌<◌, ◌≤◌, ◌∙◌, ℕ, ap, sym, arith}
use Rattle.ae_seq.specs.ProgramTree.{program_tree}
use Rattle.ae_rewrite.specs.StProgramTree.{st_func_trees}
use Rattle.ae_verilog.specs.ReportLines.{ReportTree}
use Rattle.ae_play.specs.Lines.{clock_count}
use Rattle.ae_compile.specs.Costing.{main_costs}
use Rattle.ae_compile.specs.Passes.{CompiledView, CostedView, IsCompiledProgram}

-- as many clocks as are counted by the costs
pub clocks_told : (d : CompiledView) (k : CostedView) (latency blocks clocks : ℕ) → d.costed ≡ k → IsCompiledProgram d
    → latency ≡ (main_costs (program_tree k.program) (st_func_trees k.schedule)).latency → clocks ≡ clock_count k.slowdown latency blocks
    → clock_count d.costed.slowdown d.report.latency blocks ≡ clocks
clocks_told d k latency blocks clocks same is late count =
    let told : d.report.latency ≡ latency = ap (λ (r : ReportTree). r.latency) is.compiled.reported ∙
    ap (λ (x : CostedView). (main_costs (program_tree x.program) (st_func_trees x.schedule)).latency) same ∙ sym late in
    (λ i. clock_count (same i).slowdown (told i) blocks) ∙ sym count

-- a size within the limit has few of them
pub few_clocks : (clocks count words : ℕ) → clocks ≡ count → clocks * (1 + words) ≤ 4194304 → count < 2 ^ 32
few_clocks clocks count words is few =
    let e : clocks * (1 + words) ≡ clocks + clocks * words = omega arith in
    omega (arith, e, few, is)
