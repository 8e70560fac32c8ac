use Rattle.std.proofs.Common.{◌≡◌, ◌+◌, ◌*◌, ◌^◌, ◌<◌, ◌≤◌, ◌++◌, ℕ, List, replicate, Global, ap, sym, ◌∙◌, subst, arith}
use Rattle.std.specs.Prelude.{String, codes, string_bytes}
use Rattle.std.proofs.lemmas.Result.{IfOk-weaker}
use Rattle.ae_seq.specs.ProgramTree.{ProgramTree, program_tree}
use Rattle.ae_rewrite.specs.Scheduled.{IsSchedule}
use Rattle.ae_rewrite.specs.StProgramTree.{st_func_trees}
use Rattle.ae_delay.specs.declared.own.OwnCosts.{OwnCosts}
use Rattle.ae_compile.specs.Passes.{CostedView}
use Rattle.ae_compile.specs.Costing.{load_limit, main_costs, whole_costs}
use Rattle.ae_compile.proofs.Made.{known_costs}
use Rattle.ae_jobs.specs.DemoTexts.{IsDemoText, IsSummedRun, demo_blocks, demo_slowdown, demo_table, demo_words, summary}
use Rattle.ae_play.specs.Lines.{clock_count}
use Rattle.ae_jobs.specs.EvalRows.{AreBlocks}
use Rattle.ae_jobs.specs.RunTexts.{input_widths}
use Rattle.ae_jobs.proofs.Clocks.{clocks_told}
use Rattle.ae_jobs.proofs.Demos.{demo_rows}
use Rattle.ae_jobs.proofs.DemoFits.{demo_is, demo_soon, demo_wide, short_run}
use Rattle.ae_jobs.proofs.demo_job.demo_text.Goals as goal

pub summed-requires-clause-rows : goal.summed-requires-clause-rows
summed-requires-clause-rows c =
    let n = c.args.size in
    let p = program_tree c.args.costed.program in
    let fits = c.demos_are_accepted.ensures n c.requires.some c.requires.limit in
    let wide : input_widths p ≡ replicate (16 * n) 16 = ap (λ (q : ProgramTree). input_widths q) (demo_is n p fits c.requires.costed.typed.reads) ∙
    demo_wide n in
    let words : demo_words n ≡ c.deref.result.now = sym (c.deref.ensures.value ∙ c.in_ok-words.ensures) in
    let here : AreBlocks p (demo_blocks n) (demo_table n) c.deref.result.now = subst (λ (ws : List ℕ). AreBlocks p (demo_blocks n) (demo_table n) ws) words
    (demo_rows p n c.requires.limit wide) in (
      demo_table n,
      subst (λ (k : CostedView). AreBlocks (program_tree k.program) (demo_blocks n) (demo_table n) c.deref.result.now)
          (sym c.in_ok-compiled.ensures.of) here,
    )

pub summed-requires-clause-short : goal.summed-requires-clause-short
summed-requires-clause-short c =
    let n = c.args.size in
    let p = program_tree c.args.costed.program in
    let all = st_func_trees c.args.costed.schedule in
    let fits = c.demos_are_accepted.ensures n c.requires.some c.requires.limit in
    let is = demo_is n p fits c.requires.costed.typed.reads in
    let latency : c.latency-latency.result ≡ (main_costs p all).latency =
    c.latency-latency.ensures ∙ ap (λ (k : OwnCosts). k.latency)
    (ap whole_costs c.costs.ensures.is ∙ known_costs load_limit p c.args.costed.slowdown all c.args.costed.costs c.costs.ensures.known) in
    let schedule = subst (λ (q : ProgramTree). IsSchedule q (demo_slowdown n) all) is c.requires.costed.schedule in
    let soon : (main_costs p all).latency ≤ 100000 = subst (λ (q : ProgramTree). (main_costs q all).latency ≤ 100000) (sym is)
    (demo_soon n all fits schedule) in
    let count : c.clock_count-clocks.result ≡ clock_count (demo_slowdown n) c.latency-latency.result (demo_blocks n) =
    (rw c.slowdown.ensures at c.clock_count-clocks.ensures.is) ∙ ap (λ s. clock_count s c.latency-latency.result (2 * n)) c.requires.is in
    let less = short_run n c.latency-latency.result c.clock_count-clocks.result c.requires.limit (omega (arith, latency, soon)) count in
    subst (λ (m : ℕ). m < 2 ^ 32)
    (sym (clocks_told c.in_ok-compiled.compiled c.args.costed c.latency-latency.result
    (2 * n) c.clock_count-clocks.result c.in_ok-compiled.ensures.of c.in_ok-compiled.ensures.compiled latency
    (rw c.slowdown.ensures at c.clock_count-clocks.ensures.is)))
    less

pub returns : goal.returns
returns c =
    let p = program_tree c.args.costed.program in
    let all = st_func_trees c.args.costed.schedule in
    let n = c.args.size in
    let fits = c.demos_are_accepted.ensures n c.requires.some c.requires.limit in
    let latency : c.latency-latency.result ≡ (main_costs p all).latency =
    c.latency-latency.ensures ∙ ap (λ (k : OwnCosts). k.latency)
    (ap whole_costs c.costs.ensures.is ∙ known_costs load_limit p c.args.costed.slowdown all c.args.costed.costs c.costs.ensures.known) in
    let wide : input_widths p ≡ replicate (16 * n) 16 = ap (λ (q : ProgramTree). input_widths q) (demo_is n p fits c.requires.costed.typed.reads) ∙
    demo_wide n in
    let words : demo_words n ≡ c.deref.result.now = sym (c.deref.ensures.value ∙ c.in_ok-words.ensures) in
    let here : AreBlocks p (demo_blocks n) (demo_table n) c.deref.result.now = subst (λ (ws : List ℕ). AreBlocks p (demo_blocks n) (demo_table n) ws) words
    (demo_rows p n c.requires.limit wide) in
    let rows = subst (λ (k : CostedView). AreBlocks (program_tree k.program) (demo_blocks n) (demo_table n) c.deref.result.now)
    (sym c.in_ok-compiled.ensures.of) here in
    let sums = c.in_ok-text.sums in
    let built : List ℕ = string_bytes c.in_ok-text.text in
    let clocks : c.clock_count-clocks.result ≡ clock_count (demo_slowdown n) c.latency-latency.result
    (demo_blocks n) = (rw c.slowdown.ensures at c.clock_count-clocks.ensures.is) ∙ ap (λ s. clock_count s c.latency-latency.result (2 * n)) c.requires.is in
    let run : IsSummedRun 0 p c.args.costed.slowdown all (demo_table n) built sums =
    subst (λ (k : CostedView). IsSummedRun 0 (program_tree k.program) k.slowdown (st_func_trees k.schedule) (demo_table n) built sums)
    c.in_ok-compiled.ensures.of (c.in_ok-text.ensures (demo_table n) rows) in
    let head : List ℕ = built ++ codes "%% summary\n" in
    IfOk-weaker c.with_summary.result (λ (t : String Global). string_bytes t ≡ head ++ summary n c.latency-latency.result c.clock_count-clocks.result sums)
    (λ (t : String Global). IsDemoText n (string_bytes t))
    (λ t is. record {
      program = p;
      instances = all;
      costed = c.requires.costed;
      built = built;
      sums = sums;
      run = subst (λ (s : ℕ). IsSummedRun 0 p s all (demo_table n) built sums) c.requires.is run;
      is = is
          ∙ (λ i. head ++ summary n c.latency-latency.result (clocks i) sums)
          ∙ ap (λ l. head ++ summary n l (clock_count (demo_slowdown n) l (demo_blocks n)) sums) latency;
    })
    c.with_summary.ensures
