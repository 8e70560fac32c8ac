use Rattle.std.proofs.Common.{◌≡◌, ◌+◌, ◌*◌, ◌/◌, ◌≤◌, ◌∙◌, List, ℕ, length, ap, sym, subst, arith}
use Rattle.std.specs.Prelude.{string_bytes}
use Rattle.std.proofs.lemmas.Result.{IfOk-weaker}
use Rattle.ae_seq.specs.ProgramTree.{program_tree}
use Rattle.ae_rewrite.specs.StProgramTree.{st_func_trees}
use Rattle.ae_delay.specs.declared.own.OwnCosts.{OwnCosts}
use Rattle.ae_jobs.specs.declared.reply.Reply.{Reply}
use Rattle.ae_jobs.specs.declared.status.Status.TheVariants.{LongRun}
use Rattle.ae_compile.specs.Passes.{CostedView}
use Rattle.ae_compile.specs.Costing.{load_limit, main_costs, whole_costs}
use Rattle.ae_jobs.specs.Refusals.{refusal_line}
use Rattle.ae_jobs.specs.EvalRows.{AreRows, AreBlocks}
use Rattle.ae_jobs.specs.RunTexts.{IsRunOf, IsRunShown, run_limit, run_size, word_count}
use Rattle.ae_jobs.proofs.EvalSteps.{column_some, rows_count}
use Rattle.ae_compile.proofs.Made.{known_costs}
use Rattle.ae_jobs.proofs.Clocks.{clocks_told}
use Rattle.ae_jobs.proofs.Runs.{blocks_known, run_size_is, run_too_long}
use Rattle.ae_jobs.proofs.run_job.run_words.Goals as goal

pub nonzero_div-blocks : goal.nonzero_div-blocks
nonzero_div-blocks c =
    let p = program_tree c.args.costed.program in
    column_some p c.args.columns c.requires.rows.0 c.args.words.now c.costs-costs.ensures.known.typed c.requires.rows.1

pub clock_count-clocks-requires : goal.clock_count-clocks-requires
clock_count-clocks-requires c =
    let p = program_tree c.args.costed.program in
    omega (arith, rows_count p c.args.columns c.requires.rows.0 c.args.words.now c.costs-costs.ensures.known.typed c.requires.rows.1, c.requires.rows.1.few)

pub returns-then-size-gt-RUN_LIMIT : goal.returns-then-size-gt-RUN_LIMIT
returns-then-size-gt-RUN_LIMIT c =
    let p = program_tree c.args.costed.program in
    let all = st_func_trees c.args.costed.schedule in
    let ws = c.args.words.now in
    let costs = main_costs p all in
    let latency : c.latency.result ≡ costs.latency = c.latency.ensures ∙
    ap (λ (k : OwnCosts). k.latency) (ap whole_costs c.costs-costs.ensures.is ∙
    known_costs load_limit p c.args.costed.slowdown all c.args.costed.costs c.costs-costs.ensures.known) in
    let size : ℕ = c.clock_count-clocks.result * (1 + c.word_count.result) in
    let typed = c.costs-costs.ensures.known.typed in
    IfOk-weaker c.refused.result (λ (r : Reply). (r.status ≡ LongRun size) × (string_bytes r.text ≡ refusal_line (LongRun size)))
    (λ (r : Reply). (table : List (List (List ℕ))) → AreRows p c.args.columns table ws
    → IsRunOf c.args.form c.args.fill p c.args.costed.slowdown all table r.status (string_bytes r.text))
    (λ r w table a.
    run_too_long c.args.form c.args.fill p c.args.costed.slowdown all c.args.columns table ws size r.status (string_bytes r.text) a
    (run_size_is c.args.form p c.args.costed.slowdown costs c.args.columns table ws c.latency.result c.clock_count-clocks.result c.word_count.result typed a
    latency (rw c.slowdown.ensures at c.clock_count-clocks.ensures.is) c.word_count.ensures.is)
    c.if-size-gt-RUN_LIMIT.true w.0 w.1) c.refused.ensures

pub shown-requires-clause-clocks : goal.shown-requires-clause-clocks
shown-requires-clause-clocks c =
    let p = program_tree c.args.costed.program in
    let all = st_func_trees c.args.costed.schedule in
    let latency : c.latency.result ≡ (main_costs p all).latency = c.latency.ensures ∙
    ap (λ (k : OwnCosts). k.latency) (ap whole_costs c.costs-costs.ensures.is ∙
    known_costs load_limit p c.args.costed.slowdown all c.args.costed.costs c.costs-costs.ensures.known) in
    sym (clocks_told c.in_ok-compiled.compiled c.args.costed c.latency.result
    (length c.args.words.now / c.args.columns) c.clock_count-clocks.result c.in_ok-compiled.ensures.of c.in_ok-compiled.ensures.compiled latency
    (rw c.slowdown.ensures at c.clock_count-clocks.ensures.is))

pub shown-requires-clause-small : goal.shown-requires-clause-small
shown-requires-clause-small c =
    let count : c.word_count.result ≡ word_count c.args.form (program_tree c.in_ok-compiled.compiled.costed.program) c.in_ok-compiled.compiled.costed.slowdown =
    c.word_count.ensures.is ∙ ap (λ (k : CostedView). word_count c.args.form (program_tree k.program) k.slowdown) (sym c.in_ok-compiled.ensures.of) in
    subst (λ n. c.clock_count-clocks.result * (1 + n) ≤ run_limit) count c.if-size-gt-RUN_LIMIT.false

pub shown-requires-clause-rows : goal.shown-requires-clause-rows
shown-requires-clause-rows c =
    let p = program_tree c.args.costed.program in
    let here = blocks_known p c.args.columns c.requires.rows.0 c.args.words.now c.costs-costs.ensures.known.typed c.requires.rows.1 in (
      c.requires.rows.0,
      subst (λ (k : CostedView). AreBlocks (program_tree k.program)
          (length c.args.words.now / c.args.columns) c.requires.rows.0 c.args.words.now) (sym c.in_ok-compiled.ensures.of) here,
    )

pub returns : goal.returns
returns c = λ table a.
    let p = program_tree c.args.costed.program in
    let all = st_func_trees c.args.costed.schedule in
    let ws = c.args.words.now in
    let costs = main_costs p all in
    let latency : c.latency.result ≡ costs.latency = c.latency.ensures ∙
    ap (λ (k : OwnCosts). k.latency) (ap whole_costs c.costs-costs.ensures.is ∙
    known_costs load_limit p c.args.costed.slowdown all c.args.costed.costs c.costs-costs.ensures.known) in
    let typed = c.costs-costs.ensures.known.typed in
    let size : c.clock_count-clocks.result * (1 + c.word_count.result) ≡ run_size c.args.form p c.args.costed.slowdown costs.latency table =
    run_size_is c.args.form p c.args.costed.slowdown costs c.args.columns table ws c.latency.result c.clock_count-clocks.result c.word_count.result typed a
    latency (rw c.slowdown.ensures at c.clock_count-clocks.ensures.is) c.word_count.ensures.is in
    let short : run_size c.args.form p c.args.costed.slowdown costs.latency table ≤ run_limit = subst (λ n. n ≤ run_limit) size c.if-size-gt-RUN_LIMIT.false in
    let blocks = length ws / c.args.columns in
    let here = subst (λ (k : CostedView). AreBlocks (program_tree k.program) blocks table ws) (sym c.in_ok-compiled.ensures.of)
    (blocks_known p c.args.columns table ws typed a) in
    let text = string_bytes c.in_ok-text.text in (
      a.right,
      short,
      subst (λ (k : CostedView). IsRunShown c.args.form c.args.fill (program_tree k.program) k.slowdown (st_func_trees k.schedule) table text)
          c.in_ok-compiled.ensures.of (c.in_ok-text.ensures table here),
    )
