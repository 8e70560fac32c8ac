use Rattle.std.proofs.Common.{◌≡◌, ◌∙◌, ◌/◌, length, sym, subst, arith}
use Rattle.std.specs.Prelude.{string_bytes}
use Rattle.ae_seq.specs.ProgramTree.{program_tree}
use Rattle.ae_eval.specs.Stack.{FitIn}
use Rattle.ae_eval.specs.Lines.{input_types}
use Rattle.ae_jobs.proofs.EvalSteps.{column_some, lines_all, lines_next, lines_none, next_row, rows_count}
use Rattle.ae_jobs.proofs.eval_job.eval_text.Goals as goal

pub nonzero_div-end : goal.nonzero_div-end
nonzero_div-end c = column_some (program_tree c.args.p.now) c.args.columns c.requires.rows.0 c.args.words.now c.requires.typed c.requires.rows.1

pub loop-init : goal.loop-init
loop-init c = λ table a. lines_none (program_tree c.args.p.now) c.args.columns table c.args.words.now (string_bytes c.new-out.result) a c.new-out.ensures.bytes

pub split_at-requires : goal.split_at-requires
split_at-requires c =
    let p = program_tree c.args.p.now in
    let table = c.requires.rows.0 in
    let a = c.requires.rows.1 in
    let count : length c.args.words.now / c.args.columns ≡ length table = rows_count p c.args.columns table c.args.words.now c.requires.typed a in
    (next_row p c.args.columns table c.loop.counter c.args.words.now c.loop.rest.now c.requires.typed a (omega (arith, count, c.loop-test.true))
    (c.loop.invariant table a).rest_is).room

pub row_results-requires : goal.row_results-requires
row_results-requires c =
    let p = program_tree c.args.p.now in
    let table = c.requires.rows.0 in
    let a = c.requires.rows.1 in
    let count : length c.args.words.now / c.args.columns ≡ length table = rows_count p c.args.columns table c.args.words.now c.requires.typed a in
    let n = next_row p c.args.columns table c.loop.counter c.args.words.now c.loop.rest.now c.requires.typed a (omega (arith, count, c.loop-test.true))
    (c.loop.invariant table a).rest_is in
    rw c.in_ok-evaluator.ensures (subst (λ us. FitIn (input_types p) us) (sym (c.split_at.ensures.front ∙ n.front)) n.fits)

pub loop-preserved : goal.loop-preserved
loop-preserved c = λ table a.
    let p = program_tree c.args.p.now in
    let count : length c.args.words.now / c.args.columns ≡ length table = rows_count p c.args.columns table c.args.words.now c.requires.typed a in
    lines_next p c.args.columns table c.loop.counter c.args.words.now c.loop.rest.now c.split_at.result.0.now c.split_at.result.1.now (string_bytes c.loop.out)
    (string_bytes c.write_line.new.out) c.deref.result.now
    c.requires.typed a (omega (arith, count, c.loop-test.true)) (c.loop.invariant table a) c.split_at.ensures.front c.split_at.ensures.back
    (c.deref.ensures.value ∙ (rw c.in_ok-evaluator.ensures at c.in_ok-results.ensures)) c.in_ok-write_line.ensures

pub returns : goal.returns
returns c = λ table a.
    let p = program_tree c.args.p.now in
    let count : length c.args.words.now / c.args.columns ≡ length table = rows_count p c.args.columns table c.args.words.now c.requires.typed a in
    lines_all p table c.loop.counter c.loop.rest.now (string_bytes c.loop.out) (omega (arith, count, c.loop-test.false)) (c.loop.invariant table a)
