use Rattle.std.proofs.Common.{◌≡◌, ◌≤◌, ◌∙◌, ℕ, List, length, map, ap, sym, arith}
use Rattle.std.specs.Prelude.{sum_by}
use Rattle.ae_seq.specs.ProgramTree.{program_tree}
use Rattle.ae_seq.specs.Typing.{type_at}
use Rattle.ae_jobs.specs.EvalTexts.{type_words}
use Rattle.ae_jobs.proofs.EvalTypes.{main_read}
use Rattle.ae_jobs.proofs.EvalSteps.{counted_all}
use Rattle.ae_jobs.proofs.eval_job.count_results.Goals as goal

pub overflow_add-count : goal.overflow_add-count
overflow_add-count c =
    let m = main_read c.args.p.now c.program.result.now c.last_func-last.result c.index.result.now c.last_func-last.ensures.typed c.last_func-last.ensures.is
    c.last_func-last.ensures.known c.program.ensures.program c.index.ensures in
    let long : length c.deref-item-items.result.now ≡ length c.index.result.now.results.items = ap length c.deref-item-items.ensures.value in
    omega (arith, m.few, long, c.loop-item.invariant.few, c.loop-item-test.true, c.item_words-count.ensures.few)

pub returns-clause-is : goal.returns-clause-is
returns-clause-is c =
    let p = program_tree c.args.p.now in
    let m = main_read c.args.p.now c.program.result.now c.last_func-last.result c.index.result.now c.last_func-last.ensures.typed c.last_func-last.ensures.is
    c.last_func-last.ensures.known c.program.ensures.program c.index.ensures in
    let over : length c.deref-item-items.result.now ≤ c.loop-item.item-index = omega (arith, c.loop-item-test.false) in
    counted_all p c.last_func-last.result c.deref-item-items.result.now c.loop-item.item-index c.loop-item.count over c.loop-item.invariant
    ∙ ap (λ (is : List ℕ). sum_by type_words (map (type_at p c.last_func-last.result) is)) c.deref-item-items.ensures.value
    ∙ ap (λ (k : ℕ). sum_by type_words (map (type_at p k) c.index.result.now.results.items)) c.last_func-last.ensures.is
    ∙ ap (sum_by type_words) (sym m.results)

pub returns-clause-few : goal.returns-clause-few
returns-clause-few c =
    let m = main_read c.args.p.now c.program.result.now c.last_func-last.result c.index.result.now c.last_func-last.ensures.typed c.last_func-last.ensures.is
    c.last_func-last.ensures.known c.program.ensures.program c.index.ensures in
    let long : length c.deref-item-items.result.now ≡ length c.index.result.now.results.items = ap length c.deref-item-items.ensures.value in
    omega (arith, m.few, long, c.loop-item.invariant.few, c.loop-item.auto.item-index-end)
