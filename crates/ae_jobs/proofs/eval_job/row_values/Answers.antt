use Rattle.std.proofs.Common.{◌≡◌, ◌∙◌, length, ap, arith}
use Rattle.ae_seqtype.specs.SeqTree.{seq_tree}
use Rattle.ae_seq.specs.ProgramTree.{program_tree}
use Rattle.ae_seq.proofs.Types.{item-sized}
use Rattle.ae_eval.specs.Lines.{input_types}
use Rattle.ae_jobs.proofs.EvalTypes.{main_facts, main_read, param_read}
use Rattle.ae_jobs.proofs.EvalSteps.{cut_all, cut_fits, cut_next, values_here}
use Rattle.ae_jobs.proofs.eval_job.row_values.Goals as goal

pub words-requires : goal.words-requires
words-requires c =
    let p = program_tree c.args.p.now in
    let found = param_read c.args.p.now c.index.result.now c.deref-param-items.result.now c.loop-param.param-index c.param-item.result
    (main_read c.args.p.now c.program.result.now c.last_func-last.result c.index.result.now c.last_func-last.ensures.typed c.last_func-last.ensures.is
    c.last_func-last.ensures.known c.program.ensures.program c.index.ensures) c.deref-param-items.ensures.value c.loop-param-test.true c.param-item.is in
    item-sized (input_types p) c.loop-param.param-index (seq_tree c.param-item.result.ty) (main_facts p c.last_func-last.ensures.typed).sized found

pub split_at-requires : goal.split_at-requires
split_at-requires c =
    let p = program_tree c.args.p.now in
    let found = param_read c.args.p.now c.index.result.now c.deref-param-items.result.now c.loop-param.param-index c.param-item.result
    (main_read c.args.p.now c.program.result.now c.last_func-last.result c.index.result.now c.last_func-last.ensures.typed c.last_func-last.ensures.is
    c.last_func-last.ensures.known c.program.ensures.program c.index.ensures) c.deref-param-items.ensures.value c.loop-param-test.true c.param-item.is in
    let f = cut_fits (input_types p) c.args.row.now c.loop-param.param-index c.loop-param.values.items c.loop-param.rest.now
    (seq_tree c.param-item.result.ty) found c.loop-param.invariant in
    omega (arith, f.room, c.words.ensures)

pub loop-param-preserved : goal.loop-param-preserved
loop-param-preserved c =
    let p = program_tree c.args.p.now in
    let found = param_read c.args.p.now c.index.result.now c.deref-param-items.result.now c.loop-param.param-index c.param-item.result
    (main_read c.args.p.now c.program.result.now c.last_func-last.result c.index.result.now c.last_func-last.ensures.typed c.last_func-last.ensures.is
    c.last_func-last.ensures.known c.program.ensures.program c.index.ensures) c.deref-param-items.ensures.value c.loop-param-test.true c.param-item.is in
    cut_next (input_types p) c.args.row.now c.loop-param.param-index c.words.result c.loop-param.values.items c.push_value.new.values.items
    c.loop-param.rest.now c.split_at.result.0.now c.split_at.result.1.now (seq_tree c.param-item.result.ty)
    found c.loop-param.invariant c.words.ensures c.split_at.ensures.front c.split_at.ensures.back c.in_ok-push_value.ensures

pub returns-clause-fits : goal.returns-clause-fits
returns-clause-fits c =
    let p = program_tree c.args.p.now in
    let m = main_read c.args.p.now c.program.result.now c.last_func-last.result c.index.result.now c.last_func-last.ensures.typed c.last_func-last.ensures.is
    c.last_func-last.ensures.known c.program.ensures.program c.index.ensures in
    let long : length c.deref-param-items.result.now ≡ length c.index.result.now.params.items = ap length c.deref-param-items.ensures.value in
    (cut_all (input_types p) c.args.row.now c.loop-param.param-index c.loop-param.values.items c.loop-param.rest.now
    (omega (arith, m.count, long, c.loop-param-test.false)) c.loop-param.invariant).fits

pub returns-clause-values : goal.returns-clause-values
returns-clause-values c =
    let p = program_tree c.args.p.now in
    let m = main_read c.args.p.now c.program.result.now c.last_func-last.result c.index.result.now c.last_func-last.ensures.typed c.last_func-last.ensures.is
    c.last_func-last.ensures.known c.program.ensures.program c.index.ensures in
    let long : length c.deref-param-items.result.now ≡ length c.index.result.now.params.items = ap length c.deref-param-items.ensures.value in
    (cut_all (input_types p) c.args.row.now c.loop-param.param-index c.loop-param.values.items c.loop-param.rest.now
    (omega (arith, m.count, long, c.loop-param-test.false)) c.loop-param.invariant).are ∙ values_here p c.args.row.now
