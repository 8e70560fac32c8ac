use Rattle.std.proofs.Common.{◌≡◌, ◌∙◌, List, ℕ, map, ap, Vec, Global}
use Rattle.std.specs.Prelude.{flat_map}
use Rattle.std.specs.List.{concat}
use Rattle.std.proofs.lemmas.Result.{IfOk-weaker}
use Rattle.ae_seqtype.specs.ValueTree.{ValueTree, flat}
use Rattle.ae_seq.specs.Meaning.{mean}
use Rattle.ae_seq.specs.ProgramTree.{program_tree}
use Rattle.ae_eval.specs.Stack.{values_of}
use Rattle.ae_eval.specs.Lines.{input_types}
use Rattle.ae_jobs.specs.EvalRows.{values_in_row}
use Rattle.ae_jobs.proofs.EvalSteps.{joined_flat}
use Rattle.ae_jobs.proofs.eval_job.row_results.Goals as goal

pub row_values-requires : goal.row_values-requires
row_values-requires c = rw c.program.ensures c.requires

pub eval-requires : goal.eval-requires
eval-requires c = rw c.deref.ensures.value (rw c.program.ensures at c.in_ok-values.ensures.fits)

pub returns : goal.returns
returns c =
    let p = program_tree c.args.evaluator.now in
    let row = c.args.row.now in
    let args : values_of (input_types p) c.deref.result.now ≡ values_in_row p row = ap (values_of (input_types p))
    c.deref.ensures.value ∙ (rw c.program.ensures at c.in_ok-values.ensures.values) in
    let all : c.deref-2.result.now ≡ map flat (mean p (values_in_row p row)) = c.deref-2.ensures.value ∙ c.in_ok-results.ensures.words ∙
    ap (λ (vs : List ValueTree). map flat (mean p vs)) args in
    let same : concat c.deref-2.result.now ≡ flat_map flat (mean p (values_in_row p row)) = ap concat all ∙ joined_flat (mean p (values_in_row p row)) in
    IfOk-weaker c.joined.result (λ (ws : Vec ℕ Global). ws.items ≡ concat c.deref-2.result.now)
    (λ (ws : Vec ℕ Global). ws.items ≡ flat_map flat (mean p (values_in_row p row))) (λ ws e. e ∙ same) c.joined.ensures
