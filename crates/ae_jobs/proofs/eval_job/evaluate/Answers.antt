use Rattle.std.proofs.Common.{◌≡◌, ◌∙◌, ◌≤◌, ◌<◌, ◌^◌, List, ℕ, length, None, All, ap, sym, subst, arith}
use Rattle.std.specs.Prelude.{string_bytes}
use Rattle.std.proofs.lemmas.Result.{IfOk-weaker}
use Rattle.ae_seq.specs.declared.program.Program.{Program}
use Rattle.ae_seq.specs.ProgramTree.{ProgramTree, program_tree}
use Rattle.ae_fields.specs.Rows.{rows, bad_row, words_in}
use Rattle.ae_eval.specs.Stack.{IsTyped}
use Rattle.ae_jobs.specs.declared.reply.Reply.{Reply}
use Rattle.ae_jobs.specs.RunTexts.{input_widths}
use Rattle.ae_jobs.specs.EvalRows.{AreRows}
use Rattle.ae_jobs.specs.EvalTexts.{IsEvalOf}
use Rattle.ae_jobs.proofs.RowCounts.{few_rows}
use Rattle.ae_jobs.proofs.EvalTypes.{has_columns}
use Rattle.ae_jobs.proofs.eval_job.evaluate.Goals as goal

-- what is known of the rows that were read
known : (p : ProgramTree) (text widths ws : List ℕ) (columns : ℕ) → length text < 2 ^ 32 → widths ≡ input_widths p → columns ≡ length widths
    → bad_row 1 widths (rows text) ≡ None → ws ≡ words_in (rows text) → AreRows p columns (rows text) ws
known p text widths ws columns lt w n right is =
    let few : length (rows text) ≤ length text = few_rows text in
    record {
      columns_are = n ∙ ap length w;
      few = omega (arith, few, lt);
      right = ap (λ us. bad_row 1 us (rows text)) (sym w) ∙ right;
      words_are = is;
    }

pub read_rows-requires-clause-few : goal.read_rows-requires-clause-few
read_rows-requires-clause-few c =
    let typed : IsTyped (program_tree c.args.p.now) = record { is_formed = c.program.ensures.is_formed; accepted = c.program.ensures.accepted } in
    let w : c.as_slice.result.now ≡ input_widths (program_tree c.args.p.now) = c.as_slice.ensures.value ∙ c.in_ok-widths.ensures ∙
    ap (λ (q : Program). input_widths (program_tree q)) c.program.ensures.program in
    let long : length c.as_slice.result.now ≡ length (input_widths (program_tree c.args.p.now)) = ap length w in
    omega (arith, long, (has_columns (program_tree c.args.p.now) typed).few)

pub read_rows-requires-clause-small : goal.read_rows-requires-clause-small
read_rows-requires-clause-small c =
    let typed : IsTyped (program_tree c.args.p.now) = record { is_formed = c.program.ensures.is_formed; accepted = c.program.ensures.accepted } in
    let w : c.as_slice.result.now ≡ input_widths (program_tree c.args.p.now) = c.as_slice.ensures.value ∙ c.in_ok-widths.ensures ∙
    ap (λ (q : Program). input_widths (program_tree q)) c.program.ensures.program in
    subst (All (λ w. w ≤ 64)) (sym w) (has_columns (program_tree c.args.p.now) typed).small

pub eval_rows-requires-clause-typed : goal.eval_rows-requires-clause-typed
eval_rows-requires-clause-typed c = record { is_formed = c.program.ensures.is_formed; accepted = c.program.ensures.accepted }

pub eval_rows-requires-clause-rows : goal.eval_rows-requires-clause-rows
eval_rows-requires-clause-rows c =
    let w : c.as_slice.result.now ≡ input_widths (program_tree c.args.p.now) = c.as_slice.ensures.value ∙ c.in_ok-widths.ensures ∙
    ap (λ (q : Program). input_widths (program_tree q)) c.program.ensures.program in (
      rows c.args.rest.now,
      known (program_tree c.args.p.now) c.args.rest.now c.as_slice.result.now c.as_slice-in-Ok.result.now c.in-Ok.table.columns c.requires
          w c.in-Ok.ensures.table.0 c.in-Ok.ensures.right (c.as_slice-in-Ok.ensures.value ∙ c.in-Ok.ensures.table.1),
    )

pub returns-in-Ok : goal.returns-in-Ok
returns-in-Ok c =
    let p = program_tree c.args.p.now in
    let table = rows c.args.rest.now in
    let ws = c.as_slice-in-Ok.result.now in
    let n = c.in-Ok.table.columns in
    let w : c.as_slice.result.now ≡ input_widths p = c.as_slice.ensures.value ∙ c.in_ok-widths.ensures ∙
    ap (λ (q : Program). input_widths (program_tree q)) c.program.ensures.program in
    let a : AreRows p n table ws = known p c.args.rest.now c.as_slice.result.now ws n c.requires w c.in-Ok.ensures.table.0 c.in-Ok.ensures.right
    (c.as_slice-in-Ok.ensures.value ∙ c.in-Ok.ensures.table.1) in
    IfOk-weaker c.eval_rows.result (λ (r : Reply). (t : List (List (List ℕ))) → AreRows p n t ws → IsEvalOf p t r.status (string_bytes r.text))
    (λ (r : Reply). IsEvalOf p table r.status (string_bytes r.text)) (λ r h. h table a) c.eval_rows.ensures
