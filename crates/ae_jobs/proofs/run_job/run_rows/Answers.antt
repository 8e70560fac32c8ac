use Rattle.std.proofs.Common.{◌≡◌, ◌∙◌, ◌≤◌, List, ℕ, length, All, ap, sym, subst, arith}
use Rattle.std.specs.Prelude.{string_bytes}
use Rattle.std.proofs.lemmas.Result.{IfOk-weaker}
use Rattle.ae_seq.specs.declared.program.Program.{Program}
use Rattle.ae_seq.specs.ProgramTree.{program_tree}
use Rattle.ae_rewrite.specs.StProgramTree.{st_func_trees}
use Rattle.ae_fields.specs.Rows.{rows}
use Rattle.ae_jobs.specs.declared.reply.Reply.{Reply}
use Rattle.ae_jobs.specs.RunTexts.{IsRunOf, input_widths}
use Rattle.ae_jobs.specs.EvalRows.{AreRows}
use Rattle.ae_jobs.proofs.EvalTypes.{has_columns}
use Rattle.ae_jobs.proofs.Runs.{rows_known}
use Rattle.ae_jobs.proofs.run_job.run_rows.Goals as goal

pub read_rows-requires-clause-few : goal.read_rows-requires-clause-few
read_rows-requires-clause-few c =
    let p = program_tree c.args.costed.program in
    let typed = c.program-program.ensures.known.typed in
    let w : c.as_slice.result.now ≡ input_widths p = c.as_slice.ensures.value ∙ c.in_ok-widths.ensures ∙
    ap (λ (q : Program). input_widths (program_tree q)) (c.program.ensures.program ∙ c.program-program.ensures.is) in
    omega (arith, ap length w, (has_columns p typed).few)

pub read_rows-requires-clause-small : goal.read_rows-requires-clause-small
read_rows-requires-clause-small c =
    let p = program_tree c.args.costed.program in
    let typed = c.program-program.ensures.known.typed in
    let w : c.as_slice.result.now ≡ input_widths p = c.as_slice.ensures.value ∙ c.in_ok-widths.ensures ∙
    ap (λ (q : Program). input_widths (program_tree q)) (c.program.ensures.program ∙ c.program-program.ensures.is) in
    subst (All (λ w. w ≤ 64)) (sym w) (has_columns p typed).small

pub run_words-requires : goal.run_words-requires
run_words-requires c =
    let p = program_tree c.args.costed.program in
    let w : c.as_slice.result.now ≡ input_widths p = c.as_slice.ensures.value ∙ c.in_ok-widths.ensures ∙
    ap (λ (q : Program). input_widths (program_tree q)) (c.program.ensures.program ∙ c.program-program.ensures.is) in
    record {
      rows = (
        rows c.args.rest.now,
        rows_known p c.args.rest.now c.as_slice.result.now c.as_slice-in-Ok.result.now c.in-Ok.table.columns c.requires.rest
            w c.in-Ok.ensures.table.0 c.in-Ok.ensures.right (c.as_slice-in-Ok.ensures.value ∙ c.in-Ok.ensures.table.1),
      );
    }

pub returns-in-Ok : goal.returns-in-Ok
returns-in-Ok c =
    let p = program_tree c.args.costed.program in
    let all = st_func_trees c.args.costed.schedule in
    let table = rows c.args.rest.now in
    let ws = c.as_slice-in-Ok.result.now in
    let n = c.in-Ok.table.columns in
    let w : c.as_slice.result.now ≡ input_widths p = c.as_slice.ensures.value ∙ c.in_ok-widths.ensures ∙
    ap (λ (q : Program). input_widths (program_tree q)) (c.program.ensures.program ∙ c.program-program.ensures.is) in
    let a : AreRows p n table ws = rows_known p c.args.rest.now c.as_slice.result.now ws n c.requires.rest w c.in-Ok.ensures.table.0 c.in-Ok.ensures.right
    (c.as_slice-in-Ok.ensures.value ∙ c.in-Ok.ensures.table.1) in
    IfOk-weaker c.run_words.result (λ (r : Reply). (t : List (List (List ℕ))) → AreRows p n t ws
    → IsRunOf c.args.form c.args.fill p c.args.costed.slowdown all t r.status (string_bytes r.text))
    (λ (r : Reply). IsRunOf c.args.form c.args.fill p c.args.costed.slowdown all table r.status (string_bytes r.text)) (λ r h. h table a) c.run_words.ensures
