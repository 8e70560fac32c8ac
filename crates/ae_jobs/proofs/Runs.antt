-- What `run` answers for rows of words.
use Rattle.std.proofs.Common.{◌≡◌, ℕ, ◌+◌, ◌*◌, ◌/◌, ◌^◌, ◌<◌, ◌≤◌, List, length, None, refl, ap, sym, ◌∙◌, subst, arith}
use Rattle.ae_seq.specs.ProgramTree.{ProgramTree}
use Rattle.ae_eval.specs.Stack.{IsTyped}
use Rattle.ae_fields.specs.Rows.{rows, bad_row, words_in}
use Rattle.ae_rewrite.specs.StProgramTree.{StFuncTree}
use Rattle.ae_delay.specs.declared.own.OwnCosts.{OwnCosts}
use Rattle.ae_play.specs.Lines.{clock_count}
use Rattle.ae_jobs.specs.declared.run_job.Form.{Form}
use Rattle.ae_jobs.specs.declared.status.Status.{Status}
use Rattle.ae_jobs.specs.declared.status.Status.TheVariants.{LongRun}
use Rattle.ae_jobs.specs.Refusals.{refusal_line}
use Rattle.ae_compile.specs.Costing.{main_costs}
use Rattle.ae_jobs.specs.EvalRows.{AreRows, AreBlocks}
use Rattle.ae_jobs.specs.RunTexts.{IsRunOf, input_widths, run_limit, run_size, word_count}
use Rattle.ae_jobs.proofs.RowCounts.{few_rows}
use Rattle.ae_jobs.proofs.EvalSteps.{rows_count}

-- what is known of the rows that were read
pub rows_known : (p : ProgramTree) (text widths ws : List ℕ) (columns : ℕ) → length text < 2 ^ 32 → widths ≡ input_widths p → columns ≡ length widths
    → bad_row 1 widths (rows text) ≡ None → ws ≡ words_in (rows text) → AreRows p columns (rows text) ws
rows_known p text widths ws columns lt w n right is =
    let few : length (rows text) ≤ length text = few_rows text in
    record {
      columns_are = n ∙ ap length w;
      few = omega (arith, few, lt);
      right = ap (λ us. bad_row 1 us (rows text)) (sym w) ∙ right;
      words_are = is;
    }

pub blocks_known : (p : ProgramTree) (columns : ℕ) (table : List (List (List ℕ))) (ws : List ℕ) → IsTyped p → AreRows p columns table ws
    → AreBlocks p (length ws / columns) table ws
blocks_known p columns table ws typed a = record {
  many = rows_count p columns table ws typed a;
  rows = record { columns_are = refl; few = a.few; right = a.right; words_are = a.words_are };
}

pub run_size_is : (form : Form) (p : ProgramTree) (slowdown : ℕ) (costs : OwnCosts) (columns : ℕ) (table : List (List (List ℕ))) (ws : List ℕ)
    (latency clocks words : ℕ) → IsTyped p → AreRows p columns table ws
    → latency ≡ costs.latency → clocks ≡ clock_count slowdown latency (length ws / columns) → words ≡ word_count form p slowdown
    → clocks * (1 + words) ≡ run_size form p slowdown costs.latency table
run_size_is form p slowdown costs columns table ws latency clocks words typed a el ec eo =
    let all : clocks ≡ clock_count slowdown costs.latency (length table) = ec ∙ (λ i. clock_count slowdown (el i) (rows_count p columns table ws typed a i)) in
    λ i. all i * (1 + eo i)

pub run_too_long : (form : Form) (fill : ℕ) (p : ProgramTree) (slowdown : ℕ) (instances : List StFuncTree) (columns : ℕ) (table : List (List (List ℕ)))
    (ws : List ℕ) (size : ℕ) (status : Status) (text : List ℕ) → AreRows p columns table ws
    → size ≡ run_size form p slowdown (main_costs p instances).latency table → run_limit < size → status ≡ LongRun size → text ≡ refusal_line (LongRun size)
    → IsRunOf form fill p slowdown instances table status text
run_too_long form fill p slowdown instances columns table ws size status text a es lt st te =
    let here : IsRunOf form fill p slowdown instances table (LongRun size) text = (a.right, lt, es, te) in
    subst (λ (x : Status). IsRunOf form fill p slowdown instances table x text) (sym st) here
