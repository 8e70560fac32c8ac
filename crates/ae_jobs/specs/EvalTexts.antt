-- The text of `eval`: a line for each row, with the words of the program's results on it.
use Rattle.std.specs.Prelude.{◌≡◌, ℕ, ◌+◌, ◌*◌, ◌<◌, ◌≤◌, List, [], ◌∷◌, ◌++◌, length, flat_map, Option, Some, None, sum_by}
use Rattle.std.specs.Fmt.{decimal}
use Rattle.ae_seqtype.specs.SeqTree.{SeqTree, words}
use Rattle.ae_seqtype.specs.ValueTree.{flat}
use Rattle.ae_seq.specs.ProgramTree.{ProgramTree}
use Rattle.ae_seq.specs.Meaning.{mean}
use Rattle.ae_fields.specs.Rows.{bad_row, row_words}
use Rattle.ae_jobs.specs.declared.status.Status.{Status}
use Rattle.ae_jobs.specs.declared.status.Status.TheVariants.{Ok, BadWords, LongRun}
use Rattle.ae_jobs.specs.Refusals.{refusal_line}
use Rattle.ae_rewrite.specs.Interface.{parameter_types, result_types}
use Rattle.ae_compile.specs.Programs.{IsTypedText}
use Rattle.ae_jobs.specs.Programs.{IsRefusal}
use Rattle.ae_jobs.specs.Inputs.{values_of}
use Rattle.ae_play.specs.Lines.{spaced}
use Rattle.ae_jobs.specs.RunTexts.{input_widths, run_limit}

-- words on a line, with a space between two
abbrev pub words_line : List ℕ → List ℕ
words_line [] = 10 ∷ []
words_line (w ∷ ws) = (decimal w ++ spaced ws) ++ 10 ∷ []

-- the words of all results on the values of a row
abbrev pub row_results : ProgramTree → List (List ℕ) → List ℕ
row_results p row = flat_map flat (mean p (values_of (parameter_types p) (row_words row)))

abbrev pub eval_text : ProgramTree → (table : List (List (List ℕ))) → List ℕ
eval_text p table = flat_map (λ row. words_line (row_results p row)) table

abbrev pub type_words : Option SeqTree → ℕ
type_words None = 0
type_words (Some t) = words t

-- for each row its number and the words of all results
abbrev pub eval_size : ProgramTree → (table : List (List (List ℕ))) → ℕ
eval_size p table = length table * (1 + sum_by type_words (result_types p))

-- what `eval` answers and writes for a program and rows: the first wrong row comes before a run that is too long
abbrev pub IsEvalOf : (p : ProgramTree) (table : List (List (List ℕ))) → Status → (text : List ℕ) → Type 0
IsEvalOf p table Ok text =
    (bad_row 1 (input_widths p) table ≡ None) × (eval_size p table ≤ run_limit) × (text ≡ eval_text p table)
IsEvalOf p table (BadWords row column) text =
    (bad_row 1 (input_widths p) table ≡ Some (row, column)) × (text ≡ refusal_line (BadWords row column))
IsEvalOf p table (LongRun size) text =
    (bad_row 1 (input_widths p) table ≡ None) × (run_limit < size) × (size ≡ eval_size p table)
    × (text ≡ refusal_line (LongRun size))
IsEvalOf p table _ text = ⊥

-- what `eval` answers and writes: the program's refusals come before those of the rows
pub data IsEvaluated (part : List ℕ) (table : List (List (List ℕ))) (status : Status) (text : List ℕ) : Type 0 where
  Refused : IsRefusal part status → text ≡ refusal_line status → IsEvaluated part table status text
  Ran : (p : ProgramTree) → IsTypedText part p → IsEvalOf p table status text → IsEvaluated part table status text
