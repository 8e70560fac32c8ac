-- Rows of words that are right for a program, and the values of a row.
use Rattle.std.specs.Prelude.{◌≡◌, ℕ, ◌<◌, ◌^◌, List, length, None}
use Rattle.ae_seqtype.specs.ValueTree.{ValueTree}
use Rattle.ae_seq.specs.ProgramTree.{ProgramTree}
use Rattle.ae_fields.specs.Rows.{bad_row, words_in}
use Rattle.ae_rewrite.specs.Interface.{parameter_types}
use Rattle.ae_jobs.specs.Inputs.{values_of}
use Rattle.ae_jobs.specs.RunTexts.{input_widths}

-- the values of a row of words, one for each parameter
abbrev pub values_in_row : ProgramTree → (row : List ℕ) → List ValueTree
values_in_row p row = values_of (parameter_types p) row

-- fewer than 2 ^ 32 rows with the right words in each column, and their words one row after another
pub record AreRows (p : ProgramTree) (columns : ℕ) (table : List (List (List ℕ))) (words : List ℕ) : Type 0 where
  pub columns_are : columns ≡ length (input_widths p)
  pub few : length table < 2 ^ 32
  pub right : bad_row 1 (input_widths p) table ≡ None
  pub words_are : words ≡ words_in table

-- the same, where so many rows are known to be there
pub record AreBlocks (p : ProgramTree) (blocks : ℕ) (table : List (List (List ℕ))) (words : List ℕ) : Type 0 where
  pub many : blocks ≡ length table
  pub rows : AreRows p (length (input_widths p)) table words
