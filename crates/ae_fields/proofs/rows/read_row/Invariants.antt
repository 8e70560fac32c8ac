use Rattle.std.proofs.Common.{◌≡◌, ◌≤◌, ◌+◌, ◌++◌, length, drop}
use Rattle.ae_fields.specs.Cut.{fields}
use Rattle.ae_fields.specs.Rows.{wrong_column, row_words}
use Rattle.ae_fields.proofs.rows.read_row.Given as goal

abbrev pub invariant-loop-field : goal.invariant-loop-field
invariant-loop-field l = record {
  within : l.column ≤ length l.widths;
  wrong : wrong_column (l.column + 1) (drop l.column l.widths) (fields l.rest) ≡ wrong_column 1 l.widths (fields l.fn.line);
  read : l.words.items ++ row_words (fields l.rest) ≡ l.initial.words.items ++ row_words (fields l.fn.line);
}

abbrev pub decreases-loop-field : goal.decreases-loop-field
decreases-loop-field l = length l.rest
