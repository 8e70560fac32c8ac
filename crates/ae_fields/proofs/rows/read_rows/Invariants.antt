use Rattle.std.proofs.Common.{◌≡◌, ◌≤◌, ◌+◌, ◌++◌, length}
use Rattle.ae_fields.specs.Rows.{bad_row, rows, words_in}
use Rattle.ae_fields.proofs.rows.read_rows.Given as goal

abbrev pub invariant-loop-line : goal.invariant-loop-line
invariant-loop-line l = record {
  fits : l.row + length l.rest ≤ length l.fn.text + 1;
  wrong : bad_row l.row l.widths (rows l.rest) ≡ bad_row 1 l.widths (rows l.fn.text);
  read : l.words.items ++ words_in (rows l.rest) ≡ words_in (rows l.fn.text);
}

abbrev pub decreases-loop-line : goal.decreases-loop-line
decreases-loop-line l = length l.rest
