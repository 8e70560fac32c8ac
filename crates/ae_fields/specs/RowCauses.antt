-- Why rows are refused.
use Rattle.std.specs.Prelude.{◌≡◌, ℕ, Some, List}
use Rattle.ae_fields.specs.Rows.{bad_row, rows}
use Rattle.ae_fields.specs.declared.rows.RowFault.{RowFault}
use Rattle.ae_fields.specs.declared.rows.RowFault.TheVariants.{BadWords, Memory}

-- that row and column are the first wrong ones; want of memory says nothing
abbrev pub IsBadRow : RowFault → (text widths : List ℕ) → Type 0
IsBadRow (BadWords row column) text widths = bad_row 1 widths (rows text) ≡ Some (row, column)
IsBadRow Memory text widths = Unit {0}
