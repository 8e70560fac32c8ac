use Rattle.std.proofs.Common.{◌≡◌, ◌<◌, ◌^◌, ℕ, Some, get_or, slice_get}
use Rattle.ae_netlist.specs.declared.cell.SizedCell.{SizedCell}
use Rattle.ae_netlist.specs.Counts.{cells_of, is_input}
use Rattle.table_text.proofs.rows.fits.Given as goal

abbrev pub invariant-loop-k : goal.invariant-loop-k
invariant-loop-k l = (k : ℕ) (sized : SizedCell) → k < l.k → slice_get (cells_of is_input l.nl.cells) k ≡ Some sized → get_or l.row k 0 < 2 ^ sized.width
