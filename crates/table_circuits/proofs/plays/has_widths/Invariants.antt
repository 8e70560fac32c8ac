use Rattle.std.proofs.Common.{◌≡◌, ◌<◌, ℕ, Some, get_or, slice_get}
use Rattle.std.specs.Option.{option_map}
use Rattle.ae_netlist.specs.declared.cell.SizedCell.{SizedCell}
use Rattle.ae_netlist.specs.Counts.{cells_of, is_input}
use Rattle.table_circuits.proofs.plays.has_widths.Given as goal

abbrev pub invariant-loop-k : goal.invariant-loop-k
invariant-loop-k l =
    (k : ℕ) → k < l.k → option_map (λ (sized : SizedCell). sized.width) (slice_get (cells_of is_input l.nl.cells) k) ≡ Some (get_or l.widths k 0)
