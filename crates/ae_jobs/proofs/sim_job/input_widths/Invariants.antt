use Rattle.std.proofs.Common.{◌≡◌, ◌++◌, map, drop}
use Rattle.ae_netlist.specs.declared.cell.SizedCell.{SizedCell}
use Rattle.ae_netlist.specs.Counts.{is_input, cells_of}
use Rattle.ae_jobs.proofs.sim_job.input_widths.Given as goal

abbrev pub invariant-loop-packed : goal.invariant-loop-packed
invariant-loop-packed l =
    l.widths.items ++ map (λ (s : SizedCell). s.width) (cells_of is_input (drop l.packed-index l.packed-items)) ≡ l.initial.widths.items
    ++ map (λ (s : SizedCell). s.width) (cells_of is_input l.packed-items)
