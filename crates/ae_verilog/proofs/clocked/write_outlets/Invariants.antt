use Rattle.std.proofs.Common.{◌≡◌, ◌++◌, take, string_bytes}
use Rattle.std.specs.List.{flat_map}
use Rattle.ae_verilog.specs.Text.{assignment_text}
use Rattle.ae_verilog.proofs.clocked.write_outlets.Given as goal
use Rattle.ae_verilog.specs.Notes.{table_line}

abbrev pub invariant-loop-outlet : goal.invariant-loop-outlet
invariant-loop-outlet l =
    string_bytes l.out ≡ string_bytes l.fn.out ++ flat_map (assignment_text (table_line l.names.lines.now) l.names.cells.now l.outs)
    (take l.outlet-index l.outlets)
