use Rattle.std.proofs.Common.{◌≡◌, ◌++◌, take, string_bytes}
use Rattle.ae_verilog.specs.NetlistModule.{each_numbered}
use Rattle.ae_verilog.specs.Text.{edge_text}
use Rattle.ae_verilog.proofs.clocked.write_edges.Given as goal
use Rattle.ae_verilog.specs.Notes.{table_line}

abbrev pub invariant-loop-k : goal.invariant-loop-k
invariant-loop-k l =
    string_bytes l.out ≡ string_bytes l.fn.out ++ each_numbered (λ net sized. edge_text (table_line l.names.lines.now) l.names.cells.now net sized.cell) 0
    (take l.k l.names.cells.now)
