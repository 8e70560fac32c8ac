use Rattle.std.proofs.Common.{◌≡◌, ◌++◌, string_bytes}
use Rattle.ae_verilog.specs.Text.{between, declaration_text}
use Rattle.ae_verilog.proofs.cells.write_between.Given as goal
use Rattle.ae_verilog.specs.Notes.{table_line}

abbrev pub invariant-loop-k : goal.invariant-loop-k
invariant-loop-k l =
    string_bytes l.out ++ between (λ net sized. declaration_text (table_line l.names.lines.now) l.names.cells.now net sized.width sized.cell) l.names.cells.now
    l.k l.to
    ≡ string_bytes l.fn.out ++ between (λ net sized. declaration_text (table_line l.names.lines.now) l.names.cells.now net sized.width sized.cell)
    l.names.cells.now l.from l.to
