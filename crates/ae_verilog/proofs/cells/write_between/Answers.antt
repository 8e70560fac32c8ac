use Rattle.std.proofs.Common.{arith}
use Rattle.ae_verilog.specs.Text.{declaration_text}
use Rattle.ae_verilog.proofs.NotedCells.{between_more}
use Rattle.ae_verilog.proofs.cells.write_between.Goals as goal
use Rattle.ae_verilog.specs.Notes.{table_line}

-- one more is written
pub loop-k-preserved : goal.loop-k-preserved
loop-k-preserved c =
    between_more (λ net sized. declaration_text (table_line c.args.names.now.lines.now) c.args.names.now.cells.now net sized.width sized.cell)
    c.args.names.now.cells.now c.loop-k.k c.args.to _ _ _ _
    (omega (arith, c.loop-k-test.true, c.min-end.ensures)) (omega (arith, c.loop-k-test.true, c.min-end.ensures))
    (rw c.sized.ensures at c.in_ok-write_cell.ensures) c.loop-k.invariant
