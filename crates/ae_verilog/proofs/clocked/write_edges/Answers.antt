use Rattle.std.proofs.Common.{◌∙◌}
use Rattle.ae_verilog.specs.Text.{edge_text}
use Rattle.ae_verilog.proofs.Joining.{listed_more}
use Rattle.ae_verilog.proofs.clocked.write_edges.Goals as goal
use Rattle.ae_verilog.specs.Notes.{table_line}

-- one more is written
pub loop-k-preserved : goal.loop-k-preserved
loop-k-preserved c =
    listed_more (λ net sized. edge_text (table_line c.args.names.now.lines.now) c.args.names.now.cells.now net sized.cell) c.args.names.now.cells.now
    c.loop-k.k _ _ _ _ c.loop-k-test.true c.loop-k.invariant (rw (c.sized.ensures ∙ c.packed-item.is) at c.in_ok-write_edge.ensures)
