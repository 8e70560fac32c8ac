use Rattle.ae_verilog.specs.Text.{assignment_text}
use Rattle.ae_verilog.proofs.Joining.{mapped_more}
use Rattle.ae_verilog.proofs.clocked.write_outlets.Goals as goal
use Rattle.ae_verilog.specs.Notes.{table_line}

-- one more is written
pub loop-outlet-preserved : goal.loop-outlet-preserved
loop-outlet-preserved c =
    mapped_more (assignment_text (table_line c.args.names.now.lines.now) c.args.names.now.cells.now c.args.outs) c.args.outlets.now c.loop-outlet.outlet-index
    _ _ _ _ c.loop-outlet-test.true c.loop-outlet.invariant c.in_ok-write_outlet.ensures
