use Rattle.ae_verilog.proofs.Steps.{part_steps}
use Rattle.ae_verilog.proofs.cells.write_cast.Goals as goal
use Rattle.ae_verilog.specs.Notes.{table_line}

pub returns-in_ok-write_net : goal.returns-in_ok-write_net
returns-in_ok-write_net c =
    part_steps (table_line c.args.names.now.lines.now) _ c.args.names.now.cells.now c.args.to c.args.a.0 _ _ _ _ _ c.width_at.ensures c.if-to-width_at.true
    c.saturating_sub-high.ensures
    c.in_ok-write_net.ensures c.write.ensures.bytes
