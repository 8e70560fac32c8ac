use Rattle.std.proofs.Common.{sym, ◌∙◌}
use Rattle.ae_verilog.proofs.Steps.{widened_steps}
use Rattle.ae_verilog.proofs.cells.write_op.Goals as goal
use Rattle.ae_verilog.specs.Notes.{table_line}

pub returns-in_ok-write_wire_of : goal.returns-in_ok-write_wire_of
returns-in_ok-write_wire_of c =
    widened_steps (table_line c.args.names.now.lines.now) _ c.args.names.now.cells.now c.args.width c.args.k c.args.op c.args.a.0 c.args.b.0 c.args.c.0 _ _ _ _
    (sym c.widens.ensures ∙ c.if-widens.true) c.in_ok-write.ensures.bytes c.in_ok-write_wire_of.ensures c.write-then-widens.ensures.bytes
