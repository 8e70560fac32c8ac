use Rattle.ae_vmodule.specs.declared.module.BinOp.TheVariants.{Shl, Shr}
use Rattle.ae_verilog.proofs.Steps.{shift_steps}
use Rattle.ae_verilog.proofs.cells.write_value.Goals as goal
use Rattle.ae_verilog.specs.Notes.{table_line}

pub returns-in-Shl : goal.returns-in-Shl
returns-in-Shl c =
    rw c.in-Shl.is (shift_steps (table_line c.args.names.now.lines.now) _ c.args.names.now.cells.now Shl c.args.width c.args.a.0 c.in-Shl.by _ _
    c.write_shift.ensures)

pub returns-in-Shr : goal.returns-in-Shr
returns-in-Shr c =
    rw c.in-Shr.is (shift_steps (table_line c.args.names.now.lines.now) _ c.args.names.now.cells.now Shr c.args.width c.args.a.0 c.in-Shr.by _ _
    c.write_shift-in-Shr.ensures)
