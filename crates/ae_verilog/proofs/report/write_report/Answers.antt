use Rattle.ae_verilog.proofs.Steps.{report_steps}
use Rattle.ae_verilog.proofs.report.write_report.Goals as goal

pub returns-clause-text : goal.returns-clause-text
returns-clause-text c =
    report_steps _ c.args.report.now _ _ _ _ _ _ _ _ _ c.in_ok-write.ensures.bytes
    (rw c.clocks-slowdown.ensures.is at c.in_ok-write_number.ensures) c.in_ok-write_number-2.ensures
    c.in_ok-write_number-3.ensures c.in_ok-write_number-4.ensures c.in_ok-write_enable.ensures
    (rw c.as_slice.ensures.value at c.in_ok-write_ins.ensures) (rw c.as_slice-2.ensures.value at c.write_outs.ensures)
