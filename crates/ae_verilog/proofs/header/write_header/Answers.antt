use Rattle.ae_verilog.proofs.Steps.{header_steps}
use Rattle.ae_verilog.proofs.header.write_header.Goals as goal

pub returns-clause-text : goal.returns-clause-text
returns-clause-text c =
    header_steps _ c.args.name.now c.args.cells.now c.args.outlets.now c.args.outs _ _ _ _ _ c.in_ok-write.ensures.bytes c.in_ok-write_inputs.ensures.text
    c.in_ok-write_outputs.ensures.text c.write-2.ensures.bytes
