use Rattle.ae_verilog.proofs.Steps.{input_steps}
use Rattle.ae_verilog.proofs.header.write_input.Goals as goal

pub returns-in_ok-write_range-in-Input-clause-text : goal.returns-in_ok-write_range-in-Input-clause-text
returns-in_ok-write_range-in-Input-clause-text c =
    rw c.in-Input.is (input_steps _ c.args.sized.width c.in-Input.port _ _ _ _ c.in_ok-write-in-Input.ensures.bytes c.in_ok-write_range-in-Input.ensures
    c.write_port.ensures.text)
