use Rattle.ae_verilog.proofs.Steps.{register_steps}
use Rattle.ae_verilog.proofs.clocked.write_register_edge.Goals as goal

pub returns : goal.returns
returns c =
    register_steps _ _ _ _ _ _ _ _ _ c.in_ok-write.ensures.bytes c.in_ok-write_number.ensures c.in_ok-write-2.ensures.bytes c.in_ok-write_net.ensures
    c.write-3.ensures.bytes
