use Rattle.ae_verilog.proofs.Steps.{memory_steps}
use Rattle.ae_verilog.proofs.clocked.write_memory_edge.Goals as goal

pub returns : goal.returns
returns c =
    memory_steps _ _ _ _ _ _ _ _ _ _ _ _ _ _ _ c.in_ok-write.ensures.bytes c.in_ok-write_net.ensures c.in_ok-write-2.ensures.bytes c.in_ok-write_number.ensures
    c.in_ok-write-3.ensures.bytes c.in_ok-write_net-2.ensures c.in_ok-write-4.ensures.bytes c.in_ok-write_net-3.ensures c.write-5.ensures.bytes
