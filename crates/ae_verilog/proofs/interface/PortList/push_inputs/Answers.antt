use Rattle.std.proofs.Common.{◌∙◌, ◌++◌, take, arith}
use Rattle.ae_verilog.specs.PortNets.{input_ports}
use Rattle.ae_verilog.proofs.PortNets.{input_behind, inputs_whole, no_port}
use Rattle.ae_verilog.proofs.interface.PortList.push_inputs.Goals as goal

pub loop-packed-init : goal.loop-packed-init
loop-packed-init c before h = no_port before c.args.self.now h

pub loop-packed-preserved : goal.loop-packed-preserved
loop-packed-preserved c before h =
    input_behind before c.push_input.new.self c.args.cells.now c.loop-packed.packed-index _ c.loop-packed-test.true
    ((rw (c.sized.ensures ∙ c.packed-item.is) at c.in_ok-push_input.ensures) (before ++ input_ports (take c.loop-packed.packed-index c.args.cells.now))
    (c.loop-packed.invariant before h))

pub returns : goal.returns
returns c before h =
    inputs_whole before c.loop-packed.self c.args.cells.now c.loop-packed.packed-index (omega (arith, c.loop-packed-test.false))
    (c.loop-packed.invariant before h)
