use Rattle.std.proofs.Common.{◌∷◌, ◌++◌, [], arith, ap, ◌∙◌}
use Rattle.ae_verilog.specs.NetlistModule.{output_net}
use Rattle.ae_verilog.proofs.PortNets.{no_port, output_behind, outputs_whole}
use Rattle.ae_verilog.proofs.interface.PortList.push_outputs.Goals as goal

pub loop-outlet-init : goal.loop-outlet-init
loop-outlet-init c before h = no_port before c.args.self.now h

pub loop-outlet-preserved : goal.loop-outlet-preserved
loop-outlet-preserved c before h =
    output_behind before c.loop-outlet.self c.push.new.self
    (output_net c.args.cells.now c.args.outs) c.args.outlets.now c.loop-outlet.outlet-index _ c.loop-outlet-test.true
    c.in_ok-push.ensures.names (c.in_ok-push.ensures.widths ∙ ap (λ w. c.loop-outlet.self.widths.items ++ w ∷ []) c.width_at.ensures)
    (c.loop-outlet.invariant before h)

pub returns : goal.returns
returns c before h =
    outputs_whole before c.loop-outlet.self (output_net c.args.cells.now c.args.outs) c.args.outlets.now c.loop-outlet.outlet-index
    (omega (arith, c.loop-outlet-test.false)) (c.loop-outlet.invariant before h)
