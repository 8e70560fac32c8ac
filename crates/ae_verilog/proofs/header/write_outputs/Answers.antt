use Rattle.std.proofs.Common.{arith}
use Rattle.ae_verilog.specs.Text.{output_text, PortFits}
use Rattle.ae_verilog.proofs.Joining.{mapped_more, first_more}
use Rattle.ae_verilog.proofs.header.write_outputs.Goals as goal

pub loop-outlet-preserved : goal.loop-outlet-preserved
loop-outlet-preserved c = (
  mapped_more (output_text c.args.cells.now c.args.outs) c.args.outlets.now c.loop-outlet.outlet-index _ _ _ _ c.loop-outlet-test.true
      c.loop-outlet.invariant.0 c.in_ok-write_output.ensures.text,
  first_more (λ outlet. PortFits outlet.port) c.args.outlets.now c.loop-outlet.outlet-index _ c.loop-outlet-test.true c.loop-outlet.invariant.1
      c.in_ok-write_output.ensures.fits,
)

pub returns-clause-fits : goal.returns-clause-fits
returns-clause-fits c k d within = c.loop-outlet.invariant.1 k d (omega arith) within
