use Rattle.std.proofs.Common.{◌∙◌, arith}
use Rattle.ae_verilog.specs.Text.{input_text, CellPortFits}
use Rattle.ae_verilog.proofs.Joining.{mapped_more, first_more}
use Rattle.ae_verilog.proofs.header.write_inputs.Goals as goal

pub loop-packed-preserved : goal.loop-packed-preserved
loop-packed-preserved c = (
  mapped_more (λ sized. input_text sized.width sized.cell) c.args.cells.now c.loop-packed.packed-index _ _ _ _ c.loop-packed-test.true c.loop-packed.invariant.0
      (rw (c.sized.ensures ∙ c.packed-item.is) at c.in_ok-write_input.ensures.text),
  first_more (λ sized. CellPortFits sized.cell) c.args.cells.now c.loop-packed.packed-index _ c.loop-packed-test.true c.loop-packed.invariant.1
      (rw (c.sized.ensures ∙ c.packed-item.is) at c.in_ok-write_input.ensures.fits),
)

pub returns-clause-fits : goal.returns-clause-fits
returns-clause-fits c k d within = c.loop-packed.invariant.1 k d (omega arith) within
