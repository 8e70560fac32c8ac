use Rattle.std.proofs.Common.{◌≡◌, ◌∙◌, ap, sym}
use Rattle.ae_word.specs.declared.op.WordOp.{WordOp}
use Rattle.ae_word.specs.declared.op.WordOp.TheVariants.{Mux}
use Rattle.ae_netlist.specs.declared.cell.Cell.TheVariants.{Op}
use Rattle.ae_netlist.proofs.ReadAt.{operand_got}
use Rattle.ae_ops.proofs.Gating.{gate_of}
use Rattle.ae_ops.proofs.sums.gate_at.Goals as goal

pub returns-in-Op-Mux-default : goal.returns-in-Op-Mux-default
returns-in-Op-Mux-default c =
    let args = c.in-Op-Mux-default.args in
    let mux : c.in-Op-Mux-default.field-0 ≡ Mux = rw c.in-Op-Mux-default.is at c.in-Op-Mux-default.field-0-is in
    rw (operand_got args 0, operand_got args 2) at (gate_of c.args.nl.now.cells c.args.net.0 c.in_ok-sized.sized args c.formed.ensures.cells
    (sym c.in_ok-sized.ensures)
    (c.in-Op-Mux-default.is ∙ ap (λ (op : WordOp). Op op args) mux)
    (rw (operand_got args 1) (c.is_zero.ensures c.if-is_zero.true)))
