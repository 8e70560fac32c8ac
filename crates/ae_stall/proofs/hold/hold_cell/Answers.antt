-- A cell that needs no gate is held as it is.
use Rattle.std.proofs.Common.{arith, refl}
use Rattle.std.proofs.lemmas.Bool.{eq-eqb}
use Rattle.ae_stall.proofs.Copying.{held_idle, held_other}
use Rattle.ae_stall.proofs.hold.hold_cell.Goals as goal

pub returns-then-enable-n-clause-held : goal.returns-then-enable-n-clause-held
returns-then-enable-n-clause-held c = λ copied part.
    held_idle c.args.how.more c.args.how.by.0 c.args.nl.now.cells copied c.args.new.now.cells c.args.n c.cell_at-sized.result c.in-Mem.depth c.in-Mem.at
    c.in-Mem.next c.in-Mem.enable c.cell_at-sized.ensures c.in-Mem.is (eq-eqb c.in-Mem.enable.0 c.args.n c.if-enable-n.true) part

pub returns-in-Input : goal.returns-in-Input
returns-in-Input c = record {
  held = λ copied part. held_other c.args.how.more c.args.how.by.0 c.args.nl.now.cells copied c.args.new.now.cells c.args.n c.cell_at-sized.result
      c.cell_at-sized.ensures (λ next e. grind (arith, c.in-Input.is, e))
      (λ depth at next enable e. grind (arith, c.in-Input.is, e)) part;
  outlets = refl;
  limit = refl;
}
