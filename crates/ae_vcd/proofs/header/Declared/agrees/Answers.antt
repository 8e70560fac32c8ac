use Rattle.std.proofs.Common.{sym}
use Rattle.ae_vcd.proofs.Tables.{agrees_known, agrees_new}
use Rattle.ae_vcd.proofs.header.Declared.agrees.Goals as goal

pub returns-in-Some : goal.returns-in-Some
returns-in-Some c = λ vs t. sym (agrees_known vs c.args.code.now c.args.width c.in-Some.slot.width (c.in-Some.ensures vs t).0)

pub returns-in-None : goal.returns-in-None
returns-in-None c = λ vs t. sym (agrees_new vs c.args.code.now c.args.width (c.in-None.ensures vs t))
