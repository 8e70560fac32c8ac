-- The rings that are found.
use Rattle.std.proofs.Common.{sym}
use Rattle.std.proofs.lemmas.Bool.{leb-true}
use Rattle.ae_clocked.proofs.rows.Rings.reaches.Goals as goal

pub returns-in-Some : goal.returns-in-Some
returns-in-Some c = λ yes. (c.in-Some.row.now, sym c.in-Some.ensures, leb-true _ _ yes)
