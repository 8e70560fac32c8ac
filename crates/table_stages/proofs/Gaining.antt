-- Netlists that grow.
use Rattle.std.proofs.Common.{ℕ, ◌≡◌, ◌+◌, ◌++◌, ◌∷◌, [], arith, refl, ◌∙◌}
use Rattle.std.proofs.lemmas.List.{length_push}
use Rattle.ae_netlist.specs.declared.cell.SizedCell.{SizedCell}
use Rattle.ae_netlist.specs.Circuit.{Circuit}
use Rattle.ae_netlist.proofs.Growing.{extends_append, extends_refl, extends_trans}
use Rattle.ae_gates.specs.Cells.{Adds}
use Rattle.table_stages.specs.Gains.{Gains}

pub gains_none : (a : Circuit) → Gains a a 0
gains_none a = record { extends = extends_refl a.cells; cells = omega arith; limit = refl }

pub gains_cell : (a b : Circuit) (cell : SizedCell) → b ≡ record a { cells = a.cells ++ cell ∷ [] } → Gains a b 1
gains_cell a b cell e =
    rw e (record { extends = extends_append a.cells (cell ∷ []); cells = omega (arith, length_push a.cells cell); limit = refl })

pub gains_trans : {a b c : Circuit} {m n : ℕ} → Gains a b m → Gains b c n → Gains a c (m + n)
gains_trans p q = record { extends = extends_trans p.extends q.extends; cells = omega (arith, p.cells, q.cells); limit = q.limit ∙ p.limit }

pub gains_adds : {a b : Circuit} {most products : ℕ} → Adds a b most products → Gains a b most
gains_adds p = record { extends = p.grows.extends; cells = p.cells; limit = p.grows.limit }
