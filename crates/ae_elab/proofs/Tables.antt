-- The names of a module.
use Rattle.std.proofs.Common.{◌≡◌, ap}
use Rattle.ae_judge.specs.Table.{NameTable}

-- the declared nets of a table that is known
pub table_nets : {t u : NameTable} → t ≡ u → t.nets ≡ u.nets
table_nets e = ap (λ (t : NameTable). t.nets) e
