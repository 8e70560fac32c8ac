use Rattle.std.proofs.Common.{◌≡◌, ◌++◌, take, map}
use Rattle.ae_vmodule.specs.declared.module.Drive.{Drive}
use Rattle.ae_vmodule.specs.declared.module.NetKind.TheVariants.{Wire}
use Rattle.ae_vread.specs.Read.{net_of}
use Rattle.ae_vread.proofs.items.drive_nets.Given as goal

-- the names so far
abbrev pub invariant-each : goal.invariant-each
invariant-each l = l.nets.items ≡ l.fn.nets.items ++ map (λ (d : Drive). net_of d.name l.high Wire l.item) (take l.drive-index l.drives)
