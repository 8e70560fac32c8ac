-- The net that is shown is the constant.
use Rattle.std.proofs.Common.{◌≡◌, List, [], ◌∷◌, refl}
use Rattle.ae_netlist.specs.declared.cell.NetId.{NetId}
use Rattle.ae_netlist.specs.declared.cell.Cell.TheVariants.{Const}
use Rattle.ae_netlist.specs.declared.cell.SizedCell.{SizedCell}
use Rattle.ae_netlist.specs.Circuit.{Circuit, IsNet, width_of}
use Rattle.table_modules.proofs.written.second.Goals as goal

abbrev first_net : NetId
first_net = record { 0 = 0 }

abbrev one : SizedCell
one = record { width = 8; cell = Const 1 }

abbrev circuit : List SizedCell → Circuit
circuit cells = record { limit = 1; cells = cells; outlets = [] }

shown : IsNet (one ∷ []) 0 (width_of (one ∷ []) 0)
unfolding width_of
shown = record { sized = one; found = refl; plain = tt; wide = refl }

pub add_output-requires-clause-net : goal.add_output-requires-clause-net
add_output-requires-clause-net c =
    let start : c.new-nl.result ≡ circuit [] = c.new-nl.ensures in
    let added : c.add.new.self ≡ circuit (one ∷ []) = rw start at c.in_ok-one.ensures.added in
    let net : c.in_ok-one.one ≡ first_net = rw start at c.in_ok-one.ensures.ok in
    rw (added, net) shown
