-- The nets that are shown are the inputs.
use Rattle.std.proofs.Common.{ℕ, ◌≡◌, List, [], ◌∷◌, ap, refl}
use Rattle.ae_netlist.specs.declared.cell.Handshake.TheVariants.{SourceValid, SinkReady}
use Rattle.ae_netlist.specs.declared.cell.NetId.{NetId}
use Rattle.ae_netlist.specs.declared.cell.Port.TheVariants.{Stream}
use Rattle.ae_netlist.specs.declared.cell.Cell.TheVariants.{Input}
use Rattle.ae_netlist.specs.declared.cell.SizedCell.{SizedCell}
use Rattle.ae_netlist.specs.Circuit.{Circuit, IsNet, width_of}
use Rattle.table_modules.proofs.written.joined.Goals as goal

abbrev net_of : ℕ → NetId
net_of n = record { 0 = n }

abbrev valid : SizedCell
valid = record { width = 1; cell = Input (Stream SourceValid) }

abbrev ready : SizedCell
ready = record { width = 1; cell = Input (Stream SinkReady) }

abbrev circuit : List SizedCell → Circuit
circuit cells = record { limit = 2; cells = cells; outlets = [] }

first_shown : IsNet (valid ∷ ready ∷ []) 0 (width_of (valid ∷ ready ∷ []) 0)
unfolding width_of
first_shown = record { sized = valid; found = refl; plain = tt; wide = refl }

second_shown : IsNet (valid ∷ ready ∷ []) 1 (width_of (valid ∷ ready ∷ []) 1)
unfolding width_of
second_shown = record { sized = ready; found = refl; plain = tt; wide = refl }

pub add_output-requires-clause-net : goal.add_output-requires-clause-net
add_output-requires-clause-net c =
    let start : c.new-nl.result ≡ circuit [] = c.new-nl.ensures in
    let one : c.add.new.self ≡ circuit (valid ∷ []) = rw start at c.in_ok-valid.ensures.added in
    let both : c.add-2.new.self ≡ circuit (valid ∷ ready ∷ []) = rw one at c.in_ok-ready.ensures.added in
    let net : c.in_ok-ready.ready ≡ net_of 1 = rw one at c.in_ok-ready.ensures.ok in
    rw (both, net) second_shown

pub add_output-requires-2-clause-net : goal.add_output-requires-2-clause-net
add_output-requires-2-clause-net c =
    let start : c.new-nl.result ≡ circuit [] = c.new-nl.ensures in
    let one : c.add.new.self ≡ circuit (valid ∷ []) = rw start at c.in_ok-valid.ensures.added in
    let both : c.add-2.new.self ≡ circuit (valid ∷ ready ∷ []) = rw one at c.in_ok-ready.ensures.added in
    let net : c.in_ok-valid.valid ≡ net_of 0 = rw start at c.in_ok-valid.ensures.ok in
    let kept : c.add_output.new.self.cells ≡ c.add-2.new.self.cells = ap (λ (n : Circuit). n.cells) c.in_ok-add_output.ensures.ok in
    rw (kept, both, net) first_shown
